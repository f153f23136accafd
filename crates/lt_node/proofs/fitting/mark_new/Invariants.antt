use Rattle.std.specs.Prelude.{take, length, true}
use Rattle.lt_node.proofs.MarkLaws.{TellsMore}
use Rattle.lt_node.proofs.fitting.mark_new.Given as goal

abbrev pub invariant-loop-number : goal.invariant-loop-number
invariant-loop-number l = TellsMore (length l.fn.marks) l.fn.marks (take l.number-index l.numbers) true l.marks
