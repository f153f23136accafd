use Rattle.std.specs.Prelude.{take}
use Rattle.lt_node.proofs.MarkLaws.{MarksMore}
use Rattle.lt_node.proofs.fitting.mark.Given as goal

abbrev pub invariant-loop-number : goal.invariant-loop-number
invariant-loop-number l = MarksMore l.fn.marks (take l.number-index l.numbers) l.marks
