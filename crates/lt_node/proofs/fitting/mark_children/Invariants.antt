use Rattle.std.specs.Prelude.{take, length, true, map}
use Rattle.lt_format.specs.Changes.{given_extents}
use Rattle.lt_node.specs.Changing.{child_of}
use Rattle.lt_node.proofs.MarkLaws.{TellsMore}
use Rattle.lt_node.proofs.fitting.mark_children.Given as goal

abbrev pub invariant-loop-child : goal.invariant-loop-child
invariant-loop-child l = TellsMore (length l.fn.marks) l.fn.marks (given_extents (map child_of (take l.child-index l.children))) true l.marks
