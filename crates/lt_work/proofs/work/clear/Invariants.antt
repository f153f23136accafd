use Rattle.std.specs.Prelude.{◌≡◌, map, take}
use Rattle.lt_node.specs.Changing.{child_of}
use Rattle.lt_work.specs.Committing.{cleared_of}
use Rattle.lt_work.proofs.work.clear.Given as goal

-- the marks are off the children that were met
abbrev pub invariant-loop-child : goal.invariant-loop-child
invariant-loop-child l = l.marks ≡ cleared_of l.fn.marks (map child_of (take l.child-index l.children))
