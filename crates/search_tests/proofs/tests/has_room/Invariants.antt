use Rattle.std.proofs.Common.{◌+◌, ◌≤◌, take}
use Rattle.std.specs.List.{AllByRecursion}
use Rattle.lt_format.specs.Layout.{extent_block}
use Rattle.search_tests.specs.declared.tests.TheConstants.{GEOMETRY}
use Rattle.search_tests.proofs.tests.has_room.Given as goal

-- the device has the extents so far
abbrev pub invariant-loop-x : goal.invariant-loop-x
invariant-loop-x g l = AllByRecursion (λ x. extent_block GEOMETRY x + 65 ≤ l.blocks) (take l.x-index l.x-items)
