use Rattle.std.proofs.Common.{map}
use Rattle.lt_node.specs.Changing.{child_of}
use Rattle.lt_compact.proofs.TakeLaws.{GivenSoFar}
use Rattle.lt_compact.proofs.taking.all_given.Given as goal

-- the shares from here on still get theirs
abbrev pub invariant-loop-share : goal.invariant-loop-share
invariant-loop-share l = GivenSoFar l.levels l.shares l.numbers l.rest (map child_of l.given.items) l.share-index
