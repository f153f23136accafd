use Rattle.std.proofs.Common.{◌≡◌, take}
use Rattle.lt_compact.specs.Plans.{extents_for}
use Rattle.lt_compact.proofs.planning.needed.Given as goal

-- the extents of the shares so far
abbrev pub invariant-loop-share : goal.invariant-loop-share
invariant-loop-share l = l.needed ≡ extents_for l.levels (take l.share-index l.shares)
