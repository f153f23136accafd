use Rattle.std.proofs.Common.{◌≡◌, ◌≤◌, take}
use Rattle.lt_compact.specs.Plans.{extents_for}
use Rattle.lt_compact.proofs.filling.spot_of.Given as goal

-- the extents of the shares so far stand before
abbrev pub invariant-loop-index : goal.invariant-loop-index
invariant-loop-index l = record {
  first : l.first ≡ extents_for l.levels (take l.index l.shares);
  before : l.first ≤ l.filled;
}
