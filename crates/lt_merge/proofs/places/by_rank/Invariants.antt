use Rattle.std.proofs.Common.{map}
use Rattle.lt_merge.specs.Places.{PointTo}
use Rattle.lt_merge.proofs.places.by_rank.Given as goal

abbrev pub invariant-loop-place : goal.invariant-loop-place
invariant-loop-place l = PointTo (map (λ item. item.now) l.all) l.newest.entries l.place
