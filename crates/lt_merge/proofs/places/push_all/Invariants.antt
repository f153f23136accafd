use Rattle.std.proofs.Common.{◌≡◌, ◌++◌, map, take}
use Rattle.lt_merge.proofs.places.push_all.Given as goal

abbrev pub invariant-loop-item : goal.invariant-loop-item
invariant-loop-item l = map (λ item. item.now) l.all.items ≡ map (λ item. item.now) l.fn.all.items ++ take l.item-index l.list
