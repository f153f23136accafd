use Rattle.std.proofs.Common.{◌≡◌, map, take}
use Rattle.std.specs.List.{flat_map}
use Rattle.lt_merge.proofs.places.borrowed.Given as goal

abbrev pub invariant-loop-list : goal.invariant-loop-list
invariant-loop-list l = map (λ item. item.now) l.all.items ≡ flat_map (λ list. list.items) (take l.list-index l.lists)
