use Rattle.std.proofs.Common.{◌≡◌, length, get_or, arith, ap, Global, Vec}
use Rattle.std.proofs.lemmas.List.Folds.{length-flat_map-take}
use Rattle.lt_bucket.specs.declared.owned.Item.{Item}
use Rattle.lt_compact.proofs.planning.count.Goals as goal

pub overflow_add-count : goal.overflow_add-count
overflow_add-count c =
    let within = length-flat_map-take (λ (list : Vec Item Global). list.items) c.args.lists.now c.loop-list.list-index c.list-item.result (omega arith) in
    let here : length c.list-item.result.items ≡ length (get_or c.args.lists.now c.loop-list.list-index c.list-item.result).items = ap (λ (list : Vec Item Global). length list.items) c.list-item.is in
    omega (arith, within, here, c.len-count.ensures, c.list-item.result.ok.0, c.loop-list.invariant, c.requires)
