use Rattle.std.proofs.Common.{ap, arith}
use Rattle.lt_terms.specs.Items.{item_cost, total_cost}
use Rattle.lt_store.proofs.MemoryLaws.{room-next}
use Rattle.lt_store.proofs.opening.memory_of.Goals as goal

pub add-requires-clause-room : goal.add-requires-clause-room
add-requires-clause-room c =
    omega (arith, ap total_cost c.loop-item.invariant, ap item_cost c.view.ensures.item, room-next c.args.items.now c.loop-item.item-index c.item-item.result c.loop-item-test.true c.item-item.is, c.requires.room)
