use Rattle.std.proofs.Common.{refl}
use Rattle.lt_mem.proofs.IndexLaws.{index-empty, items-empty}
use Rattle.lt_mem.proofs.table.MemTable.new.Goals as goal

pub invariant_of-result : goal.invariant_of-result
invariant_of-result c = record {
  index = index-empty _ _ _ 65536 c.in_ok-with_capacity.ensures.items c.in_ok-with_capacity-2.ensures.items (c.in_ok-vec.ensures.items_if_clones_equal (λ y e. e)) refl;
  room = c.in_ok-with_capacity.ensures.capacity;
  room_for_places = c.in_ok-with_capacity-2.ensures.capacity;
}

pub returns : goal.returns
returns c = items-empty _ _ c.in_ok-with_capacity.ensures.items c.in_ok-with_capacity-2.ensures.items
