use Rattle.std.proofs.Common.{◌≡◌, ◌+◌, ◌++◌, map, length, Some, vec_len, vec_capacity}
use Rattle.lt_merge.proofs.merging.fill.Given as goal

abbrev pub invariant-loop-item : goal.invariant-loop-item
invariant-loop-item l = record {
  moved : l.slots.items ++ map Some l.item-iterator.rest.items ≡ l.fn.slots.items ++ map Some l.fn.list.items;
  len : vec_len l.slots + length l.item-iterator.rest.items ≡ vec_len l.fn.slots + vec_len l.fn.list;
  capacity : vec_capacity l.slots ≡ vec_capacity l.fn.slots;
}
