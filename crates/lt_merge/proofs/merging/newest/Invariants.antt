use Rattle.std.proofs.Common.{◌≡◌, ◌+◌, ◌≤◌, ◌++◌, map, length, Some, vec_len, vec_capacity}
use Rattle.std.specs.List.{flat_map}
use Rattle.lt_merge.proofs.merging.newest.Given as goal

-- the items of the lists so far were moved, and there is room for the others
abbrev pub invariant-loop-list : goal.invariant-loop-list
invariant-loop-list l = record {
  moved : l.slots.items ++ map Some (flat_map (λ list. list.items) l.list-iterator.rest.items) ≡ map Some (flat_map (λ list. list.items) l.fn.lists.items);
  room : vec_len l.slots + length (flat_map (λ list. list.items) l.list-iterator.rest.items) ≤ vec_capacity l.slots;
}
