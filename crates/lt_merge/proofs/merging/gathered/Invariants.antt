use Rattle.std.proofs.Common.{◌≡◌, ℕ, ◌<◌, ◌≤◌, map, length, take, Some, None, vec_len, vec_capacity}
use Rattle.std.specs.Prelude.{slice_index, slice_index_or}
use Rattle.lt_merge.proofs.merging.gathered.Given as goal

-- the items at the places so far were moved, and those at the others stand
abbrev pub invariant-loop-place : goal.invariant-loop-place
invariant-loop-place l = record {
  moved : map Some l.items.items ≡ map (λ p. slice_index_or l.fn.slots.items p None) (take l.place-index l.order);
  left : (k : ℕ) → l.place-index ≤ k → k < length l.order → slice_index_or l.slots.items (slice_index l.order k) None ≡ slice_index_or l.fn.slots.items (slice_index l.order k) None;
  len : length l.slots.items ≡ length l.fn.slots.items;
  count : vec_len l.items ≡ l.place-index;
  capacity : vec_capacity l.items ≡ vec_capacity l.fn.items;
}
