use Rattle.std.proofs.Common.{◌≡◌, ◌-◌, ◌*◌, ◌≤◌, ◌++◌, take, drop, vec_capacity, vec_len}
use Rattle.lt_compact.proofs.filling.tables_of.Given as goal

-- the numbers at the places so far
abbrev pub invariant-loop-place : goal.invariant-loop-place
invariant-loop-place l = record {
  tables : l.tables.items ≡ take (l.place - 64 * l.group) (drop (64 * l.group) (l.behind ++ l.new));
  count : vec_len l.tables ≡ l.place - 64 * l.group;
  room : 64 ≤ vec_capacity l.tables;
}
