use Rattle.std.proofs.Common.{◌≡◌, ◌≤◌, length, take}
use Rattle.lt_tables.specs.Table.{with_digit}
use Rattle.lt_merge.proofs.dealing.count.Given as goal

abbrev pub invariant-loop-item : goal.invariant-loop-item
invariant-loop-item l = record {
  counted : l.count ≡ length (with_digit l.level l.digit (take l.item-index l.items));
  few : l.count ≤ l.item-index;
}
