use Rattle.std.proofs.Common.{◌≡◌, ◌≤◌, ◌-◌, length, drop, is_some}
use Rattle.lt_terms.specs.Items.{items_of}
use Rattle.lt_bucket.proofs.reading.Items.of.Given as goal

abbrev pub invariant-loop : goal.invariant-loop
invariant-loop l = record {
  within : l.at ≤ length l.bytes;
  left : is_some (items_of l.count l.bytes) ≡ is_some (items_of (l.count - l.counter) (drop l.at l.bytes));
}
