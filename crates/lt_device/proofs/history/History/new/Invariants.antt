use Rattle.std.proofs.Common.{◌≡◌, ◌≤◌, vec_capacity}
use Rattle.std.specs.List.{All}
use Rattle.lt_terms.specs.Bytes.{IsBlock}
use Rattle.lt_device.proofs.history.History.new.Given as goal

abbrev pub invariant-loop : goal.invariant-loop
invariant-loop l = record {
  blocks : All (λ entry. IsBlock entry.before) l.entries.items;
  few : l.entries.len ≡ l.counter;
  room : l.limit ≤ vec_capacity l.entries;
}
