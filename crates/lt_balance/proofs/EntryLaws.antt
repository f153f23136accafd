-- Parts of entries are entries.
use Rattle.std.proofs.Common.{ℕ, ◌<◌, ◌≤◌, List, take, drop, arith}
use Rattle.std.proofs.lemmas.List.{length-take, length-drop}
use Rattle.std.proofs.lemmas.List.Elements.{All-take, All-drop}
use Rattle.std.proofs.lemmas.List.Sorted.{IsNonDecreasingBy-take, IsNonDecreasingBy-drop}
use Rattle.lt_tables.specs.declared.Entry.{Entry}
use Rattle.lt_tables.specs.Bucket.{capacity}
use Rattle.lt_balance.specs.Entries.{AreEntries}

pub AreEntries-take : (n : ℕ) (es : List Entry) → AreEntries es → AreEntries (take n es)
AreEntries-take n es entries = record {
  columns = All-take (λ (e : Entry). e.column < 64) n es entries.columns;
  costs = All-take (λ (e : Entry). e.cost ≤ capacity) n es entries.costs;
  order = IsNonDecreasingBy-take (λ (e : Entry). e.suffix) n es entries.order;
  few = let few = entries.few in let short = length-take n es in omega arith;
}

pub AreEntries-drop : (n : ℕ) (es : List Entry) → AreEntries es → AreEntries (drop n es)
AreEntries-drop n es entries = record {
  columns = All-drop (λ (e : Entry). e.column < 64) n es entries.columns;
  costs = All-drop (λ (e : Entry). e.cost ≤ capacity) n es entries.costs;
  order = IsNonDecreasingBy-drop (λ (e : Entry). e.suffix) n es entries.order;
  few = let few = entries.few in let short = length-drop n es in omega arith;
}
