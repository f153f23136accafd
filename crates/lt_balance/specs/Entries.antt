-- What a placement and a cut ask of their entries.
use Rattle.std.specs.Prelude.{◌<◌, ◌≤◌, ◌^◌, List, length}
use Rattle.std.specs.List.{All}
use Rattle.std.specs.List.Sorted.{IsNonDecreasingBy}
use Rattle.lt_tables.specs.declared.Entry.{Entry}
use Rattle.lt_tables.specs.Bucket.{capacity}

-- entries of the 64 columns, each of which fits in a bucket, by suffix
pub record AreEntries (es : List Entry) : Type 0 where
  pub columns : All (λ (e : Entry). e.column < 64) es
  pub costs : All (λ (e : Entry). e.cost ≤ capacity) es
  pub order : IsNonDecreasingBy (λ (e : Entry). e.suffix) es
  pub few : length es < 2 ^ 32
