-- Places in a list, and what stands there.
use Rattle.std.specs.Prelude.{◌≡◌, ◌≢◌, ℕ, ◌<◌, List, Option, Some, None, IsSome, length, take, map, slice_get}
use Rattle.std.specs.Prelude.{slice_index, slice_index_or}
use Rattle.lt_terms.specs.Items.{Item}
use Rattle.lt_tables.specs.Table.{ranked}

-- no place stands twice
pub record AreApart (places : List ℕ) : Type 0 where
  pub each : (i k : ℕ) → i < k → k < length places → slice_index places i ≢ slice_index places k

-- at each place something stands
pub record AreFilled (slots : List (Option Item)) (places : List ℕ) : Type 0 where
  pub within : (i : ℕ) → i < length places → slice_index places i < length slots
  pub each : (i : ℕ) → i < length places → IsSome (slice_index_or slots (slice_index places i) None)

-- entries under keys, with what their values stand for
abbrev pub with_values : {V W : Type 0} → (V → W) → List (List ℕ × V) → List (List ℕ × W)
with_values f es = map (λ e. (e.0, f e.1)) es

-- the places under the keys are those of the newest of the first n items
abbrev pub PointTo : List Item → List (List ℕ × ℕ) → ℕ → Type 0
PointTo all entries n = with_values (slice_get all) entries ≡ with_values Some (ranked (take n all))
