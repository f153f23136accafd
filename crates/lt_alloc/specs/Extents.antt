-- Extents are seen as a list that says of each number whether it is taken.
use Rattle.std.specs.Prelude.{◌≡◌, ◌≢◌, ℕ, ◌<◌, Bool, true, not, ◌&&◌, List, ◌++◌, length, All, AllPairs, count_by}
use Rattle.std.specs.Prelude.{IsTrue, slice_index_or}
use Rattle.lt_terms.specs.Bytes.{is_in}

-- this is the number of an extent, and it is free
abbrev pub is_free : List Bool → ℕ → Bool
is_free extents number = not (slice_index_or extents number true)

-- how many are free
abbrev pub free_count : List Bool → ℕ
free_count extents = count_by not extents

-- so many extents, of which these are taken
pub record AreTaken (count : ℕ) (used : List ℕ) (extents : List Bool) : Type 0 where
  pub len : length extents ≡ count
  pub free : (n : ℕ) → n < count → is_free extents n ≡ not (is_in n used)

-- count more numbers stand behind the list; they were free, they differ, and nothing else is taken with them
pub record Reserves (count : ℕ) (old new : List Bool) (before after : List ℕ) : Type 0 where
  pub numbers : List ℕ
  pub appended : after ≡ before ++ numbers
  pub len : length numbers ≡ count
  pub were_free : All (λ n. IsTrue (is_free old n)) numbers
  pub differ : AllPairs ◌≢◌ numbers
  pub same_extents : length new ≡ length old
  pub others_stay : (n : ℕ) → is_free new n ≡ (is_free old n && not (is_in n numbers))
