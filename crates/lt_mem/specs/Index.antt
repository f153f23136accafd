-- Items in one buffer, and their places in it, linked where their keys share 16 bits of their hash.
use Rattle.std.specs.Prelude.{◌≡◌, ℕ, ◌+◌, ◌%◌, ◌<◌, ◌≤◌, List, [], ◌∷◌, ◌++◌, length, Some, ◌==◌}
use Rattle.std.specs.Prelude.{if◌then◌else◌, slice_index}
use Rattle.lt_terms.specs.Hashes.{key_suffix}
use Rattle.lt_terms.specs.Items.{Item, total_cost, spellings, items_of}
use Rattle.lt_mem.specs.declared.table.Place.{Place}

-- what all items in the table may cost
abbrev pub table_room : ℕ
table_room = 204092

-- the 16 bits of a key
abbrev pub bucket_of : List ℕ → ℕ
bucket_of key = key_suffix key % 65536

-- behind n items: the number of the last item in this bucket, else what was found before
unfoldable pub last_from : ℕ → ℕ → ℕ → List Item → ℕ
last_from n found b [] = found
last_from n found b (item ∷ items) = last_from (n + 1) (if bucket_of item.key == b then n + 1 else found) b items

-- the number of the last item in a bucket, from 1 on; 0 where there is none
abbrev pub last_in : ℕ → List Item → ℕ
last_in b items = last_from 0 0 b items

-- where an item begins that stands behind these, and which one is linked before it
abbrev pub place_behind : List Item → Item → Place
place_behind before item = record { at = total_cost before; before = last_in (bucket_of item.key) before }

-- the places of items that stand behind others
unfoldable pub places_from : List Item → List Item → List Place
places_from before [] = []
places_from before (item ∷ items) = place_behind before item ∷ places_from (before ++ item ∷ []) items

-- the bytes spell these items, and places and heads are theirs
pub record IsIndex (bytes : List ℕ) (places : List Place) (heads : List ℕ) (items : List Item) : Type 0 where
  pub read : items_of (length places) bytes ≡ Some items
  pub whole : bytes ≡ spellings items
  pub fits : total_cost items ≤ table_room
  pub places_are : places ≡ places_from [] items
  pub buckets : length heads ≡ 65536
  pub heads_are : (b : ℕ) → b < 65536 → slice_index heads b ≡ last_in b items
