-- A page on which a bucket is being written.
use Rattle.std.specs.Prelude.{◌≡◌, ℕ, ◌≤◌, List, ◌∷◌, ◌++◌, Option, IsTrue, is_some, take, drop}
use Rattle.lt_terms.specs.Items.{Item, items_of, spellings, total_cost}
use Rattle.lt_terms.specs.Bytes.{u16, zeros}
use Rattle.lt_tables.specs.declared.Sends.{Sends}
use Rattle.lt_tables.specs.Bucket.{capacity, sends_bytes}
use Rattle.lt_bucket.specs.Reading.{items_in}

-- the 16 bytes in front of the items
abbrev pub header_of : ℕ → ℕ → Option Sends → List ℕ
header_of count used sends = u16 count ++ u16 used ++ sends_bytes sends ++ (1 ∷ zeros 5)

-- the bytes behind the header that are in use
abbrev pub used_bytes : List ℕ → ℕ → List ℕ
used_bytes page used = take used (drop 16 page)

-- the items that stand there
abbrev pub items_used : List ℕ → ℕ → ℕ → List Item
items_used page count used = items_in count (used_bytes page used)

-- they are this many, nothing else stands there, and they fit in a bucket
pub record IsSpelled (page : List ℕ) (count used : ℕ) : Type 0 where
  pub items : IsTrue (is_some (items_of count (used_bytes page used)))
  pub whole : used_bytes page used ≡ spellings (items_used page count used)
  pub used_is : total_cost (items_used page count used) ≡ used
  pub fits : used ≤ capacity
