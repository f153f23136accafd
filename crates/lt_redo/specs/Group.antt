-- The open group on the page that will be its content.
use Rattle.std.specs.Prelude.{◌≡◌, ℕ, ◌+◌, ◌-◌, ◌≤◌, List, [], ◌∷◌, ◌++◌, length, drop, IsTrue, unwrap_or}
use Rattle.std.specs.Prelude.{slice_range}
use Rattle.std.specs.List.{AllByRecursion}
use Rattle.lt_terms.specs.Bytes.{zeros}
use Rattle.lt_terms.specs.Items.{Item, is_valid, items_of, spellings, total_cost}
use Rattle.lt_format.specs.Log.{group_page, group_room}

-- the items that stand on the page: so many, in so many bytes behind the four of the header
abbrev pub items_on : List ℕ → ℕ → ℕ → List Item
items_on page count used = unwrap_or (items_of count (slice_range page 4 (4 + used))) []

-- behind the header stand these items alone
pub record IsGathered (page : List ℕ) (count used : ℕ) (items : List Item) : Type 0 where
  pub tail : drop 4 page ≡ spellings items ++ zeros (4092 - length (spellings items))
  pub count_is : count ≡ length items
  pub used_is : used ≡ total_cost items
  pub few : count ≤ used
  pub room : used ≤ group_room
  pub valid : AllByRecursion (λ item. IsTrue (is_valid item)) items

-- the item was put behind those that stood on the page in so many bytes, and they take so many now
abbrev pub Gathers : Item → List ℕ → ℕ → List ℕ → ℕ → Type 0
Gathers item old used new now = (count : ℕ) (items : List Item) → IsGathered old count used items
    → IsGathered new (count + 1) now (items ++ item ∷ [])

-- where so many items stand on the page, in so many bytes, it became the content of their group
pub record Finishes (count used : ℕ) (old new : List ℕ) : Type 0 where
  pub content : (items : List Item) → IsGathered old count used items → new ≡ group_page items
  pub gathered : (items : List Item) → IsGathered old count used items → IsGathered new count used items
