-- Borrowed items under the ranks of their keys.
use Rattle.std.specs.Prelude.{◌≡◌, ℕ, List, map, IsTrue}
use Rattle.std.specs.List.{AllByRecursion}
use Rattle.lt_terms.specs.Items.{Item, is_valid}
use Rattle.lt_item.specs.declared.view.ItemView.{ItemView}
use Rattle.lt_item.specs.Views.{item_of}

-- a key and the item that is borrowed under it
abbrev pub shown : List ℕ × ItemView → List ℕ × Item
shown entry = (entry.0, item_of entry.1)

-- the keys and the items that are borrowed under them
abbrev pub ranked_entries : List (List ℕ × ItemView) → List (List ℕ × Item)
ranked_entries entries = map shown entries

-- a valid item stands under its own key
pub record IsRanked (entry : List ℕ × ItemView) : Type 0 where
  pub own : entry.0 ≡ entry.1.key.now
  pub valid : IsTrue (is_valid (item_of entry.1))

-- a valid item stands under its own key, in each of the entries
abbrev pub AreRanked : List (List ℕ × ItemView) → Type 0
AreRanked entries = AllByRecursion IsRanked entries
