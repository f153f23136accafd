-- Borrowed items as items, and items in bytes.
use Rattle.std.specs.Prelude.{◌≡◌, ℕ, ◌+◌, ◌≤◌, List, [], ◌∷◌, ◌++◌, length, take, drop}
use Rattle.lt_terms.specs.Bytes.{u16, filled}
use Rattle.lt_terms.specs.Items.{Item, item_cost, kind_byte, spelling}
use Rattle.lt_item.specs.declared.view.ItemView.{ItemView}

-- the item that is borrowed
abbrev pub item_of : ItemView → Item
item_of view = record { kind = view.kind; key = view.key.now; value = view.value.now }

-- an item that was read in these bytes, and the bytes from the place behind it on
abbrev pub found_in : List ℕ → ItemView × ℕ → Item × List ℕ
found_in bytes found = (item_of found.0, drop found.1 bytes)

-- the four bytes in front of the key
abbrev pub header_of : Item → List ℕ
header_of item = (kind_byte item.kind ∷ length item.key ∷ []) ++ u16 (length item.value)

-- the bytes with an item spelled from a place on, and all else as it was
abbrev pub item_written : List ℕ → ℕ → Item → List ℕ
item_written old at item = take at old ++ spelling item ++ drop (at + item_cost item) old

-- the header, the key and the value, put one behind the other, are the item written
abbrev pub WritesInParts : Item → List ℕ → ℕ → Type 0
WritesInParts item old at =
    let key_at = at + 4 in
    let value_at = key_at + length item.key in
    at ≤ length old
    → filled (filled (filled old at (header_of item)) key_at item.key) value_at item.value ≡ item_written old at item
