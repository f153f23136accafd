-- What an item shows that owns its bytes.
use Rattle.std.specs.Prelude.{◌≡◌, ◌≤◌, length, take, drop, IsTrue}
use Rattle.lt_terms.specs.Items.{Item, is_valid}
use Rattle.lt_item.specs.Parts.{parts_of}
use Rattle.lt_bucket.specs.declared.owned.Item.TheInside.{Inside}

-- its key and value, which stand one behind the other
abbrev pub item_in_bytes : Inside → Item
item_in_bytes inside = record {
  kind = inside.kind;
  key = take inside.key_len inside.bytes.items;
  value = drop inside.key_len inside.bytes.items;
}

-- the key lies within the bytes, the item is valid, and the parts are those of its key
pub record IsOwned (inside : Inside) : Type 0 where
  pub within : inside.key_len ≤ length inside.bytes.items
  pub valid : IsTrue (is_valid (item_in_bytes inside))
  pub parts : inside.parts ≡ parts_of (item_in_bytes inside).key
