-- What a memory table shows.
use Rattle.std.specs.Prelude.{◌≤◌, List, length, vec_capacity}
use Rattle.lt_terms.specs.Items.{Item}
use Rattle.lt_bucket.specs.Reading.{items_in}
use Rattle.lt_mem.specs.Index.{IsIndex, table_room}
use Rattle.lt_mem.specs.declared.table.MemTable.TheInside.{Inside}

-- the items that its bytes spell
abbrev pub items_inside : Inside → List Item
items_inside inside = items_in (length inside.places.items) inside.bytes.items

-- places and heads are those of its items, and there is room for more
pub record IsIndexed (inside : Inside) : Type 0 where
  pub index : IsIndex inside.bytes.items inside.places.items inside.heads.items (items_inside inside)
  pub room : table_room ≤ vec_capacity inside.bytes
  pub room_for_places : 40818 ≤ vec_capacity inside.places
