-- When an image is sound. The blocks that show that it is not are listed in order, and only the first counts: those
-- after it may rest on what it spoiled.
-- What an image stands for, and prefixes of writes.
use Rattle.std.specs.Prelude.{ℕ, ◌+◌, ◌*◌, Bool, true, false, not, ◌&&◌, ◌||◌, List, [], ◌∷◌, ◌++◌, map, length}
use Rattle.std.specs.Prelude.{Option, Some, None, is_none, nat_lt, ◌==◌, if◌then◌else◌, slice_range, ◌≡◌, ◌-◌, ◌/◌}
use Rattle.std.specs.Prelude.{◌≤◌, take, Ok, nat_le}
use Rattle.std.specs.List.{filter, flat_map, list_any, enumerate_from}
use Rattle.std.specs.Option.{option_map_or}
use lib.Pointwise.{pointwise}
use Rattle.lt_terms.specs.Bytes.{Image, same_bytes, is_in}
use Rattle.lt_terms.specs.Items.{Item, kind_byte, after_items}
use Rattle.lt_tables.specs.declared.Sends.{Sends}
use Rattle.lt_tables.specs.declared.ColumnPlan.{ColumnPlan}
use Rattle.lt_tables.specs.Bucket.{Bucket, bucket_of, items_on}
use Rattle.lt_tables.specs.Filter.{filter_block, group_block}
use Rattle.lt_tables.specs.Placement.{columns, placement_of}
use Rattle.lt_tables.specs.Table.{bucket_in, newest}
use Rattle.lt_format.specs.declared.geometry.Geometry.{Geometry}
use Rattle.lt_format.specs.declared.node_id.NodeId.{NodeId}
use Rattle.lt_format.specs.Layout.{extent_block, area_block, extent_blocks}
use Rattle.lt_format.specs.Trie.{Node, path, same_node, named, table_total}
use Rattle.lt_image.specs.Versions.{Opened, extent_in, free_extents, items_at, map_of, number_of, open_image}
use Rattle.lt_image.specs.Versions.{stored_items}
use Rattle.lt_language.specs.Machine.{State}
use Rattle.lt_format.specs.Snapshot.{Named, manifest_of}

-- one block, where a test gives true
abbrev pub block_if : Bool → ℕ → List ℕ
block_if test block = if test then block ∷ [] else []

-- the two items are equal
abbrev pub same_item : Item → Item → Bool
same_item a b = kind_byte a.kind == kind_byte b.kind && same_bytes a.key b.key && same_bytes a.value b.value

-- the two targets with their marks are equal
abbrev pub same_sends : Option Sends → Option Sends → Bool
same_sends None None = true
same_sends (Some a) (Some b) = a.target == b.target && a.mark == b.mark
same_sends a b = false

-- the two buckets are equal
abbrev pub same_bucket : Bucket → Bucket → Bool
same_bucket a b = same_sends a.sends b.sends && pointwise same_item a.items b.items

-- the page spells this bucket
abbrev pub spells : List ℕ → Bucket → Bool
spells page b = option_map_or (λ a. same_bucket a b) (bucket_of page) false

-- the items of a table, each with the column of its bucket
abbrev pub located_items : (ℕ → List ℕ) → List (ℕ × Item)
located_items block = flat_map (λ c. map (λ item. (c, item)) (items_on (block c))) columns

-- the columns of items that do not belong to the node, or whose key stands before them
abbrev pub stray_columns : NodeId → List (List ℕ) → List (ℕ × Item) → List ℕ
stray_columns id keys [] = []
stray_columns id keys (found ∷ items) =
    let key = found.1.key in
    block_if (not (same_node (path key id.level) id) || list_any (same_bytes key) keys) found.0
    ++ stray_columns id (key ∷ keys) items

-- the columns whose page does not spell the placement's bucket; the first column where there is no placement
abbrev pub misplaced_columns : (ℕ → List ℕ) → List Item → Option (List ColumnPlan) → List ℕ
misplaced_columns block items None = 0 ∷ []
misplaced_columns block items (Some plans) = filter (λ c. not (spells (block c) (bucket_in plans items c))) columns

-- the blocks of a table that show that it is not sound, by their number in the extent; the items are those of the
-- table in rank order
unfoldable pub bad_in_table : NodeId → (ℕ → List ℕ) → List Item → List ℕ
bad_in_table id block items =
    filter (λ c. is_none (bucket_of (block c))) columns
    ++ block_if (length items == 0) 0
    ++ stray_columns id [] (located_items block)
    ++ misplaced_columns block items (placement_of items)
    ++ block_if (not (same_bytes (block 64) (filter_block items))) 64

-- the blocks of an image that show that the table in an extent is not sound
abbrev pub bad_table_blocks : Geometry → Image → NodeId → ℕ → List ℕ
bad_table_blocks g image id x =
    map (λ c. extent_block g x + c) (bad_in_table id (extent_in g image x) (newest (items_at g image x)))

-- the filter blocks of tables
abbrev pub filter_blocks : Geometry → Image → List ℕ → List (List ℕ)
filter_blocks g image tables = map (λ x. extent_in g image x 64) tables

-- the blocks of group number j of a pile that are not the transpose of its tables' filter blocks
abbrev pub bad_group_blocks : Geometry → Image → List ℕ → ℕ × ℕ → List ℕ
bad_group_blocks g image tables (j, x) =
    let filters = filter_blocks g image (slice_range tables (64 * j) (64 * j + 64)) in
    map (λ c. extent_block g x + c) (filter
    (λ c. not (same_bytes (extent_in g image x c) (group_block filters c))) columns)

-- the blocks that show that a node is not sound: those of its tables, and then those of its groups
abbrev pub bad_node_blocks : Geometry → Image → NodeId × Node → List ℕ
bad_node_blocks g image (id, n) =
    flat_map (bad_table_blocks g image id) n.tables
    ++ flat_map (bad_group_blocks g image n.tables) (enumerate_from 0 n.groups)

-- the blocks that show that an image on which opening found no damage is not sound; the manifest's first block where
-- the tables hold more items than there were writes
unfoldable pub bad_blocks : Opened → Image → List ℕ
bad_blocks o image =
    flat_map (bad_node_blocks o.named.geometry image) o.named.manifest.trie
    ++ block_if (nat_lt o.named.manifest.header.writes (length (stored_items o image))) (area_block o.named.area)

-- the image is sound, and has this map and this number of writes
pub record Stands (image : Image) (s : State) : Type 0 where
  pub opened : Opened
  pub opens : open_image image ≡ Ok opened
  pub sound : bad_blocks opened image ≡ []
  pub map : map_of opened image ≡ s.map
  pub writes : number_of opened ≡ s.writes

-- a block that lies in an extent which the manifest does not name
abbrev pub is_free_block : Named → ℕ → Bool
is_free_block m n =
    let x = (n - extent_block m.geometry 0) / extent_blocks in
    nat_le (extent_block m.geometry 0) n && nat_lt x m.manifest.header.extents && not (is_in x (named m.manifest.trie))

-- the state after these writes
abbrev pub after_writes : State → List Item → State
after_writes s writes = record { map = after_items s.map writes; writes = s.writes + length writes }

-- the image has the first of the writes after a state: at least k of them, and each one whole
pub record IsPrefix (image : Image) (start : State) (writes : List Item) (k : ℕ) : Type 0 where
  pub count : ℕ
  pub at_least : k ≤ count
  pub at_most : count ≤ length writes
  pub stands : Stands image (after_writes start (take count writes))

-- the image's manifest names this many tables, and this many extents are not named
pub record HasCounts (image : Image) (tables free : ℕ) : Type 0 where
  pub named : Named
  pub names : manifest_of image ≡ Ok named
  pub tables_are : tables ≡ table_total named.manifest.trie
  pub free_are : free ≡ free_extents named
