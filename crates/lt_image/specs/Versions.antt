-- What opening reads of an image, or the first damaged block; all versions on an image in one list, and the map that
-- they make; the tables on a key's path, and what a search along them finds.
use Rattle.std.specs.Prelude.{ℕ, ◌+◌, List, length, Result, Ok, zero, suc, ◌-◌, [], ◌++◌, ◌==◌, Bool, ◌∷◌, map}
use Rattle.std.specs.Prelude.{reverse, Option, None}
use Rattle.std.specs.List.{filter, flat_map, enumerate_from, range_with_len}
use Rattle.std.specs.Option.{option_or}
use Rattle.lt_terms.specs.Bytes.{Image}
use Rattle.lt_terms.specs.Hashes.{home_column}
use Rattle.lt_terms.specs.Items.{Item, Map, empty_map, after_items}
use Rattle.lt_format.specs.Snapshot.{Named, manifest_of, ◌>>=◌}
use Rattle.lt_format.specs.Log.{log_groups, items_in}
use Rattle.lt_tables.specs.Filter.{covers}
use Rattle.lt_tables.specs.Table.{blocks_from, table_items, newest_of}
use Rattle.lt_format.specs.declared.geometry.Geometry.{Geometry}
use Rattle.lt_format.specs.declared.node_id.NodeId.{NodeId}
use Rattle.lt_format.specs.Layout.{extent_block}
use Rattle.lt_format.specs.Trie.{Node, Trie, named, path, node_at}

-- what an image names, and the groups of the log that its manifest names
pub record Opened : Type 0 where
  pub named : Named
  pub groups : List (List Item)

-- the manifest of an image and the groups of its log, or the first damaged block
unfoldable pub open_image : Image → Result Opened ℕ
open_image image = do
  named ← manifest_of image
  groups ← log_groups named.geometry image named.manifest.header.log_area named.manifest.header.writes
  Ok (record { named = named; groups = groups })

-- the items of the log, in order
abbrev pub log_items : Opened → List Item
log_items o = items_in o.groups

-- how many writes the image has: the manifest's number, and the items of the log
abbrev pub number_of : Opened → ℕ
number_of o = o.named.manifest.header.writes + length (log_items o)

-- block c of extent x
abbrev pub extent_in : Geometry → Image → ℕ → ℕ → List ℕ
extent_in g image x = blocks_from image (extent_block g x)

-- the items of a table, in whichever bucket they lie
abbrev pub items_at : Geometry → Image → ℕ → List Item
items_at g image x = table_items (extent_in g image x)

-- the items of a pile, the oldest table first
abbrev pub pile_items : Geometry → Image → List ℕ → List Item
pile_items g image tables = flat_map (items_at g image) tables

-- the nodes of a level, by number
abbrev pub level_nodes : Trie → ℕ → Trie
level_nodes trie level = filter (λ (e : NodeId × Node). e.0.level == level) trie

-- the items of the tables of a level
abbrev pub level_items : Geometry → Image → Trie → ℕ → List Item
level_items g image trie level =
    flat_map (λ (e : NodeId × Node). pile_items g image e.1.tables) (level_nodes trie level)

-- the items of so many levels from the root down, the deepest of them first
unfoldable pub items_above : Geometry → Image → Trie → ℕ → List Item
items_above g image trie zero = []
items_above g image trie (suc level) = level_items g image trie level ++ items_above g image trie level

-- the items of all tables, the deepest level first
abbrev pub stored_items : Opened → Image → List Item
stored_items o image = items_above o.named.geometry image o.named.manifest.trie o.named.geometry.levels

-- all versions: those of the tables, then those of the log
unfoldable pub versions : Opened → Image → List Item
versions o image = stored_items o image ++ log_items o

-- the map of an image
abbrev pub map_of : Opened → Image → Map
map_of o image = after_items empty_map (versions o image)

-- how many extents a manifest does not name
abbrev pub free_extents : Named → ℕ
free_extents m = m.manifest.header.extents - length (named m.manifest.trie)

-- a table on a key's path: its place in its pile, and its extent
pub record Stop : Type 0 where
  pub node : NodeId
  pub index : ℕ
  pub extent : ℕ

-- the tables of a pile, the newest first
abbrev pub stops_of : NodeId → Node → List Stop
stops_of id n =
    reverse (map (λ (p : ℕ × ℕ). record { node = id; index = p.0; extent = p.1 }) (enumerate_from 0 n.tables))

-- the tables on a key's path, from the root down
abbrev pub stops : ℕ → Trie → List ℕ → List Stop
stops levels trie key =
    flat_map (λ level. stops_of (path key level) (node_at trie (path key level))) (range_with_len 0 levels)

-- what the first element gives that gives something
abbrev pub first_some : {A B : Type 0} → (A → Option B) → List A → Option B
first_some f [] = None
first_some f (x ∷ xs) = option_or (f x) (first_some f xs)

-- what the first table on the path that holds the key has of it, where `held` gives the items of an extent's table
abbrev pub at_stops : (ℕ → List Item) → ℕ → Trie → List ℕ → Option Item
at_stops held levels trie key = first_some (λ (s : Stop). newest_of key (held s.extent)) (stops levels trie key)

-- the newest version of a key on an image: the log's, and else that of the first table on its path that holds it
abbrev pub found : Opened → Image → List ℕ → Option Item
found o image key =
    option_or (newest_of key (log_items o))
    (at_stops (items_at o.named.geometry image) o.named.geometry.levels o.named.manifest.trie key)

-- the table's home filter covers the key
abbrev pub is_covered : Geometry → Image → List ℕ → Stop → Bool
is_covered g image key s = covers (extent_in g image s.extent 64) (home_column key) key
