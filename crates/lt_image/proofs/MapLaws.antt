-- The map of an image after a flush is the map before.
use Rattle.std.proofs.Common.{◌≡◌, ℕ, suc, ◌<◌, sym, ap, subst, ◌∙◌, List, [], ◌∷◌, Bool, true, false, cond, Option, Some, arith}
use Rattle.std.specs.Cmp.Lexicographic.{nat_list_cmp_total}
use Rattle.std.specs.FinMap.{same_map, slice_cmp-IsAntisymmetric, nat_cmp-IsAntisymmetric, find}
use Rattle.std.specs.List.{flat_map, AllByRecursion}
use Rattle.std.specs.Option.{option_or, unwrap_or}
use Rattle.lt_terms.specs.Bytes.{Image}
use Rattle.lt_terms.specs.Items.{Item, Map, value_at}
use Rattle.lt_tables.specs.Bucket.{items_on}
use Rattle.lt_tables.specs.Placement.{columns}
use Rattle.lt_tables.specs.Table.{table_items, newest_of, value_of}
use Rattle.lt_tables.specs.Alike.{SameNewest}
use Rattle.lt_tables.proofs.TableLaws.{flat_map-range}
use Rattle.lt_tables.proofs.NewestLaws.{SameNewest-refl}
use Rattle.lt_tables.proofs.VersionLaws.{get_versions}
use Rattle.lt_tables.proofs.ListLaws.{all_left, all_right, all_weaker}
use Rattle.lt_format.specs.declared.node_id.NodeId.{NodeId}
use Rattle.lt_format.specs.declared.geometry.Geometry.{Geometry}
use Rattle.lt_format.specs.Trie.{Node, Trie, node_cmp, node_at, named, node_extents, empty_node}
use Rattle.lt_format.specs.Changes.{Change, flush, after_change}
use Rattle.lt_image.specs.Versions.{Opened, log_items, extent_in, items_at, versions, map_of}
use Rattle.lt_image.proofs.Words.{IsSorted, on_level, on_path}
use Rattle.lt_image.specs.After.{SameExtents, Follows}
use Rattle.lt_image.proofs.PathLaws.{newest_of-versions}
use Rattle.lt_image.proofs.KeepLaws.{KeepsTables, flush-found}

-- a table whose blocks are as before has the items that it had
pub same_items : (old new : ℕ → List ℕ) → ((c : ℕ) → c < 65 → new c ≡ old c) → table_items new ≡ table_items old
unfolding columns
same_items old new same = flat_map-range (λ c. items_on (new c)) (λ c. items_on (old c)) 0 64 (λ c small. ap items_on (same c (omega arith)))

-- ---- extents that are as before

found_all : (P : ℕ → Type 0) (id : NodeId) (e : NodeId × Node) (es : Trie) (same : Bool) → AllByRecursion P e.1.tables → AllByRecursion P (unwrap_or (find node_cmp id es) empty_node).tables → AllByRecursion P (unwrap_or (cond same (Some e.1) (find node_cmp id es)) empty_node).tables
found_all P id e es true here rest = here
found_all P id e es false here rest = rest

node_all : (P : ℕ → Type 0) (id : NodeId) (trie : Trie) → AllByRecursion P (named trie) → AllByRecursion P (unwrap_or (find node_cmp id trie) empty_node).tables
node_all P id [] all = tt
node_all P id (e ∷ es) all =
    found_all P id e es _ (all_left P e.1.tables e.1.groups (all_left P (node_extents e.1) (named es) all)) (node_all P id es (all_right P (node_extents e.1) (named es) all))

-- what holds of all named extents holds of the tables of each node
pub named-tables : (P : ℕ → Type 0) (trie : Trie) (id : NodeId) → AllByRecursion P (named trie) → AllByRecursion P (node_at trie id).tables
unfolding node_at
named-tables P trie id all = node_all P id trie all

-- so the tables that were named keep their items
pub kept-tables : (g : Geometry) (old new : Image) (trie : Trie) → SameExtents g old new (named trie) → KeepsTables (items_at g old) (items_at g new) trie
kept-tables g old new trie same = record {
  each = λ id.
      all_weaker (λ x. (c : ℕ) → c < 65 → extent_in g new x c ≡ extent_in g old x c) (λ x. SameNewest (items_at g new x) (items_at g old x))
      (λ x h. subst (λ xs. SameNewest (items_at g new x) xs) (same_items (extent_in g old x) (extent_in g new x) h) (SameNewest-refl (items_at g new x)))
      (node_at trie id).tables (named-tables (λ x. (c : ℕ) → c < 65 → extent_in g new x c ≡ extent_in g old x c) trie id same);
}

-- ---- maps

-- maps that give each key one value are one
pub maps_same : (m n : Map) → ((key : List ℕ) → value_at m key ≡ value_at n key) → m ≡ n
maps_same m n each = same_map nat_list_cmp_total (slice_cmp-IsAntisymmetric nat_cmp-IsAntisymmetric) m n each

-- what an image has of a key, by its parts
unfoldable pub read_by : Geometry → Image → Trie → List Item → List ℕ → Option Item
read_by g image trie log key = option_or (newest_of key log) (on_path (on_level (items_at g image) trie key) g.levels)

pub read_versions : (o : Opened) (image : Image) (key : List ℕ) → IsSorted (items_at o.named.geometry image) o.named.manifest.trie → value_at (map_of o image) key ≡ value_of (read_by o.named.geometry image o.named.manifest.trie (log_items o) key)
unfolding read_by
read_versions o image key s = get_versions (versions o image) key ∙ ap value_of (newest_of-versions o image key s)

-- the same at the geometry before and the trie after the change
pub read_after : (o p : Opened) (old new : Image) (change : Change) (log : List Item) (key : List ℕ) → Follows o p old new change → log_items p ≡ log
    → IsSorted (items_at p.named.geometry new) p.named.manifest.trie
    → value_at (map_of p new) key ≡ value_of (read_by o.named.geometry new (after_change o.named.manifest.trie change) log key)
read_after o p old new change log key f log_is s = read_versions p new key s ∙ (λ i. value_of (read_by (f.geometry i) new (f.trie i) (log_is i) key))

-- A FLUSH KEEPS THE MAP: the new tables hold the newest of the log's items, and the log is empty
pub flush-map : (o p : Opened) (old new : Image) (tables : List ℕ) (n : ℕ) → Follows o p old new (flush tables) → o.named.geometry.levels ≡ suc n
    → IsSorted (items_at o.named.geometry old) o.named.manifest.trie → IsSorted (items_at p.named.geometry new) p.named.manifest.trie
    → log_items p ≡ [] → SameNewest (flat_map (items_at o.named.geometry new) tables) (log_items o)
    → map_of p new ≡ map_of o old
unfolding read_by
flush-map o p old new tables n f levels s t empty holds = maps_same (map_of p new) (map_of o old) (λ key.
    read_after o p old new (flush tables) [] key f empty t
    ∙ ap value_of (
    ap (on_path (on_level (items_at o.named.geometry new) (after_change o.named.manifest.trie (flush tables)) key)) levels
    ∙ flush-found (items_at o.named.geometry old) (items_at o.named.geometry new) o.named.manifest.trie tables (log_items o) key n (kept-tables o.named.geometry old new o.named.manifest.trie f.kept) holds
    ∙ ap (λ l. option_or (newest_of key (log_items o)) (on_path (on_level (items_at o.named.geometry old) o.named.manifest.trie key) l)) (sym levels))
    ∙ sym (read_versions o old key s))
