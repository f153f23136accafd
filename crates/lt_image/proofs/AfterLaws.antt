-- Soundness is kept by a flush.
use Rattle.std.proofs.Common.{◌≡◌, ℕ, ◌+◌, ◌-◌, ◌*◌, ◌≤◌, refl, sym, ap, subst, ◌∙◌, List, [], ◌∷◌, ◌++◌, map, length, drop, Bool, true, false, not, cond, Some, arith, append-nil, le-ltb}
use Rattle.std.specs.Prelude.{slice_range, nat_lt}
use Rattle.std.specs.FinMap.{find}
use Rattle.std.specs.List.{flat_map, filter, range_with_len, AllByRecursion, enumerate_from}
use Rattle.std.specs.Option.{unwrap_or}
use Rattle.std.proofs.lemmas.List.Concat.{flat_map-append}
use Rattle.lt_terms.specs.Bytes.{Image, same_bytes}
use Rattle.lt_terms.specs.Items.{Item}
use Rattle.lt_tables.specs.Placement.{columns}
use Rattle.lt_tables.specs.Table.{IsPlaced, newest}
use Rattle.lt_tables.specs.Filter.{group_block}
use Rattle.lt_format.specs.declared.node_id.NodeId.{NodeId}
use Rattle.lt_format.specs.declared.geometry.Geometry.{Geometry}
use Rattle.lt_format.specs.Layout.{extent_block, area_block}
use Rattle.lt_format.specs.Trie.{Node, Trie, root, node_cmp, same_node, node_at, named, node_extents, empty_node}
use Rattle.lt_format.specs.Changes.{flush, appended, after_change}
use Rattle.lt_format.proofs.TrieLaws.{same_node-same}
use Rattle.lt_image.proofs.ChangeLaws.{with_node-all}
use Rattle.lt_image.specs.Versions.{Opened, extent_in, items_at, stored_items}
use Rattle.lt_image.specs.Standing.{block_if, bad_in_table, bad_table_blocks, bad_group_blocks, bad_node_blocks, bad_blocks, filter_blocks}
use Rattle.lt_image.specs.After.{SameExtent, SameExtents}
use Rattle.lt_image.proofs.SoundLaws.{flat_map_nil, nil_flat_map, nil_append}
use Rattle.lt_image.proofs.MapLaws.{same_items}
use Rattle.lt_image.proofs.TableSoundLaws.{filter-range, same_bad_in_table, Holdable, placed-sound}
use Rattle.lt_tables.proofs.ListLaws.{all_drop, all_left, all_right, all_take, all_weaker}

-- the nodes of a trie have no bad block
abbrev pub SoundNodes : Geometry → Image → Trie → Type 0
SoundNodes g image trie = AllByRecursion (λ e. bad_node_blocks g image e ≡ []) trie

-- ---- blocks as before

same_table_blocks : (g : Geometry) (old new : Image) (id : NodeId) (x : ℕ) → SameExtent g old new x → bad_table_blocks g new id x ≡ bad_table_blocks g old id x
same_table_blocks g old new id x same =
    ap (map (λ c. extent_block g x + c)) (
    ap (λ items. bad_in_table id (extent_in g new x) (newest items)) (same_items (extent_in g old x) (extent_in g new x) same)
    ∙ same_bad_in_table id (extent_in g old x) (extent_in g new x) (newest (items_at g old x)) same)

same_tables_blocks : (g : Geometry) (old new : Image) (id : NodeId) (xs : List ℕ) → SameExtents g old new xs → flat_map (bad_table_blocks g new id) xs ≡ flat_map (bad_table_blocks g old id) xs
same_tables_blocks g old new id [] same = refl
same_tables_blocks g old new id (x ∷ xs) same = λ i. same_table_blocks g old new id x same.0 i ++ same_tables_blocks g old new id xs same.1 i

pub same_filters : (g : Geometry) (old new : Image) (xs : List ℕ) → SameExtents g old new xs → filter_blocks g new xs ≡ filter_blocks g old xs
same_filters g old new [] same = refl
same_filters g old new (x ∷ xs) same = let h : extent_in g new x 64 ≡ extent_in g old x 64 = same.0 64 (omega arith) in λ i. h i ∷ same_filters g old new xs same.1 i

same_group_blocks : (g : Geometry) (old new : Image) (tables : List ℕ) (j x : ℕ) → SameExtents g old new tables → SameExtent g old new x → bad_group_blocks g new tables (j, x) ≡ bad_group_blocks g old tables (j, x)
unfolding columns
same_group_blocks g old new tables j x same_tables same =
    let filters : filter_blocks g new (slice_range tables (64 * j) (64 * j + 64)) ≡ filter_blocks g old (slice_range tables (64 * j) (64 * j + 64)) =
    same_filters g old new (slice_range tables (64 * j) (64 * j + 64)) (all_take (SameExtent g old new) (64 * j + 64 - 64 * j) (drop (64 * j) tables) (all_drop (SameExtent g old new) (64 * j) tables same_tables)) in
    ap (map (λ c. extent_block g x + c)) (
    ap (λ fs. filter (λ c. not (same_bytes (extent_in g new x c) (group_block fs c))) (range_with_len 0 64)) filters
    ∙ filter-range (λ c. not (same_bytes (extent_in g new x c) (group_block (filter_blocks g old (slice_range tables (64 * j) (64 * j + 64))) c))) (λ c. not (same_bytes (extent_in g old x c) (group_block (filter_blocks g old (slice_range tables (64 * j) (64 * j + 64))) c))) 0 64
    (λ c small. ap (λ b. not (same_bytes b (group_block (filter_blocks g old (slice_range tables (64 * j) (64 * j + 64))) c))) (same c (omega arith))))

same_groups_blocks : (g : Geometry) (old new : Image) (tables : List ℕ) (k : ℕ) (groups : List ℕ) → SameExtents g old new tables → SameExtents g old new groups
    → flat_map (bad_group_blocks g new tables) (enumerate_from k groups) ≡ flat_map (bad_group_blocks g old tables) (enumerate_from k groups)
same_groups_blocks g old new tables k [] a b = refl
same_groups_blocks g old new tables k (x ∷ groups) a b = λ i. same_group_blocks g old new tables k x a b.0 i ++ same_groups_blocks g old new tables (k + 1) groups a b.1 i

pub same_node_blocks : (g : Geometry) (old new : Image) (e : NodeId × Node) → SameExtents g old new (node_extents e.1) → bad_node_blocks g new e ≡ bad_node_blocks g old e
same_node_blocks g old new e same =
    let a = all_left (SameExtent g old new) e.1.tables e.1.groups same in
    let b = all_right (SameExtent g old new) e.1.tables e.1.groups same in
    λ i. same_tables_blocks g old new e.0 e.1.tables a i ++ same_groups_blocks g old new e.1.tables 0 e.1.groups a b i

-- the nodes that stay as they are, stay sound
pub kept-nodes : (g : Geometry) (old new : Image) (trie : Trie) → SameExtents g old new (named trie) → SoundNodes g old trie → SoundNodes g new trie
kept-nodes g old new [] same sound = tt
kept-nodes g old new (e ∷ es) same sound =
    (same_node_blocks g old new e (all_left (SameExtent g old new) (node_extents e.1) (named es) same) ∙ sound.0, kept-nodes g old new es (all_right (SameExtent g old new) (node_extents e.1) (named es) same) sound.1)

-- ---- one node

-- a new table: placed, with items that it may hold
pub record NewTable (id : NodeId) (block : ℕ → List ℕ) : Type 0 where
  pub items : List Item
  pub placed : IsPlaced items block
  pub may : Holdable id items

pub new_table-sound : (g : Geometry) (image : Image) (id : NodeId) (x : ℕ) → NewTable id (extent_in g image x) → bad_table_blocks g image id x ≡ []
new_table-sound g image id x t = ap (map (λ c. extent_block g x + c)) (placed-sound id t.items (extent_in g image x) t.placed t.may)

found_node : (P : NodeId × Node → Type 0) (id : NodeId) (e : NodeId × Node) (es : Trie) (same : Bool) → same_node id e.0 ≡ same → P e → P (id, unwrap_or (find node_cmp id es) empty_node) → P (id, unwrap_or (cond same (Some e.1) (find node_cmp id es)) empty_node)
found_node P id e es true is here rest = subst (λ q. P (q, e.1)) (sym (same_node-same id e.0 is)) here
found_node P id e es false is here rest = rest

node_holds : (P : NodeId × Node → Type 0) (id : NodeId) (trie : Trie) → P (id, empty_node) → AllByRecursion P trie → P (id, unwrap_or (find node_cmp id trie) empty_node)
node_holds P id [] none all = none
node_holds P id (e ∷ es) none all = found_node P id e es (same_node id e.0) refl all.0 (node_holds P id es none all.1)

-- what holds of all nodes and of an empty one holds of the node of any name
pub node_at-holds : (P : NodeId × Node → Type 0) (id : NodeId) (trie : Trie) → P (id, empty_node) → AllByRecursion P trie → P (id, node_at trie id)
unfolding node_at
node_at-holds P id trie none all = node_holds P id trie none all

pub sound_tables : (g : Geometry) (image : Image) (id : NodeId) (xs : List ℕ) → AllByRecursion (λ x. NewTable id (extent_in g image x)) xs → flat_map (bad_table_blocks g image id) xs ≡ []
sound_tables g image id xs all = flat_map_nil (bad_table_blocks g image id) xs (all_weaker (λ x. NewTable id (extent_in g image x)) (λ x. bad_table_blocks g image id x ≡ []) (λ x t. new_table-sound g image id x t) xs all)

pub no_groups : (g : Geometry) (image : Image) (tables groups : List ℕ) → groups ≡ [] → flat_map (bad_group_blocks g image tables) (enumerate_from 0 groups) ≡ []
no_groups g image tables groups e = ap (λ gs. flat_map (bad_group_blocks g image tables) (enumerate_from 0 gs)) e

pub node_tables_sound : (g : Geometry) (image : Image) (id : NodeId) (n : Node) → bad_node_blocks g image (id, n) ≡ [] → flat_map (bad_table_blocks g image id) n.tables ≡ []
node_tables_sound g image id n e = (nil_append (flat_map (bad_table_blocks g image id) n.tables) (flat_map (bad_group_blocks g image n.tables) (enumerate_from 0 n.groups)) e).0

-- ---- the changes

-- A FLUSH: the new tables are of the root, which has no groups
pub flush-nodes : (g : Geometry) (old new : Image) (trie : Trie) (tables : List ℕ) → SameExtents g old new (named trie) → SoundNodes g old trie
    → (node_at trie root).groups ≡ [] → AllByRecursion (λ x. NewTable root (extent_in g new x)) tables → SoundNodes g new (after_change trie (flush tables))
unfolding after_change
flush-nodes g old new trie tables same sound bare fresh =
    let kept = kept-nodes g old new trie same sound in
    let at_root : bad_node_blocks g new (root, node_at trie root) ≡ [] = node_at-holds (λ e. bad_node_blocks g new e ≡ []) root trie refl kept in
    with_node-all (λ e. bad_node_blocks g new e ≡ []) trie root (appended (node_at trie root) tables)
    (ap (λ xs. flat_map (bad_table_blocks g new root) ((node_at trie root).tables ++ tables) ++ xs) (no_groups g new ((node_at trie root).tables ++ tables) (node_at trie root).groups bare)
    ∙ append-nil (flat_map (bad_table_blocks g new root) ((node_at trie root).tables ++ tables))
    ∙ flat_map-append (bad_table_blocks g new root) (node_at trie root).tables tables
    ∙ ap (λ xs. xs ++ flat_map (bad_table_blocks g new root) tables) (node_tables_sound g new root (node_at trie root) at_root)
    ∙ sound_tables g new root tables fresh)
    kept

-- ---- the whole image

-- an image is sound where its nodes are, and its tables hold no more items than its manifest's number of writes
pub sound_by_nodes : (o : Opened) (image : Image) → SoundNodes o.named.geometry image o.named.manifest.trie → length (stored_items o image) ≤ o.named.manifest.header.writes → bad_blocks o image ≡ []
unfolding bad_blocks
sound_by_nodes o image nodes few =
    ap (λ xs. xs ++ block_if (nat_lt o.named.manifest.header.writes (length (stored_items o image))) (area_block o.named.area)) (flat_map_nil (bad_node_blocks o.named.geometry image) o.named.manifest.trie nodes)
    ∙ ap (λ b. block_if b (area_block o.named.area)) (le-ltb o.named.manifest.header.writes (length (stored_items o image)) few)

pub sound_nodes : (o : Opened) (image : Image) → bad_blocks o image ≡ [] → SoundNodes o.named.geometry image o.named.manifest.trie
unfolding bad_blocks
sound_nodes o image e = nil_flat_map (bad_node_blocks o.named.geometry image) o.named.manifest.trie (nil_append (flat_map (bad_node_blocks o.named.geometry image) o.named.manifest.trie) _ e).0
