-- A sound image names at most twice as many extents as its tables hold items.
use Rattle.std.proofs.Common.{◌≡◌, ℕ, zero, suc, ◌*◌, ◌<◌, ◌≤◌, refl, ap, List, [], ◌∷◌, length, length-append, map, drop, Bool, true, false, cond, Ok, arith}
use Rattle.std.specs.Prelude.{◌==◌, nat_le, nat_lt}
use Rattle.std.specs.List.{flat_map, list_all, AllByRecursion}
use Rattle.std.proofs.lemmas.Bool.{and_parts, eqb-false, leb-true}
use Rattle.lt_terms.specs.Bytes.{Image}
use Rattle.lt_terms.specs.Items.{Item}
use Rattle.lt_tables.specs.declared.Entry.{Entry}
use Rattle.lt_tables.specs.Cut.{counts_within, table_count}
use Rattle.lt_tables.specs.Table.{newest}
use Rattle.lt_tables.specs.Placement.{entry_of}
use Rattle.std.proofs.lemmas.List.{length-map}
use Rattle.lt_tables.proofs.FitLaws.{total}
use Rattle.lt_format.specs.declared.geometry.Geometry.{Geometry}
use Rattle.lt_format.specs.declared.node_id.NodeId.{NodeId}
use Rattle.lt_format.specs.Trie.{Node, Trie, named, node_extents, is_last_level, is_node, is_shaped}
use Rattle.lt_format.proofs.ShapeLaws.{is_fine, shaped-inner, shaped-last}
use Rattle.lt_image.specs.Versions.{Opened, open_image, log_items, number_of, extent_in, items_at, pile_items, stored_items, free_extents}
use Rattle.lt_image.specs.Pressure.{flush_tables}
use Rattle.lt_image.specs.Standing.{block_if, bad_in_table, bad_table_blocks, bad_node_blocks, bad_blocks}
use Rattle.lt_image.proofs.AfterLaws.{SoundNodes, sound_nodes}
use Rattle.lt_image.proofs.CountLaws.{newest-few, held_by, above_long}
use Rattle.lt_image.proofs.JobCountLaws.{opens-trie}
use Rattle.lt_image.proofs.KeptLaws.{stored-few}
use Rattle.lt_image.proofs.SoundLaws.{nil_append, nil_map, nil_flat_map, nil_block_if}

-- a sound table holds an item
holds_some : (id : NodeId) (block : ℕ → List ℕ) (items : List Item) → bad_in_table id block items ≡ [] → 1 ≤ length items
unfolding bad_in_table
holds_some id block items h =
    let e = nil_append _ _ h in
    let d = nil_append _ _ e.0 in
    let c = nil_append _ _ d.0 in
    let b = nil_append _ (block_if (length items == 0) 0) c.0 in
    let some = eqb-false (length items) 0 (nil_block_if (length items == 0) 0 b.1) in
    positive some
  where
    positive : (length items ≡ 0 → ⊥) → 1 ≤ length items
    positive some = omega arith

table_some : (g : Geometry) (image : Image) (id : NodeId) (x : ℕ) → bad_table_blocks g image id x ≡ [] → 1 ≤ length (items_at g image x)
table_some g image id x h =
    let new : 1 ≤ length (newest (items_at g image x)) = holds_some id (extent_in g image x) (newest (items_at g image x)) (nil_map _ (bad_in_table id (extent_in g image x) (newest (items_at g image x))) h) in
    omega (arith, new, newest-few (items_at g image x))

-- so a pile has at most as many tables as items
pile_some : (g : Geometry) (image : Image) (id : NodeId) (tables : List ℕ) → AllByRecursion (λ x. bad_table_blocks g image id x ≡ []) tables → length tables ≤ length (pile_items g image tables)
pile_some g image id [] all = omega arith
pile_some g image id (x ∷ tables) all = omega (arith, length-append (items_at g image x) (pile_items g image tables), table_some g image id x all.0, pile_some g image id tables all.1)

-- and at most as many groups as tables
node_few : (g : Geometry) (image : Image) (levels extents : ℕ) (e : NodeId × Node) → is_fine levels extents e ≡ true → bad_node_blocks g image e ≡ [] → length (node_extents e.1) ≤ 2 * length (pile_items g image e.1.tables)
node_few g image levels extents e fine sound =
    let parts = and_parts _ (is_shaped levels extents e.0 e.1) fine in
    let some : 1 ≤ length e.1.tables = leb-true 1 (length e.1.tables) (and_parts (is_node levels e.0) (nat_le 1 (length e.1.tables)) parts.0).1 in
    let tables = pile_some g image e.0 e.1.tables (nil_flat_map (bad_table_blocks g image e.0) e.1.tables (nil_append (flat_map (bad_table_blocks g image e.0) e.1.tables) _ sound).0) in
    let groups = by_level (is_last_level levels e.0) refl parts.1 some in
    omega (arith, length-append e.1.tables e.1.groups, tables, groups)
  where
    by_level : (b : Bool) → is_last_level levels e.0 ≡ b → is_shaped levels extents e.0 e.1 ≡ true → 1 ≤ length e.1.tables → length e.1.groups ≤ length e.1.tables
    by_level true last shaped some = let count = (shaped-last levels extents e.0 e.1 last shaped).1 in omega (arith, count, some)
    by_level false inner shaped some = let count = (shaped-inner levels extents e.0 e.1 inner shaped).1 in omega (arith, count)

named_few : (g : Geometry) (image : Image) (extents : ℕ) (es : Trie) → list_all (is_fine g.levels extents) es ≡ true → SoundNodes g image es → length (named es) ≤ 2 * total (held_by g image g.levels) es
named_few g image extents [] fine sound = omega arith
named_few g image extents (e ∷ es) fine sound =
    let parts = and_parts (is_fine g.levels extents e) (list_all (is_fine g.levels extents) es) fine in
    let node : is_node g.levels e.0 ≡ true = (and_parts (is_node g.levels e.0) (nat_le 1 (length e.1.tables)) (and_parts _ (is_shaped g.levels extents e.0 e.1) parts.0).0).0 in
    let inside : nat_lt e.0.level g.levels ≡ true = (and_parts (nat_lt e.0.level g.levels) _ node).0 in
    let held : held_by g image g.levels e ≡ length (pile_items g image e.1.tables) = ap (λ b. cond b (length (pile_items g image e.1.tables)) 0) inside in
    omega (arith, held, length-append (node_extents e.1) (named es), node_few g image g.levels extents e parts.0 sound.0, named_few g image extents es parts.1 sound.1)

-- A SOUND IMAGE names at most two extents for each item of its tables
pub sound-few : (image : Image) (o : Opened) → open_image image ≡ Ok o → bad_blocks o image ≡ [] → length (named o.named.manifest.trie) ≤ 2 * length (stored_items o image)
sound-few image o opens sound =
    let t = opens-trie image o opens in
    omega (arith, above_long o.named.geometry image o.named.manifest.trie o.named.geometry.levels, named_few o.named.geometry image o.named.manifest.header.extents o.named.manifest.trie t.nodes (sound_nodes o image sound))

counts_few : (n : ℕ) (es : List Entry) → length (counts_within n es) ≤ n
unfolding counts_within
counts_few zero es = omega arith
counts_few (suc n) [] = omega arith
counts_few (suc n) (e ∷ es) = let rest = counts_few n (drop (table_count (e ∷ es)) (e ∷ es)) in omega arith

-- A FULL STORE had at least half as many writes as extents: the flush of its log needs more than are free
pub full-few : (image : Image) (o : Opened) → open_image image ≡ Ok o → bad_blocks o image ≡ [] → free_extents o.named < flush_tables o → o.named.manifest.header.extents < 2 * number_of o
full-few image o opens sound short =
    let entries : List Entry = map entry_of (newest (log_items o)) in
    let tables : flush_tables o ≤ length entries = counts_few (length entries) entries in
    let count : length entries ≡ length (newest (log_items o)) = length-map (newest (log_items o)) entry_of in
    omega (arith, short, tables, count, newest-few (log_items o), sound-few image o opens sound, stored-few o image sound)
