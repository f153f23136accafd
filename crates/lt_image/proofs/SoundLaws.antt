-- What a sound image gives: each table holds only items that lead to its node.
use Rattle.std.proofs.Common.{Option, Some, None, sym, ◌≡◌, ℕ, ◌+◌, refl, ap, subst, ◌∙◌, List, [], ◌∷◌, ◌++◌, map, Bool, true, false, not, ◌||◌}
use Rattle.std.specs.Prelude.{IsTrue}
use Rattle.std.specs.FinMap.{is_sorted}
use Rattle.std.specs.List.{flat_map, list_any, AllByRecursion, enumerate_from}
use Rattle.std.proofs.lemmas.Bool.{or_parts, not-false}
use Rattle.lt_terms.specs.Bytes.{Image, same_bytes}
use Rattle.lt_terms.specs.Items.{Item, value_at, after_items}
use Rattle.lt_tables.specs.Bucket.{items_on}
use Rattle.lt_tables.specs.Placement.{columns}
use Rattle.lt_tables.specs.Table.{table_items, newest, newest_of, value_of}
use Rattle.std.specs.Option.{option_or}
use Rattle.lt_tables.proofs.VersionLaws.{newest_value, get_after_items}
use Rattle.lt_tables.proofs.NewestLaws.{newest_of-append}
use Rattle.lt_tables.proofs.ListLaws.{all_weaker}
use Rattle.lt_format.specs.declared.node_id.NodeId.{NodeId}
use Rattle.lt_format.specs.declared.geometry.Geometry.{Geometry}
use Rattle.lt_format.specs.Layout.{extent_block}
use Rattle.lt_format.specs.Trie.{Node, path, same_node, node_cmp}
use Rattle.lt_image.specs.Versions.{Opened, log_items, extent_in, items_at, versions, map_of, at_stops, found}
use Rattle.lt_image.specs.Standing.{block_if, located_items, stray_columns, bad_in_table, bad_table_blocks, bad_group_blocks, bad_node_blocks, bad_blocks}
use Rattle.lt_image.proofs.Words.{Belongs, PileBelongs, IsSorted}
use Rattle.lt_image.proofs.PathLaws.{newest_or-is, newest_of-found, value_at-map_of}
use Rattle.std.proofs.lemmas.List.{map-append}

-- ---- nothing in a joined list

pub nil_append : {A : Type 0} (xs ys : List A) → xs ++ ys ≡ [] → (xs ≡ []) × (ys ≡ [])
nil_append [] ys e = (refl, e)
nil_append (x ∷ xs) ys e = cc

pub nil_map : {A B : Type 0} (f : A → B) (xs : List A) → map f xs ≡ [] → xs ≡ []
nil_map f [] e = refl
nil_map f (x ∷ xs) e = cc

pub nil_flat_map : {A B : Type 0} (f : A → List B) (xs : List A) → flat_map f xs ≡ [] → AllByRecursion (λ x. f x ≡ []) xs
nil_flat_map f [] e = tt
nil_flat_map f (x ∷ xs) e = let h = nil_append (f x) (flat_map f xs) e in (h.0, nil_flat_map f xs h.1)

pub flat_map_nil : {A B : Type 0} (f : A → List B) (xs : List A) → AllByRecursion (λ x. f x ≡ []) xs → flat_map f xs ≡ []
flat_map_nil f [] all = refl
flat_map_nil f (x ∷ xs) all = ap (λ ys. ys ++ flat_map f xs) all.0 ∙ flat_map_nil f xs all.1

pub nil_block_if : (test : Bool) (block : ℕ) → block_if test block ≡ [] → test ≡ false
nil_block_if true block e = cc
nil_block_if false block e = refl

-- ---- a table without bad blocks

located_of : (c : ℕ) (items : List Item) → map (λ (found : ℕ × Item). found.1) (map (λ item. (c, item)) items) ≡ items
located_of c [] = refl
located_of c (v ∷ items) = ap (λ xs. v ∷ xs) (located_of c items)

located_all : (block : ℕ → List ℕ) (cs : List ℕ) → map (λ (found : ℕ × Item). found.1) (flat_map (λ c. map (λ item. (c, item)) (items_on (block c))) cs) ≡ flat_map (λ c. items_on (block c)) cs
located_all block [] = refl
located_all block (c ∷ cs) =
    map-append (λ (found : ℕ × Item). found.1) (map (λ item. (c, item)) (items_on (block c))) (flat_map (λ c. map (λ item. (c, item)) (items_on (block c))) cs)
    ∙ ap (λ xs. xs ++ map (λ (found : ℕ × Item). found.1) (flat_map (λ c. map (λ item. (c, item)) (items_on (block c))) cs)) (located_of c (items_on (block c)))
    ∙ ap (λ xs. items_on (block c) ++ xs) (located_all block cs)

pub located-items : (block : ℕ → List ℕ) → map (λ (found : ℕ × Item). found.1) (located_items block) ≡ table_items block
located-items block = located_all block columns

none_stray : (id : NodeId) (keys : List (List ℕ)) (items : List (ℕ × Item)) → stray_columns id keys items ≡ [] → Belongs id (map (λ (found : ℕ × Item). found.1) items)
none_stray id keys [] e = tt
none_stray id keys (found ∷ items) e =
    let h = nil_append (block_if (not (same_node (path found.1.key id.level) id) || list_any (same_bytes found.1.key) keys) found.0) (stray_columns id (found.1.key ∷ keys) items) e in
    let t = or_parts (not (same_node (path found.1.key id.level) id)) (list_any (same_bytes found.1.key) keys) (nil_block_if _ found.0 h.0) in
    (not-false (same_node (path found.1.key id.level) id) t.0, none_stray id (found.1.key ∷ keys) items h.1)

-- the items of a table without bad blocks belong to its node
pub sound_table-belongs : (id : NodeId) (block : ℕ → List ℕ) (items : List Item) → bad_in_table id block items ≡ [] → Belongs id (table_items block)
unfolding bad_in_table
sound_table-belongs id block items e =
    let a = nil_append _ (block_if _ 64) e in
    let b = nil_append _ _ a.0 in
    let c = nil_append _ (stray_columns id [] (located_items block)) b.0 in
    subst (Belongs id) (located-items block) (none_stray id [] (located_items block) c.1)

-- ---- an image without bad blocks

pub sound_node-belongs : (g : Geometry) (image : Image) (e : NodeId × Node) → bad_node_blocks g image e ≡ [] → PileBelongs (items_at g image) e
sound_node-belongs g image e h =
    let parts = nil_append (flat_map (bad_table_blocks g image e.0) e.1.tables) (flat_map (bad_group_blocks g image e.1.tables) (enumerate_from 0 e.1.groups)) h in
    all_weaker (λ x. bad_table_blocks g image e.0 x ≡ []) (λ x. Belongs e.0 (items_at g image x))
    (λ x none. sound_table-belongs e.0 (extent_in g image x) (newest (items_at g image x)) (nil_map (λ c. extent_block g x + c) (bad_in_table e.0 (extent_in g image x) (newest (items_at g image x))) none))
    e.1.tables (nil_flat_map (bad_table_blocks g image e.0) e.1.tables parts.0)

pub sound-sorted : (o : Opened) (image : Image) → IsTrue (is_sorted node_cmp o.named.manifest.trie) → bad_blocks o image ≡ [] → IsSorted (items_at o.named.geometry image) o.named.manifest.trie
unfolding bad_blocks
sound-sorted o image rising e =
    let parts = nil_append (flat_map (bad_node_blocks o.named.geometry image) o.named.manifest.trie) _ e in
    record {
      rising = rising;
      belong = all_weaker (λ n. bad_node_blocks o.named.geometry image n ≡ []) (PileBelongs (items_at o.named.geometry image)) (λ n. sound_node-belongs o.named.geometry image n) o.named.manifest.trie (nil_flat_map (bad_node_blocks o.named.geometry image) o.named.manifest.trie parts.0);
    }

-- THE READING of a sound image
pub sound-found : (o : Opened) (image : Image) (key : List ℕ) → IsTrue (is_sorted node_cmp o.named.manifest.trie) → bad_blocks o image ≡ [] → newest_of key (versions o image) ≡ found o image key
sound-found o image key rising e = newest_of-found o image key (sound-sorted o image rising e)

pub sound-value : (o : Opened) (image : Image) (key : List ℕ) → IsTrue (is_sorted node_cmp o.named.manifest.trie) → bad_blocks o image ≡ [] → value_at (map_of o image) key ≡ value_of (found o image key)
sound-value o image key rising e = value_at-map_of o image key (sound-sorted o image rising e)

above_pending : (pending log tables : Option Item) → newest_value (value_of (option_or log tables)) pending ≡ value_of (option_or (option_or pending log) tables)
above_pending None log tables = refl
above_pending (Some v) log tables = refl

-- with further items behind the log's
pub sound-pending : (o : Opened) (image : Image) (items : List Item) (key : List ℕ) → IsTrue (is_sorted node_cmp o.named.manifest.trie) → bad_blocks o image ≡ []
    → value_at (after_items (map_of o image) items) key ≡ value_of (option_or (newest_of key (log_items o ++ items)) (at_stops (items_at o.named.geometry image) o.named.geometry.levels o.named.manifest.trie key))
sound-pending o image items key rising e =
    let tables : Option Item = at_stops (items_at o.named.geometry image) o.named.geometry.levels o.named.manifest.trie key in
    get_after_items (map_of o image) items key
    ∙ ap (λ before. newest_value before (newest_of key items)) (sound-value o image key rising e)
    ∙ above_pending (newest_of key items) (newest_of key (log_items o)) tables
    ∙ ap (λ x. value_of (option_or x tables)) (sym (newest_of-append key (log_items o) items ∙ newest_or-is (newest_of key (log_items o)) (newest_of key items)))
