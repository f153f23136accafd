-- Each table that a sound image names is placed, and its filters cover its keys.
use Rattle.std.proofs.Common.{◌≡◌, ℕ, zero, suc, ◌+◌, ◌<◌, ◌≤◌, refl, sym, ap, ◌∙◌, List, [], ◌∷◌, Bool, true, false, not, cond, ◌||◌, Option, Some, None, arith, ⊎_elim, true≢false}
use Rattle.std.specs.Prelude.{IsFalse}
use Rattle.std.specs.List.{filter, flat_map, list_any, range_with_len, AllByRecursion, enumerate_from, last_or}
use Rattle.std.specs.Cmp.Lexicographic.{bytes_decides}
use Rattle.std.proofs.lemmas.Bool.{cases_eq, not-false}
use Rattle.lt_terms.specs.Bytes.{Image, same_bytes}
use Rattle.lt_terms.specs.Hashes.{home_column}
use Rattle.lt_terms.specs.Items.{Item}
use Rattle.lt_tables.specs.declared.ColumnPlan.{ColumnPlan}
use Rattle.lt_tables.specs.Filter.{covers, filter_block}
use Rattle.lt_tables.specs.Placement.{columns, placement_of}
use Rattle.lt_tables.specs.Table.{bucket_in, IsPlaced, newest, newest_of}
use Rattle.lt_tables.proofs.NewestLaws.{newest_of-newest}
use Rattle.lt_tables.proofs.CoverLaws.{covers-filter_block}
use Rattle.lt_tables.proofs.ListLaws.{all_weaker}
use Rattle.lt_format.specs.declared.node_id.NodeId.{NodeId}
use Rattle.lt_format.specs.declared.geometry.Geometry.{Geometry}
use Rattle.lt_format.specs.Layout.{extent_block}
use Rattle.lt_format.specs.Trie.{Node, node_at}
use Rattle.lt_image.specs.Versions.{Opened, extent_in, items_at}
use Rattle.lt_image.specs.Standing.{block_if, spells, misplaced_columns, bad_in_table, bad_table_blocks, bad_group_blocks, bad_node_blocks, bad_blocks}
use Rattle.lt_image.proofs.SoundLaws.{nil_append, nil_map, nil_flat_map, nil_block_if}
use Rattle.lt_image.proofs.SpellsLaws.{spells-reads}
use Rattle.lt_image.proofs.AfterLaws.{node_at-holds, sound_nodes}

pub nothing_kept : (test : ℕ → Bool) (a n c : ℕ) → filter test (range_with_len a n) ≡ [] → a ≤ c → c < a + n → test c ≡ false
nothing_kept test a zero c e low high = absurd (omega arith)
nothing_kept test a (suc n) c e low high = step (test a) refl e (λ rest more. nothing_kept test (a + 1) n c rest more (omega arith))
  where
    above : (a ≡ c → ⊥) → a + 1 ≤ c
    above other = omega arith

    step : (b : Bool) → test a ≡ b → cond b (a ∷ filter test (range_with_len (a + 1) n)) (filter test (range_with_len (a + 1) n)) ≡ [] → (filter test (range_with_len (a + 1) n) ≡ [] → a + 1 ≤ c → test c ≡ false) → test c ≡ false
    step true t e ih = cc
    step false t e ih = ⊎_elim (λ (is : a ≡ c). ap test (sym is) ∙ t) (λ (other : a ≡ c → ⊥). ih e (above other)) (cases_eq a c)

placed_by : (items : List Item) (block : ℕ → List ℕ) (o : Option (List ColumnPlan)) → placement_of items ≡ o → misplaced_columns block items o ≡ [] → block 64 ≡ filter_block items → IsPlaced items block
unfolding columns
placed_by items block None is e last = cc
placed_by items block (Some plans) is e last = record {
  plans = plans;
  placement = is;
  buckets = λ c small. spells-reads (block c) (bucket_in plans items c) (not-false (spells (block c) (bucket_in plans items c)) (nothing_kept (λ c. not (spells (block c) (bucket_in plans items c))) 0 64 c e (omega arith) (omega arith)));
  filters = last;
}

-- a table without bad blocks is that of its items
pub sound_table-placed : (id : NodeId) (block : ℕ → List ℕ) (items : List Item) → bad_in_table id block items ≡ [] → IsPlaced items block
unfolding bad_in_table
sound_table-placed id block items e =
    let a = nil_append _ (block_if (not (same_bytes (block 64) (filter_block items))) 64) e in
    let b = nil_append _ (misplaced_columns block items (placement_of items)) a.0 in
    placed_by items block (placement_of items) refl b.1
    ((bytes_decides (block 64) (filter_block items)).0 (not-false (same_bytes (block 64) (filter_block items)) (nil_block_if (not (same_bytes (block 64) (filter_block items))) 64 a.1)))

none_passes : (test : Item → Bool) (xs : List Item) → list_any test xs ≡ false → filter test xs ≡ []
none_passes test [] h = refl
none_passes test (x ∷ xs) h = step (test x) h (none_passes test xs)
  where
    step : (b : Bool) → (b || list_any test xs) ≡ false → (list_any test xs ≡ false → filter test xs ≡ []) → cond b (x ∷ filter test xs) (filter test xs) ≡ []
    step true h ih = absurd (true≢false h)
    step false h ih = ih h

-- a key that the home filter does not cover has no version in the table
pub placed-skips : (items : List Item) (block : ℕ → List ℕ) (key : List ℕ) → IsPlaced items block → IsFalse (covers (block 64) (home_column key) key) → newest_of key items ≡ None
placed-skips items block key p none = by_any (list_any (λ (v : Item). same_bytes v.key key) items) refl
  where
    by_any : (b : Bool) → list_any (λ (v : Item). same_bytes v.key key) items ≡ b → newest_of key items ≡ None
    by_any true e = absurd (true≢false (sym (covers-filter_block items key e) ∙ ap (λ page. covers page (home_column key) key) (sym p.filters) ∙ none))
    by_any false e = ap (last_or None) (none_passes (λ (v : Item). same_bytes v.key key) items e)

-- ---- the tables that a trie names

sound_tables-placed : (g : Geometry) (image : Image) (id : NodeId) (tables : List ℕ) → AllByRecursion (λ x. bad_table_blocks g image id x ≡ []) tables → AllByRecursion (λ x. IsPlaced (newest (items_at g image x)) (extent_in g image x)) tables
sound_tables-placed g image id tables sound =
    all_weaker (λ x. bad_table_blocks g image id x ≡ []) (λ x. IsPlaced (newest (items_at g image x)) (extent_in g image x))
    (λ x none. sound_table-placed id (extent_in g image x) (newest (items_at g image x)) (nil_map (λ c. extent_block g x + c) (bad_in_table id (extent_in g image x) (newest (items_at g image x))) none))
    tables sound

pub named-placed : (image : Image) (o : Opened) (id : NodeId) → bad_blocks o image ≡ [] → AllByRecursion (λ x. IsPlaced (newest (items_at o.named.geometry image x)) (extent_in o.named.geometry image x)) (node_at o.named.manifest.trie id).tables
named-placed image o id sound =
    let g : Geometry = o.named.geometry in
    let n : Node = node_at o.named.manifest.trie id in
    let here : bad_node_blocks g image (id, n) ≡ [] = node_at-holds (λ e. bad_node_blocks g image e ≡ []) id o.named.manifest.trie refl (sound_nodes o image sound) in
    let parts = nil_append (flat_map (bad_table_blocks g image id) n.tables) (flat_map (bad_group_blocks g image n.tables) (enumerate_from 0 n.groups)) here in
    sound_tables-placed g image id n.tables (nil_flat_map (bad_table_blocks g image id) n.tables parts.0)

pub named-skips : (image : Image) (o : Opened) (id : NodeId) (key : List ℕ) → bad_blocks o image ≡ [] → AllByRecursion (λ x. IsFalse (covers (extent_in o.named.geometry image x 64) (home_column key) key) → newest_of key (items_at o.named.geometry image x) ≡ None) (node_at o.named.manifest.trie id).tables
named-skips image o id key sound =
    let g : Geometry = o.named.geometry in
    all_weaker (λ x. IsPlaced (newest (items_at g image x)) (extent_in g image x)) (λ x. IsFalse (covers (extent_in g image x 64) (home_column key) key) → newest_of key (items_at g image x) ≡ None)
    (λ x p none. sym (newest_of-newest key (items_at g image x)) ∙ placed-skips (newest (items_at g image x)) (extent_in g image x) key p none)
    (node_at o.named.manifest.trie id).tables (named-placed image o id sound)
