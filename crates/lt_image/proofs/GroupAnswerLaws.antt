-- On a sound image a group's filter answers as its table's own, and so do kept filters; and no bucket sends a key that its mark does not reach.
use Rattle.std.proofs.Common.{◌≡◌, ℕ, zero, suc, ◌+◌, ◌-◌, ◌*◌, ◌/◌, ◌%◌, ◌<◌, ◌≤◌, refl, sym, ap, subst, ◌∙◌, List, [], ◌∷◌, length, drop, Bool, true, false, not, cond, Option, Some, None, Ok, min, arith, get_or}
use Rattle.std.specs.Prelude.{◌==◌, ◌||◌, if◌then◌else◌, slice_index, slice_range, nat_le}
use Rattle.std.specs.Option.{option_and_then, option_map, option_map_or}
use Rattle.std.specs.Cmp.Lexicographic.{bytes_decides}
use Rattle.std.specs.List.{find, flat_map, AllByRecursion, enumerate_from}
use Rattle.std.proofs.lemmas.Bool.{eqb-false, eqb-true, eq-eqb, ne_eqb}
use Rattle.std.proofs.lemmas.List.{get_or-map, get_or-take, get_or-drop, length-map, length-take, length-drop}
use Rattle.lt_terms.specs.Bytes.{Image, same_bytes, is_in}
use Rattle.lt_terms.specs.Hashes.{key_suffix}
use Rattle.lt_terms.specs.Items.{Item}
use Rattle.lt_tables.specs.declared.Sends.{Sends}
use Rattle.lt_tables.specs.Bucket.{Bucket, Look, moved, absent, bucket_of_page_1, look_in_1, look_of, look_on, sends_on, sent_to}
use Rattle.lt_tables.specs.Filter.{covers, group_block}
use Rattle.lt_tables.specs.Table.{newest, IsPlaced}
use Rattle.lt_tables.specs.Placement.{columns}
use Rattle.lt_tables.proofs.FilterLaws.{length-filter_block}
use Rattle.lt_tables.proofs.GroupLaws.{ArePages, groups-cover}
use Rattle.lt_tables.proofs.ListLaws.{all_take, all_drop}
use Rattle.lt_format.specs.declared.geometry.Geometry.{Geometry}
use Rattle.lt_format.specs.declared.node_id.NodeId.{NodeId}
use Rattle.lt_format.specs.Layout.{extent_block}
use Rattle.lt_format.specs.Trie.{Node, node_at, is_last_level, groups_for}
use Rattle.lt_format.proofs.ShapeLaws.{node_at-shaped, shaped-last}
use Rattle.lt_image.specs.Bound.{distinct_count}
use Rattle.lt_image.specs.Versions.{Opened, open_image, extent_in, items_at}
use Rattle.lt_image.specs.Standing.{bad_table_blocks, bad_group_blocks, bad_node_blocks, bad_blocks, filter_blocks}
use Rattle.lt_image.proofs.AfterLaws.{node_at-holds, sound_nodes}
use Rattle.lt_image.proofs.JobCountLaws.{opens-trie}
use Rattle.lt_image.proofs.PlacedLaws.{named-placed, nothing_kept}
use Rattle.lt_image.proofs.SoundLaws.{nil_append, nil_map, nil_flat_map}

-- the k-th of numbered elements
numbered_at : (P : ℕ × ℕ → Type 0) (xs : List ℕ) (from k : ℕ) → k < length xs → AllByRecursion P (enumerate_from from xs) → P (from + k, get_or xs k 0)
numbered_at P [] from k small all = absurd (omega arith)
numbered_at P (x ∷ xs) from zero small all = let e : from ≡ from + 0 = omega arith in subst (λ n. P (n, x)) e all.0
numbered_at P (x ∷ xs) from (suc k) small all = let e : from + 1 + k ≡ from + suc k = omega arith in subst (λ n. P (n, get_or xs k 0)) e (numbered_at P xs (from + 1) k (omega arith) all.1)

-- the blocks of a group without a bad one are the transpose
group_block_is : (g : Geometry) (image : Image) (tables : List ℕ) (j x c : ℕ) → bad_group_blocks g image tables (j, x) ≡ [] → c < 64 → extent_in g image x c ≡ group_block (filter_blocks g image (slice_range tables (64 * j) (64 * j + 64))) c
unfolding columns
group_block_is g image tables j x c none small =
    let filters : List (List ℕ) = filter_blocks g image (slice_range tables (64 * j) (64 * j + 64)) in
    let same = nothing_kept (λ c. not (same_bytes (extent_in g image x c) (group_block filters c))) 0 64 c (nil_map (λ c. extent_block g x + c) _ none) (omega arith) (omega arith) in
    (bytes_decides (extent_in g image x c) (group_block filters c)).0 (not_false (same_bytes (extent_in g image x c) (group_block filters c)) same)
  where
    not_false : (b : Bool) → not b ≡ false → b ≡ true
    not_false true h = refl
    not_false false h = sym h

pages_of : (g : Geometry) (image : Image) (tables : List ℕ) → AllByRecursion (λ x. IsPlaced (newest (items_at g image x)) (extent_in g image x)) tables → ArePages (filter_blocks g image tables)
pages_of g image [] placed = tt
pages_of g image (x ∷ tables) placed = (ap length placed.0.filters ∙ length-filter_block (newest (items_at g image x)), pages_of g image tables placed.1)

part_len : (tables : List ℕ) (i : ℕ) → i < length tables → i % 64 < length (slice_range tables (64 * (i / 64)) (64 * (i / 64) + 64))
part_len tables i small =
    let j : ℕ = i / 64 in
    let whole : 64 * j + i % 64 ≡ i = omega arith in
    let below : i % 64 < 64 = omega arith in
    let rest = length-drop (64 * j) tables in
    let part = length-take (64 * j + 64 - 64 * j) (drop (64 * j) tables) in
    within (length (drop (64 * j) tables)) (length (slice_range tables (64 * j) (64 * j + 64))) rest part whole below
  where
    within : (rest part : ℕ) → rest ≡ length tables - 64 * (i / 64) → part ≡ min (64 * (i / 64) + 64 - 64 * (i / 64)) rest → 64 * (i / 64) + i % 64 ≡ i → i % 64 < 64 → i % 64 < part
    within rest part r p whole below = omega arith

-- THE GROUP of a table answers for each key as the table's own home filter
pub groups-answer : (image : Image) (o : Opened) (id : NodeId) (i c : ℕ) (key : List ℕ) → open_image image ≡ Ok o → bad_blocks o image ≡ [] → is_last_level o.named.geometry.levels id ≡ true → i < length (node_at o.named.manifest.trie id).tables → c < 64
    → covers (extent_in o.named.geometry image (slice_index (node_at o.named.manifest.trie id).groups (i / 64)) c) (i % 64) key ≡ covers (extent_in o.named.geometry image (slice_index (node_at o.named.manifest.trie id).tables i) 64) c key
groups-answer image o id i c key opens sound last small column =
    let g : Geometry = o.named.geometry in
    let n : Node = node_at o.named.manifest.trie id in
    let j : ℕ = i / 64 in
    let part : List ℕ = slice_range n.tables (64 * j) (64 * j + 64) in
    let t = opens-trie image o opens in
    let count : length n.groups ≡ groups_for (length n.tables) = (shaped-last g.levels o.named.manifest.header.extents id n last (node_at-shaped g.levels o.named.manifest.header.extents o.named.manifest.trie id t.nodes)).1 in
    let there : j < length n.groups = omega arith in
    let here : bad_node_blocks g image (id, n) ≡ [] = node_at-holds (λ e. bad_node_blocks g image e ≡ []) id o.named.manifest.trie refl (sound_nodes o image sound) in
    let groups = nil_flat_map (bad_group_blocks g image n.tables) (enumerate_from 0 n.groups) (nil_append (flat_map (bad_table_blocks g image id) n.tables) (flat_map (bad_group_blocks g image n.tables) (enumerate_from 0 n.groups)) here).1 in
    let zero_j : 0 + j ≡ j = omega arith in
    let group_sound : bad_group_blocks g image n.tables (j, get_or n.groups j 0) ≡ [] = subst (λ k. bad_group_blocks g image n.tables (k, get_or n.groups j 0) ≡ []) zero_j (numbered_at (λ p. bad_group_blocks g image n.tables p ≡ []) n.groups 0 j there groups) in
    let placed = named-placed image o id sound in
    let part_placed = all_take (λ x. IsPlaced (newest (items_at g image x)) (extent_in g image x)) (64 * j + 64 - 64 * j) (drop (64 * j) n.tables) (all_drop (λ x. IsPlaced (newest (items_at g image x)) (extent_in g image x)) (64 * j) n.tables placed) in
    let inside : i % 64 < length part = part_len n.tables i small in
    let inside_pages : i % 64 < length (filter_blocks g image part) = omega (arith, inside, length-map part (λ x. extent_in g image x 64)) in
    let place : 64 * j + i % 64 ≡ i = omega arith in
    let table_is : get_or part (i % 64) 0 ≡ get_or n.tables i 0 = get_or-take (64 * j + 64 - 64 * j) (drop (64 * j) n.tables) (i % 64) 0 (omega arith) ∙ get_or-drop (64 * j) n.tables (i % 64) 0 ∙ ap (λ k. get_or n.tables k 0) place in
    ap (λ page. covers page (i % 64) key) (group_block_is g image n.tables j (get_or n.groups j 0) c group_sound column)
    ∙ groups-cover (filter_blocks g image part) c (i % 64) key (pages_of g image part part_placed) column inside_pages
    ∙ ap (λ page. covers page c key) (get_or-map (λ x. extent_in g image x 64) part (i % 64) 0 [] inside ∙ ap (λ x. extent_in g image x 64) table_is)

-- ---- the second bucket

sent_by : (sends : Option Sends) (suffix column : ℕ) → sent_to sends suffix ≡ moved column → option_map_or (λ (t : Sends). nat_le t.mark suffix) sends false ≡ true
sent_by None suffix column h = cc
sent_by (Some s) suffix column h = by_test (nat_le s.mark suffix) h
  where
    by_test : (b : Bool) → cond b (moved s.target) absent ≡ moved column → b ≡ true
    by_test true h = refl
    by_test false h = cc

seen_by : (item : Option Item) (sends : Option Sends) (suffix column : ℕ) → look_of item (sent_to sends suffix) ≡ moved column → option_map_or (λ (t : Sends). nat_le t.mark suffix) sends false ≡ true
seen_by None sends suffix column h = sent_by sends suffix column h
seen_by (Some item) sends suffix column h = cc

some_look : (a b : Look) → Some a ≡ Some b → a ≡ b
some_look a b e = cc

by_bucket : (bucket : Option Bucket) (key : List ℕ) (column : ℕ) → option_map (look_in_1 key) bucket ≡ Some (moved column) → option_map_or (λ (t : Sends). nat_le t.mark (key_suffix key)) (option_and_then (λ (b : Bucket). b.sends) bucket) false ≡ true
by_bucket None key column h = cc
by_bucket (Some b) key column h = seen_by (find (λ item. same_bytes item.key key) b.items) b.sends (key_suffix key) column (some_look (look_in_1 key b) (moved column) h)

-- A KEY IS LOOKED FOR in a second bucket only where its home bucket sends its suffix
pub moved-sent : (page key : List ℕ) (column : ℕ) → look_on page key ≡ Some (moved column) → option_map_or (λ (t : Sends). nat_le t.mark (key_suffix key)) (sends_on page) false ≡ true
moved-sent page key column h = by_bucket (bucket_of_page_1 page) key column h

-- ---- groups along a pile

-- how many numbers differ from the one before them
abbrev pub changes : Option ℕ → List ℕ → ℕ
changes before [] = 0
changes before (x ∷ xs) = (if option_map_or (λ y. y == x) before false then 0 else 1) + changes (Some x) xs

-- the numbers never rise
abbrev pub Falling : List ℕ → Type 0
Falling [] = Unit {0}
Falling (x ∷ xs) = AllByRecursion (λ y. y ≤ x) xs × Falling xs

absent_below : (x : ℕ) (xs : List ℕ) → AllByRecursion (λ y. y < x) xs → is_in x xs ≡ false
absent_below x [] all = refl
absent_below x (y ∷ ys) all = ap (λ b. b || is_in x ys) (ne_eqb y x (λ same. let h = all.0 in absurd (omega arith))) ∙ absent_below x ys all.1

weaker_below : (x y : ℕ) (zs : List ℕ) → y < x → AllByRecursion (λ z. z ≤ y) zs → AllByRecursion (λ z. z < x) zs
weaker_below x y [] less all = tt
weaker_below x y (z ∷ zs) less all = (let h = all.0 in omega arith, weaker_below x y zs less all.1)

-- behind a number: one change fewer where the next one is the same
changes_from : (x : ℕ) (xs : List ℕ) → Falling (x ∷ xs) → 1 + changes (Some x) xs ≡ distinct_count (x ∷ xs)
changes_from x [] falling = refl
changes_from x (y ∷ ys) falling = by_head (x == y) refl (changes_from y ys falling.1)
  where
    by_head : (b : Bool) → (x == y) ≡ b → 1 + changes (Some y) ys ≡ distinct_count (y ∷ ys) → 1 + (cond b 0 1 + changes (Some y) ys) ≡ cond (y == x || is_in x ys) (distinct_count (y ∷ ys)) (suc (distinct_count (y ∷ ys)))
    by_head true e rest =
        let same : (y == x) ≡ true = eq-eqb y x (sym (eqb-true x y e)) in
        rw same (omega (arith, rest))
    by_head false e rest =
        let below : y ≤ x = falling.0.0 in
        let apart = eqb-false x y e in
        let less : y < x = strict below apart in
        let none : (y == x || is_in x ys) ≡ false = ap (λ b. b || is_in x ys) (ne_eqb y x (λ same. apart (sym same))) ∙ absent_below x ys (weaker_below x y ys less falling.1.0) in
        rw none (omega (arith, rest))
      where
        strict : y ≤ x → (x ≡ y → ⊥) → y < x
        strict below apart = omega arith

-- THE GROUPS that a walk down a pile changes to are as many as there are different ones
pub changes-distinct : (xs : List ℕ) → Falling xs → changes None xs ≡ distinct_count xs
changes-distinct [] falling = refl
changes-distinct (x ∷ xs) falling = changes_from x xs falling
