-- A placed table has no bad block, and a table whose blocks are as before has the bad blocks that it had.
use Rattle.std.proofs.Common.{◌≡◌, ℕ, zero, suc, ◌+◌, ◌<◌, ◌≤◌, refl, sym, ap, subst, ◌∙◌, List, [], ◌∷◌, ◌++◌, map, length, Bool, true, false, not, cond, ◌||◌, Option, Some, None, arith, ne_eqb}
use Rattle.std.specs.Prelude.{◌==◌, T, is_none}
use Rattle.std.specs.Bool.{one_answer}
use Rattle.std.specs.Cmp.Lexicographic.{bytes_decides}
use Rattle.std.specs.List.{flat_map, filter, list_any, range_with_len}
use Rattle.std.specs.Option.{option_to_list}
use Rattle.std.proofs.lemmas.Bool.{or_from}
use Rattle.lt_terms.specs.Bytes.{same_bytes}
use Rattle.lt_terms.specs.Items.{Item}
use Rattle.lt_tables.specs.declared.ColumnPlan.{ColumnPlan}
use Rattle.lt_tables.specs.Bucket.{bucket_of, items_on}
use Rattle.lt_tables.specs.Filter.{filter_block}
use Rattle.lt_tables.specs.Placement.{columns, placement_of}
use Rattle.lt_tables.specs.Table.{place_of, bucket_in, IsPlaced, table_items, versions_of, newest_of, newest}
use Rattle.lt_tables.proofs.NewestLaws.{newest-alike}
use Rattle.lt_tables.proofs.TableLaws.{flat_map-range, table_items-placed, versions_of-placed, SameNewest-placed}
use Rattle.lt_format.specs.declared.node_id.NodeId.{NodeId}
use Rattle.lt_format.specs.Trie.{path, same_node}
use Rattle.lt_image.specs.Standing.{block_if, spells, located_items, stray_columns, misplaced_columns, bad_in_table}
use Rattle.lt_image.proofs.Words.{Belongs}
use Rattle.lt_image.proofs.PathLaws.{Belongs-append}
use Rattle.lt_tables.proofs.PlanLaws.{placement-within}
use Rattle.lt_image.proofs.SoundLaws.{located-items}
use Rattle.lt_image.proofs.SpellsLaws.{spells-is}

pub filter-range : (f g : ℕ → Bool) (a n : ℕ) → ((c : ℕ) → c < a + n → f c ≡ g c) → filter f (range_with_len a n) ≡ filter g (range_with_len a n)
filter-range f g a zero h = refl
filter-range f g a (suc n) h =
    ap (λ b. cond b (a ∷ filter f (range_with_len (a + 1) n)) (filter f (range_with_len (a + 1) n))) (h a (omega arith))
    ∙ ap (λ xs. cond (g a) (a ∷ xs) xs) (filter-range f g (a + 1) n (λ c small. h c (omega arith)))

none_kept : (a n : ℕ) → filter (λ c. false) (range_with_len a n) ≡ []
none_kept a zero = refl
none_kept a (suc n) = none_kept (a + 1) n

pub none-range : (f : ℕ → Bool) (a n : ℕ) → ((c : ℕ) → c < a + n → f c ≡ false) → filter f (range_with_len a n) ≡ []
none-range f a n h = filter-range f (λ c. false) a n h ∙ none_kept a n

pub same_bytes-refl : (a : List ℕ) → same_bytes a a ≡ true
same_bytes-refl a = (bytes_decides a a).1 refl

pub same_bytes-is : (a b : List ℕ) → a ≡ b → same_bytes a b ≡ true
same_bytes-is a b e = (bytes_decides a b).1 e

pub same_bytes-sym : (a b : List ℕ) → same_bytes a b ≡ same_bytes b a
same_bytes-sym a b = one_answer _ _ (bytes_decides a b) ((λ e. sym ((bytes_decides b a).0 e)), (λ e. (bytes_decides b a).1 (sym e)))

-- ---- no stray columns

none_any : (test : List ℕ → Bool) (keys : List (List ℕ)) → length (filter test keys) ≤ 0 → list_any test keys ≡ false
none_any test [] h = refl
none_any test (k ∷ keys) h = step (test k) refl h (none_any test keys)
  where
    step : (b : Bool) → test k ≡ b → length (cond b (k ∷ filter test keys) (filter test keys)) ≤ 0 → (length (filter test keys) ≤ 0 → list_any test keys ≡ false) → (test k || list_any test keys) ≡ false
    step true e h ih = absurd (omega arith)
    step false e h ih = or_from (test k) (list_any test keys) e (ih h)

shift : (b : Bool) (v : Item) (key : List ℕ) (keys : List (List ℕ)) (rest : List Item) → length keys + length (cond b (v ∷ rest) rest) ≤ 1 → length (cond b (key ∷ keys) keys) + length rest ≤ 1
shift true v key keys rest h = omega arith
shift false v key keys rest h = h

no_room : (b : Bool) (v : Item) (keys : List (List ℕ)) (rest : List Item) → b ≡ true → length keys + length (cond b (v ∷ rest) rest) ≤ 1 → length keys ≤ 0
no_room true v keys rest e h = omega arith
no_room false v keys rest e h = absurd (subst T (sym e) tt)

stray_none : (id : NodeId) (keys : List (List ℕ)) (items : List (ℕ × Item)) → Belongs id (map (λ (found : ℕ × Item). found.1) items)
    → ((k : List ℕ) → length (filter (same_bytes k) keys) + length (versions_of k (map (λ (found : ℕ × Item). found.1) items)) ≤ 1) → stray_columns id keys items ≡ []
stray_none id keys [] b h = refl
stray_none id keys (found ∷ items) b h =
    let key : List ℕ = found.1.key in
    let rest : List Item = map (λ (found : ℕ × Item). found.1) items in
    let new : list_any (same_bytes key) keys ≡ false = none_any (same_bytes key) keys (no_room (same_bytes key key) found.1 (filter (same_bytes key) keys) (versions_of key rest) (same_bytes-refl key) (h key)) in
    ap (λ t. block_if t found.0 ++ stray_columns id (key ∷ keys) items) (or_from (not (same_node (path key id.level) id)) (list_any (same_bytes key) keys) (ap not b.0) new)
    ∙ stray_none id (key ∷ keys) items b.1 (λ k.
    subst (λ t. length (cond t (key ∷ filter (same_bytes k) keys) (filter (same_bytes k) keys)) + length (versions_of k rest) ≤ 1) (same_bytes-sym key k)
    (shift (same_bytes key k) found.1 key (filter (same_bytes k) keys) (versions_of k rest) (h k)))

belongs_filter : (id : NodeId) (test : Item → Bool) (xs : List Item) → Belongs id xs → Belongs id (filter test xs)
belongs_filter id test [] b = tt
belongs_filter id test (v ∷ xs) b = elim (test v) as (λ t. Belongs id (cond t (v ∷ filter test xs) (filter test xs))) [ true ↦ (b.0, belongs_filter id test xs b.1) | false ↦ belongs_filter id test xs b.1 ]

belongs_spread : (id : NodeId) (place : Item → ℕ) (xs : List Item) (cs : List ℕ) → Belongs id xs → Belongs id (flat_map (λ c. filter (λ v. place v == c) xs) cs)
belongs_spread id place xs [] b = tt
belongs_spread id place xs (c ∷ cs) b = Belongs-append id (filter (λ v. place v == c) xs) (flat_map (λ c. filter (λ v. place v == c) xs) cs) (belongs_filter id (λ v. place v == c) xs b) (belongs_spread id place xs cs b)

pub option_short : (o : Option Item) → length (option_to_list o) ≤ 1
option_short None = omega arith
option_short (Some v) = omega arith

-- the items of a placed table belong to the node
pub Belongs-placed : (id : NodeId) (plans : List ColumnPlan) (items : List Item) (block : ℕ → List ℕ) → ((c : ℕ) → c < 64 → bucket_of (block c) ≡ Some (bucket_in plans items c)) → newest items ≡ items → Belongs id items → Belongs id (table_items block)
Belongs-placed id plans items block buckets rank b =
    subst (Belongs id) (sym (table_items-placed plans items block buckets)) (belongs_spread id (place_of plans) (newest items) columns (subst (Belongs id) (sym rank) b))

-- items that a table may hold: in rank order, at least one, and of the node
pub record Holdable (id : NodeId) (items : List Item) : Type 0 where
  pub ranked : newest items ≡ items
  pub any : 1 ≤ length items
  pub belong : Belongs id items

-- A PLACED TABLE has no bad block
pub placed-sound : (id : NodeId) (items : List Item) (block : ℕ → List ℕ) (p : IsPlaced items block) → Holdable id items → bad_in_table id block (newest (table_items block)) ≡ []
unfolding bad_in_table columns
placed-sound id items block p h =
    let within = placement-within items p.plans p.placement in
    let items_are : newest (table_items block) ≡ items = newest-alike (table_items block) items (SameNewest-placed p.plans items block within p.buckets) ∙ h.ranked in
    let spelled : filter (λ c. is_none (bucket_of (block c))) (range_with_len 0 64) ≡ [] = none-range (λ c. is_none (bucket_of (block c))) 0 64 (λ c small. ap is_none (p.buckets c (omega arith))) in
    let some : (length items == 0) ≡ false = ne_eqb (length items) 0 (λ e. let any : 1 ≤ length items = h.any in absurd (omega arith)) in
    let at_home : stray_columns id [] (located_items block) ≡ [] = stray_none id [] (located_items block)
    (subst (Belongs id) (sym (located-items block)) (Belongs-placed id p.plans items block p.buckets h.ranked h.belong))
    (λ k. let short : length (versions_of k (map (λ (found : ℕ × Item). found.1) (located_items block))) ≤ 1 = subst (λ (xs : List Item). length xs ≤ 1) (sym (ap (versions_of k) (located-items block) ∙ versions_of-placed p.plans items block k within p.buckets)) (option_short (newest_of k items)) in omega arith) in
    let in_place : misplaced_columns block items (Some p.plans) ≡ [] = none-range (λ c. not (spells (block c) (bucket_in p.plans items c))) 0 64 (λ c small. ap not (spells-is (block c) (bucket_in p.plans items c) (p.buckets c (omega arith)))) in
    let filters : not (same_bytes (block 64) (filter_block items)) ≡ false = ap not (same_bytes-is (block 64) (filter_block items) p.filters) in
    ap (bad_in_table id block) items_are
    ∙ ap (λ xs. xs ++ block_if (length items == 0) 0 ++ stray_columns id [] (located_items block) ++ misplaced_columns block items (placement_of items) ++ block_if (not (same_bytes (block 64) (filter_block items))) 64) spelled
    ∙ ap (λ b. block_if b 0 ++ stray_columns id [] (located_items block) ++ misplaced_columns block items (placement_of items) ++ block_if (not (same_bytes (block 64) (filter_block items))) 64) some
    ∙ ap (λ xs. xs ++ misplaced_columns block items (placement_of items) ++ block_if (not (same_bytes (block 64) (filter_block items))) 64) at_home
    ∙ ap (λ o. misplaced_columns block items o ++ block_if (not (same_bytes (block 64) (filter_block items))) 64) p.placement
    ∙ ap (λ xs. xs ++ block_if (not (same_bytes (block 64) (filter_block items))) 64) in_place
    ∙ ap (λ b. block_if b 64) filters

-- ---- blocks as before

same_misplaced : (old new : ℕ → List ℕ) (items : List Item) (o : Option (List ColumnPlan)) → ((c : ℕ) → c < 65 → new c ≡ old c) → misplaced_columns new items o ≡ misplaced_columns old items o
unfolding columns
same_misplaced old new items None same = refl
same_misplaced old new items (Some plans) same = filter-range (λ c. not (spells (new c) (bucket_in plans items c))) (λ c. not (spells (old c) (bucket_in plans items c))) 0 64 (λ c small. ap (λ b. not (spells b (bucket_in plans items c))) (same c (omega arith)))

pub same_bad_in_table : (id : NodeId) (old new : ℕ → List ℕ) (items : List Item) → ((c : ℕ) → c < 65 → new c ≡ old c) → bad_in_table id new items ≡ bad_in_table id old items
unfolding bad_in_table columns
same_bad_in_table id old new items same =
    let spelled : filter (λ c. is_none (bucket_of (new c))) (range_with_len 0 64) ≡ filter (λ c. is_none (bucket_of (old c))) (range_with_len 0 64) = filter-range (λ c. is_none (bucket_of (new c))) (λ c. is_none (bucket_of (old c))) 0 64 (λ c small. ap (λ b. is_none (bucket_of b)) (same c (omega arith))) in
    let located : located_items new ≡ located_items old = flat_map-range (λ c. map (λ item. (c, item)) (items_on (new c))) (λ c. map (λ item. (c, item)) (items_on (old c))) 0 64 (λ c small. ap (λ b. map (λ item. (c, item)) (items_on b)) (same c (omega arith))) in
    let last : new 64 ≡ old 64 = same 64 (omega arith) in
    λ i. spelled i ++ block_if (length items == 0) 0 ++ stray_columns id [] (located i) ++ same_misplaced old new items (placement_of items) same i ++ block_if (not (same_bytes (last i) (filter_block items))) 64
