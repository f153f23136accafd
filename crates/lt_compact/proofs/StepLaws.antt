-- What is true of a job's stage stays true step by step.
use Rattle.std.proofs.Common.{◌≡◌, ℕ, zero, suc, ◌+◌, ◌*◌, ◌<◌, ◌≤◌, refl, sym, ap, subst, ◌∙◌, List, [], ◌∷◌, ◌++◌, map, length, take, get_or, Bool, true, false, not, cond, ◌||◌, Option, Some, None, arith}
use Rattle.std.specs.Prelude.{◌==◌, nat_le, nat_lt, slice_index, is_some}
use Rattle.std.specs.List.{filter, last_or, list_any, range_with_len, AllByRecursion}
use Rattle.std.specs.Cmp.Lexicographic.{bytes_decides}
use Rattle.std.proofs.lemmas.Bool.{and_parts, and_from, eq-eqb, le-leb, leb-true, lt-ltb, true≢false}
use Rattle.std.proofs.lemmas.List.{append-nil, take_more}
use Rattle.std.proofs.lemmas.List.Concat.{flat_map-append}
use Rattle.std.proofs.lemmas.List.Folds.{list_any-append}
use Rattle.std.proofs.Math.Seq.{take-length}
use Rattle.lt_terms.specs.Bytes.{Image, same_bytes}
use Rattle.lt_terms.specs.Items.{Item}
use Rattle.lt_tables.specs.Alike.{SameNewest}
use Rattle.lt_tables.specs.Table.{has_two_versions, is_put, newest, newest_of, versions_of}
use Rattle.lt_tables.proofs.NewestLaws.{newest-alike, newest_of-newest, SameNewest-append, SameNewest-newest, SameNewest-refl}
use Rattle.lt_tables.proofs.PartLaws.{HasOnce-newest}
use Rattle.lt_tables.proofs.RankedLaws.{each_newest}
use Rattle.lt_format.specs.declared.node_id.NodeId.{NodeId}
use Rattle.lt_format.specs.Snapshot.{Named}
use Rattle.lt_format.specs.Trie.{Trie, is_last_level, node_at, same_node}
use Rattle.lt_format.proofs.TrieLaws.{same_node-itself}
use Rattle.lt_image.specs.Shares.{Share, child_share, has_tables, rewrite_share, deal_shares, shares_of}
use Rattle.lt_image.specs.Versions.{items_at, pile_items}
use Rattle.lt_image.proofs.SlackLaws.{none_twice}
use Rattle.lt_image.proofs.TableSoundLaws.{option_short}
use Rattle.lt_compact.specs.Plans.{are_shared, children_shared, is_own}
use Rattle.lt_compact.specs.Jobs.{scanning, planned, is_loose, KeepsStage}
use Rattle.lt_compact.proofs.LocalLaws.{shares_of-newest}

-- ---- a key among the items

-- some item has a key that passes the test
abbrev pub any_key : (List ℕ → Bool) → List Item → Bool
any_key p items = list_any (λ (v : Item). p v.key) items

-- some item has this key
abbrev pub has_key : List ℕ → List Item → Bool
has_key key items = list_any (λ (v : Item). same_bytes v.key key) items

or_true : (a : Bool) → (a || true) ≡ true
or_true true = refl
or_true false = refl

some_last : (key : List ℕ) (o : Option Item) (items : List Item) → is_some (last_or o (versions_of key items)) ≡ (is_some o || has_key key items)
some_last key None [] = refl
some_last key (Some v) [] = refl
some_last key o (v ∷ items) = by_test (same_bytes v.key key) (some_last key (Some v) items) (some_last key o items)
  where
    by_test : (b : Bool) → is_some (last_or (Some v) (versions_of key items)) ≡ true → is_some (last_or o (versions_of key items)) ≡ (is_some o || has_key key items)
        → is_some (last_or o (cond b (v ∷ versions_of key items) (versions_of key items))) ≡ (is_some o || (b || has_key key items))
    by_test true here there = here ∙ sym (or_true (is_some o))
    by_test false here there = there

pub has_key-newest_of : (key : List ℕ) (items : List Item) → is_some (newest_of key items) ≡ has_key key items
has_key-newest_of key items = some_last key None items

-- a key that passes
record Passes (p : List ℕ → Bool) (items : List Item) : Type 0 where
  key : List ℕ
  passes : p key ≡ true
  there : has_key key items ≡ true

passing : (p : List ℕ → Bool) (items : List Item) → any_key p items ≡ true → Passes p items
passing p [] h = absurd (true≢false (sym h))
passing p (v ∷ items) h = by_test (p v.key) refl h (passing p items)
  where
    by_test : (b : Bool) → p v.key ≡ b → (b || any_key p items) ≡ true → (any_key p items ≡ true → Passes p items) → Passes p (v ∷ items)
    by_test true here h more = record { key = v.key; passes = here; there = ap (λ b. b || has_key v.key items) ((bytes_decides v.key v.key).1 refl) }
    by_test false here h more = let rest = more h in record { key = rest.key; passes = rest.passes; there = ap (λ b. same_bytes v.key rest.key || b) rest.there ∙ or_true (same_bytes v.key rest.key) }

passes_there : (p : List ℕ → Bool) (key : List ℕ) (items : List Item) → p key ≡ true → has_key key items ≡ true → any_key p items ≡ true
passes_there p key [] passes h = absurd (true≢false (sym h))
passes_there p key (v ∷ items) passes h = by_test (same_bytes v.key key) refl h (passes_there p key items passes)
  where
    by_test : (b : Bool) → same_bytes v.key key ≡ b → (b || has_key key items) ≡ true → (has_key key items ≡ true → any_key p items ≡ true) → (p v.key || any_key p items) ≡ true
    by_test true same h more = ap (λ b. b || any_key p items) (ap p ((bytes_decides v.key key).0 same) ∙ passes)
    by_test false same h more = ap (λ b. p v.key || b) (more h) ∙ or_true (p v.key)

any_key-alike : (p : List ℕ → Bool) (xs ys : List Item) → SameNewest xs ys → any_key p xs ≡ true → any_key p ys ≡ true
any_key-alike p xs ys same h =
    let at = passing p xs h in
    passes_there p at.key ys at.passes (sym (has_key-newest_of at.key ys) ∙ ap is_some (sym (same.each at.key)) ∙ has_key-newest_of at.key xs ∙ at.there)

both_ways : (a b : Bool) → (a ≡ true → b ≡ true) → (b ≡ true → a ≡ true) → a ≡ b
both_ways true b f g = sym (f refl)
both_ways false true f g = g refl
both_ways false false f g = refl

any_key-newest : (p : List ℕ → Bool) (items : List Item) → any_key p (newest items) ≡ any_key p items
any_key-newest p items = both_ways (any_key p (newest items)) (any_key p items) (any_key-alike p (newest items) items (SameNewest-newest items))
    (any_key-alike p items (newest items) (record { each = λ key. sym (newest_of-newest key items) }))

-- ---- loose items

abbrev pub has_delete : List Item → Bool
has_delete items = list_any (λ v. not (is_put v)) items

-- a key stands on both sides
abbrev pub meets : List Item → List Item → Bool
meets xs ys = any_key (λ key. has_key key ys) xs

pub two-append : (xs ys : List Item) → has_two_versions (xs ++ ys) ≡ (has_two_versions xs || (meets xs ys || has_two_versions ys))
two-append [] ys = refl
two-append (v ∷ xs) ys =
    ap (λ b. b || has_two_versions (xs ++ ys)) (list_any-append (λ (w : Item). same_bytes w.key v.key) xs ys)
    ∙ ap (λ b. (has_key v.key xs || has_key v.key ys) || b) (two-append xs ys)
    ∙ regroup (has_key v.key xs) (has_key v.key ys) (has_two_versions xs) (meets xs ys) (has_two_versions ys)
  where
    regroup : (a b c d e : Bool) → ((a || b) || (c || (d || e))) ≡ ((a || c) || ((b || d) || e))
    regroup true b c d e = refl
    regroup false true true d e = refl
    regroup false true false d e = refl
    regroup false false c d e = refl

all_puts : (items : List Item) → has_delete items ≡ false → AllByRecursion (λ (v : Item). is_put v ≡ true) items
all_puts [] h = tt
all_puts (v ∷ items) h = by_test (is_put v) refl h (all_puts items)
  where
    by_test : (b : Bool) → is_put v ≡ b → (not b || has_delete items) ≡ false → (has_delete items ≡ false → AllByRecursion (λ (v : Item). is_put v ≡ true) items) → AllByRecursion (λ (v : Item). is_put v ≡ true) (v ∷ items)
    by_test true here h more = (here, more h)
    by_test false here h more = absurd (true≢false h)

no_delete : (items : List Item) → AllByRecursion (λ (v : Item). is_put v ≡ true) items → has_delete items ≡ false
no_delete [] all = refl
no_delete (v ∷ items) all = ap (λ b. not b || has_delete items) all.0 ∙ no_delete items all.1

newest-no_two : (items : List Item) → has_two_versions (newest items) ≡ false
newest-no_two items = none_twice (newest items) (λ key. subst (λ (xs : List Item). length xs ≤ 1) (sym ((HasOnce-newest items).each key)) (option_short (newest_of key (newest items))))

-- older versions that were dropped are told, so that what was kept tells the rest
pub is_loose-more : (all items : List Item) → (is_loose all || is_loose (newest all ++ items)) ≡ is_loose (all ++ items)
is_loose-more all items =
    ap (λ b. is_loose all || (b || has_two_versions (newest all ++ items))) (list_any-append (λ v. not (is_put v)) (newest all) items)
    ∙ ap (λ b. is_loose all || ((has_delete (newest all) || has_delete items) || b)) (two-append (newest all) items)
    ∙ ap (λ b. is_loose all || ((has_delete (newest all) || has_delete items) || (b || (meets (newest all) items || has_two_versions items)))) (newest-no_two all)
    ∙ ap (λ b. is_loose all || ((has_delete (newest all) || has_delete items) || (b || has_two_versions items))) (any_key-newest (λ key. has_key key items) all)
    ∙ join (has_delete all) (has_two_versions all) (has_delete (newest all)) (has_delete items) (meets all items) (has_two_versions items) kept
    ∙ ap (λ b. (has_delete all || has_delete items) || b) (sym (two-append all items))
    ∙ ap (λ b. b || has_two_versions (all ++ items)) (sym (list_any-append (λ v. not (is_put v)) all items))
  where
    kept : has_delete all ≡ false → has_delete (newest all) ≡ false
    kept none = no_delete (newest all) (each_newest (λ (v : Item). is_put v ≡ true) all (all_puts all none))

    join : (d t n e m u : Bool) → (d ≡ false → n ≡ false) → ((d || t) || ((n || e) || (m || u))) ≡ ((d || e) || (t || (m || u)))
    join true t n e m u h = refl
    join false true n true m u h = refl
    join false true n false m u h = refl
    join false false true e m u h = absurd (true≢false (h refl))
    join false false false e m u h = refl

-- ONE TABLE MORE was scanned
pub scanned : (m : Named) (image : Image) (id : NodeId) (sources : List ℕ) (n : ℕ) (kept items : List Item) (loose : Bool) → n < length sources → items ≡ items_at m.geometry image (slice_index sources n) → KeepsStage m image id sources (scanning n kept loose)
    → KeepsStage m image id sources (scanning (n + 1) (newest (kept ++ items)) (loose || is_loose (kept ++ items)))
scanned m image id sources n kept items loose small is keeps =
    let all : List Item = pile_items m.geometry image (take n sources) in
    let more : pile_items m.geometry image (take (n + 1) sources) ≡ all ++ items =
    ap (pile_items m.geometry image) (take_more sources n 0 small)
    ∙ flat_map-append (items_at m.geometry image) (take n sources) (get_or sources n 0 ∷ [])
    ∙ ap (λ xs. all ++ xs) (append-nil (items_at m.geometry image (get_or sources n 0)) ∙ sym is) in (
      ap (λ xs. newest (xs ++ items)) keeps.0 ∙ newest-alike (newest all ++ items) (all ++ items) (SameNewest-append (newest all) items all items (SameNewest-newest all) (SameNewest-refl items)) ∙ ap newest (sym more),
      (λ i. keeps.1 i || is_loose (keeps.0 i ++ items)) ∙ is_loose-more all items ∙ ap is_loose (sym more),
    )

-- ALL WERE SCANNED, and are shared out
pub planned-keeps : (m : Named) (image : Image) (id : NodeId) (sources : List ℕ) (n : ℕ) (kept : List Item) (loose : Bool) → n ≡ length sources → KeepsStage m image id sources (scanning n kept loose)
    → KeepsStage m image id sources (planned (shares_of m.geometry.levels m.manifest.trie id kept))
planned-keeps m image id sources n kept loose all keeps =
    ap (shares_of m.geometry.levels m.manifest.trie id) (keeps.0 ∙ ap (λ k. newest (pile_items m.geometry image (take k sources))) all ∙ ap (λ xs. newest (pile_items m.geometry image xs)) (take-length sources))
    ∙ shares_of-newest m.geometry.levels m.manifest.trie id (pile_items m.geometry image sources)

-- ---- the shares have the shape that the trie wants

lower : (trie : Trie) (id : NodeId) (a b : ℕ) (shares : List Share) → a ≤ b → children_shared trie id b shares ≡ true → children_shared trie id a shares ≡ true
lower trie id a b [] le h = refl
lower trie id a b (s ∷ shares) le h =
    let f = and_parts _ (children_shared trie id (s.node.number + 1) shares) h in
    let e = and_parts _ (same_bytes s.behind (node_at trie s.node).tables) f.0 in
    let d = and_parts _ (nat_le 1 (length s.parts)) e.0 in
    let c = and_parts _ (nat_lt s.node.number (8 * id.number + 8)) d.0 in
    let b_is = and_parts (s.node.level == id.level + 1) (nat_le b s.node.number) c.0 in
    let above : b ≤ s.node.number = leb-true b s.node.number b_is.1 in
    and_from _ _ (and_from _ _ (and_from _ _ (and_from _ _ (and_from _ _ b_is.0 (le-leb a s.node.number (omega arith))) c.1) d.1) e.1) f.1

dealt_shared : (trie : Trie) (id : NodeId) (items : List Item) (d n : ℕ) → d + n ≤ 8 → children_shared trie id (8 * id.number + d) (filter has_tables (map (child_share trie id items) (range_with_len d n))) ≡ true
dealt_shared trie id items d zero fits = refl
dealt_shared trie id items d (suc n) fits =
    let rest : List Share = filter has_tables (map (child_share trie id items) (range_with_len (d + 1) n)) in
    let more : children_shared trie id (8 * id.number + d + 1) rest ≡ true = subst (λ k. children_shared trie id k rest ≡ true) (omega arith) (dealt_shared trie id items (d + 1) n (omega arith)) in
    by_tables (has_tables (child_share trie id items d)) refl rest more
  where
    by_tables : (b : Bool) → has_tables (child_share trie id items d) ≡ b → (rest : List Share) → children_shared trie id (8 * id.number + d + 1) rest ≡ true
        → children_shared trie id (8 * id.number + d) (cond b (child_share trie id items d ∷ rest) rest) ≡ true
    by_tables false none rest more = lower trie id (8 * id.number + d) (8 * id.number + d + 1) rest (omega arith) more
    by_tables true some rest more =
        let s : Share = child_share trie id items d in
        and_from _ _ (and_from _ _ (and_from _ _ (and_from _ _ (and_from _ _ (eq-eqb (id.level + 1) (id.level + 1) refl) (le-leb (8 * id.number + d) (8 * id.number + d) (omega arith))) (lt-ltb (8 * id.number + d) (8 * id.number + 8) (omega arith))) some)
        ((bytes_decides s.behind (node_at trie s.node).tables).1 refl)) more

-- THE SHARES of any items are such as a node's tables may be shared out
pub planned-shaped : (levels : ℕ) (trie : Trie) (id : NodeId) (items : List Item) → are_shared levels trie id (shares_of levels trie id items) ≡ true
planned-shaped levels trie id items = by_level (is_last_level levels id)
  where
    by_level : (b : Bool) → cond b (is_own id (cond b (rewrite_share id items ∷ []) (deal_shares trie id items))) (children_shared trie id (8 * id.number) (cond b (rewrite_share id items ∷ []) (deal_shares trie id items))) ≡ true
    by_level true = and_from (same_node id id) true (same_node-itself id) refl
    by_level false = lower trie id (8 * id.number) (8 * id.number + 0) (deal_shares trie id items) (omega arith) (dealt_shared trie id (newest items) 0 8 (omega arith))
