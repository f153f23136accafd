-- How many extents the shares of a job's items need at most.
use Rattle.std.proofs.Common.{◌≡◌, ℕ, zero, suc, ◌+◌, ◌-◌, ◌*◌, ◌/◌, ◌<◌, ◌≤◌, refl, sym, ap, subst, ◌∙◌, List, [], ◌∷◌, map, length, Bool, true, false, cond, arith, eq-eqb, eqb-true, ltb-true, true≢false, T, ◌^◌, ◌≢◌}
use Rattle.std.specs.Prelude.{◌==◌, nat_lt, IsTrue}
use Rattle.std.specs.List.{filter, list_all, range_with_len}
use Rattle.std.proofs.lemmas.Bool.{and_parts, and_from}
use Rattle.std.proofs.lemmas.List.Sums.{sum_by-cons}
use Rattle.lt_terms.specs.Hashes.{key_digit}
use Rattle.lt_terms.specs.Items.{Item, is_valid}
use Rattle.lt_tables.specs.Cut.{cut}
use Rattle.lt_tables.specs.Table.{is_put, newest, with_digit, without_deletes}
use Rattle.lt_tables.proofs.PartLaws.{ranked-filter}
use Rattle.lt_tables.proofs.RankedLaws.{is_ranked, newest-ranked, ranked-newest}
use Rattle.lt_tables.proofs.ListLaws.{filter_few}
use Rattle.lt_format.specs.declared.node_id.NodeId.{NodeId}
use Rattle.lt_format.specs.Trie.{IsTrie, Trie, is_last_level, is_node, is_shaped, node_at}
use Rattle.lt_format.proofs.ShapeLaws.{node_at-shaped, shaped-inner, shaped-last}
use Rattle.lt_node.proofs.OctalLaws.{few_digits}
use Rattle.lt_node.proofs.TotalLaws.{pile_few as tables_few, total_few}
use Rattle.lt_image.specs.Shares.{Share, child_share, deal_shares, has_tables, needed, rewrite_share, share_extents, shares_of}
use Rattle.lt_compact.specs.Plans.{extents_for}
use Rattle.lt_compact.proofs.PieceLaws.{parts-few}

-- ---- of one share

by_level : (last : Bool) (b p : ℕ) → 64 * (p + cond last ((b + p + 63) / 64 - b / 64) 0) ≤ 65 * p + 126
by_level true b p = omega arith
by_level false b p = omega arith

share-few : (levels : ℕ) (s : Share) → 64 * share_extents levels s ≤ 65 * length s.parts + 126
share-few levels s = by_level (is_last_level levels s.node) (length s.behind) (length s.parts)

pub valid-filter : (test : Item → Bool) (items : List Item) → IsTrue (list_all is_valid items) → IsTrue (list_all is_valid (filter test items))
valid-filter test [] h = h
valid-filter test (v ∷ items) h =
    let both = and_parts (is_valid v) (list_all is_valid items) h in
    by_test (test v) (and_from (is_valid v) (list_all is_valid (filter test items)) both.0 (valid-filter test items both.1)) (valid-filter test items both.1)
  where
    by_test : (b : Bool) → IsTrue (list_all is_valid (v ∷ filter test items)) → IsTrue (list_all is_valid (filter test items)) → IsTrue (list_all is_valid (cond b (v ∷ filter test items) (filter test items)))
    by_test true with without = with
    by_test false with without = without

-- items that pass a test are in rank order, where all are
pub filter-ranked : (test : Item → Bool) (items : List Item) → newest items ≡ items → newest (filter test items) ≡ filter test items
filter-ranked test items ranked = ranked-newest (filter test items) (ranked-filter test items (subst (λ xs. T (is_ranked xs)) ranked (newest-ranked items)))

-- ---- the digits from a on, n of them

-- how many items have one of these digits
abbrev with_digits : ℕ → List Item → ℕ → ℕ → ℕ
with_digits level items a zero = 0
with_digits level items a (suc n) = length (with_digit level a items) + with_digits level items (a + 1) n

-- how often a digit is among these
abbrev hits : ℕ → ℕ → ℕ → ℕ
hits p a zero = 0
hits p a (suc n) = cond (p == a) 1 0 + hits p (a + 1) n

hits-past : (p a n : ℕ) → p < a → hits p a n ≡ 0
hits-past p a zero past = refl
hits-past p a (suc n) past = by_test (p == a) refl (hits-past p (a + 1) n (omega arith))
  where
    by_test : (b : Bool) → (p == a) ≡ b → hits p (a + 1) n ≡ 0 → cond b 1 0 + hits p (a + 1) n ≡ 0
    by_test true is rest = let same = eqb-true p a is in absurd (omega arith)
    by_test false is rest = omega arith

hits-once : (p a n : ℕ) → hits p a n ≤ 1
hits-once p a zero = omega arith
hits-once p a (suc n) = by_test (p == a) refl (hits-once p (a + 1) n)
  where
    by_test : (b : Bool) → (p == a) ≡ b → hits p (a + 1) n ≤ 1 → cond b 1 0 + hits p (a + 1) n ≤ 1
    by_test true is rest = let same = eqb-true p a is in omega (arith, hits-past p (a + 1) n (omega arith))
    by_test false is rest = omega arith

one_digit : (level : ℕ) (v : Item) (items : List Item) (a n : ℕ) → with_digits level (v ∷ items) a n ≤ hits (key_digit v.key level) a n + with_digits level items a n
one_digit level v items a zero = omega arith
one_digit level v items a (suc n) = by_test (key_digit v.key level == a) (with_digit level a items) (one_digit level v items (a + 1) n)
  where
    by_test : (b : Bool) (xs : List Item) → with_digits level (v ∷ items) (a + 1) n ≤ hits (key_digit v.key level) (a + 1) n + with_digits level items (a + 1) n
        → length (cond b (v ∷ xs) xs) + with_digits level (v ∷ items) (a + 1) n ≤ (cond b 1 0 + hits (key_digit v.key level) (a + 1) n) + (length xs + with_digits level items (a + 1) n)
    by_test true xs h = omega arith
    by_test false xs h = omega arith

no_items : (level a n : ℕ) → with_digits level [] a n ≡ 0
no_items level a zero = refl
no_items level a (suc n) = omega (arith, no_items level (a + 1) n)

digits-few : (level : ℕ) (items : List Item) (a n : ℕ) → with_digits level items a n ≤ length items
digits-few level [] a n = omega (arith, no_items level a n)
digits-few level (v ∷ items) a n = omega (arith, one_digit level v items a n, hits-once (key_digit v.key level) a n, digits-few level items a n)

-- ---- of all shares

dealt-few : (levels : ℕ) (trie : Trie) (id : NodeId) (items : List Item) (a n : ℕ) → IsTrue (list_all is_valid items) → 64 * extents_for levels (filter has_tables (map (child_share trie id items) (range_with_len a n))) ≤ 65 * with_digits id.level items a n + 126 * n
dealt-few levels trie id items a zero valid = omega arith
dealt-few levels trie id items a (suc n) valid =
    by_tables (has_tables here) (filter has_tables (map (child_share trie id items) (range_with_len (a + 1) n))) (dealt-few levels trie id items (a + 1) n valid)
  where
    here : Share
    here = child_share trie id items a

    by_tables : (b : Bool) (rest : List Share) → 64 * extents_for levels rest ≤ 65 * with_digits id.level items (a + 1) n + 126 * n
        → 64 * extents_for levels (cond b (here ∷ rest) rest) ≤ 65 * (length (with_digit id.level a items) + with_digits id.level items (a + 1) n) + 126 * suc n
    by_tables true rest h =
        let some : length here.parts ≤ length (with_digit id.level a items) = parts-few (with_digit id.level a items) (valid-filter (λ (v : Item). key_digit v.key id.level == a) items valid) in
        omega (arith, sum_by-cons (share_extents levels) here rest, share-few levels here, some)
    by_tables false rest h = omega arith

-- THE SHARES of as many items as 65,536 tables hold need fewer extents than a number of 32 bits counts
pub needs-few : (levels : ℕ) (trie : Trie) (id : NodeId) (items : List Item) → newest items ≡ items → IsTrue (list_all is_valid items) → length items ≤ 3422552064 → extents_for levels (shares_of levels trie id items) < 4294967296
needs-few levels trie id items ranked valid few = by_last (is_last_level levels id)
  where
    own : extents_for levels (rewrite_share id items ∷ []) < 4294967296
    own =
        let s : Share = rewrite_share id items in
        let parts : length (cut (without_deletes items)) ≤ length items = omega (arith, parts-few (without_deletes items) (valid-filter is_put items valid), filter_few is_put items) in
        let same : length s.parts ≡ length (cut (without_deletes items)) = ap (λ xs. length (cut (without_deletes xs))) ranked in
        omega (arith, sum_by-cons (share_extents levels) s [], share-few levels s, parts, same)

    dealt : extents_for levels (deal_shares trie id items) < 4294967296
    dealt =
        let same : extents_for levels (deal_shares trie id items) ≡ extents_for levels (filter has_tables (map (child_share trie id items) (range_with_len 0 8))) = ap (λ xs. extents_for levels (filter has_tables (map (child_share trie id xs) (range_with_len 0 8)))) ranked in
        omega (arith, same, dealt-few levels trie id items 0 8 valid, digits-few id.level items 0 8)

    by_last : (b : Bool) → extents_for levels (cond b (rewrite_share id items ∷ []) (deal_shares trie id items)) < 4294967296
    by_last true = own
    by_last false = dealt

pub needed-is : (levels : ℕ) (trie : Trie) (id : NodeId) (items : List Item) → needed levels trie id items ≡ extents_for levels (shares_of levels trie id items)
unfolding needed
needed-is levels trie id items = refl

-- a pile's tables and groups, of which there are few
pub pile-few : (levels : ℕ) (trie : Trie) (id : NodeId) → IsTrie levels 65536 trie → length (node_at trie id).tables ≤ 65536
pile-few levels trie id is = omega (arith, total_few levels trie is, tables_few levels trie id is)

pub groups-few : (levels : ℕ) (trie : Trie) (id : NodeId) → IsTrie levels 65536 trie → length (node_at trie id).groups ≤ 1024
groups-few levels trie id is = by_last (is_last_level levels id) refl
  where
    shaped : is_shaped levels 65536 id (node_at trie id) ≡ true
    shaped = node_at-shaped levels 65536 trie id is.nodes

    by_last : (b : Bool) → is_last_level levels id ≡ b → length (node_at trie id).groups ≤ 1024
    by_last true last = let groups : length (node_at trie id).groups ≡ (length (node_at trie id).tables + 63) / 64 = (shaped-last levels 65536 id (node_at trie id) last shaped).1 in omega (arith, groups, pile-few levels trie id is)
    by_last false inner = omega (arith, (shaped-inner levels 65536 id (node_at trie id) inner shaped).1)

-- a node that is not of the last level
pub record IsInner (id : NodeId) : Type 0 where
  pub level : id.level ≤ 3
  pub number : id.number < 512

pub inner-small : (levels : ℕ) (id : NodeId) → levels ≤ 5 → is_node levels id ≡ true → is_last_level levels id ≡ false → IsInner id
inner-small levels id most node inner =
    let both = and_parts (nat_lt id.level levels) (nat_lt id.number (8 ^ id.level)) node in
    let below : id.level < levels = ltb-true id.level levels both.0 in
    let number : id.number < 8 ^ id.level = ltb-true id.number (8 ^ id.level) both.1 in
    let other : id.level + 1 ≢ levels = λ e. true≢false (sym (eq-eqb (id.level + 1) levels e) ∙ inner) in
    let level : id.level ≤ 3 = omega arith in
    record { level = level; number = few_digits id.number id.level number (omega arith) }
