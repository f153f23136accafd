-- What the items of a list in rank order ask of their table: entries that may be placed, and buckets that fit.
use Rattle.std.proofs.Common.{◌≡◌, ℕ, zero, suc, ◌+◌, ◌*◌, ◌<◌, ◌≤◌, refl, sym, ap, subst, ◌∙◌, Bool, true, false, ◌&&◌, cond, List, [], ◌∷◌, map, length, get_or, Option, Some, None, arith, T, eq-eqb, eqb-true, ltb-true, leb-true, le-leb, ⊎_elim, true≢false}
use Rattle.std.specs.Prelude.{◌==◌, nat_le, nat_lt, is_some}
use Rattle.std.specs.declared.cmp.Ordering.{Ordering}
use Rattle.std.specs.declared.cmp.Ordering.TheVariants.{Less, Equal, Greater}
use Rattle.std.specs.Ordering.{nat_cmp, ordering_then, is_lt}
use Rattle.std.specs.FinMap.Entries.{below_all}
use Rattle.std.specs.List.{AllByRecursion, filter, list_all, range_with_len}
use Rattle.std.proofs.lemmas.Bool.{and_parts, cases_eq}
use Rattle.std.proofs.lemmas.List.Elements.{All-from_recursion}
use Rattle.std.proofs.lemmas.List.Sorted.{IsNonDecreasingBy-from_all_adjacent}
use Rattle.std.proofs.lemmas.List.{length-map}
use Rattle.lt_terms.specs.declared.Kind.{Kind}
use Rattle.lt_terms.specs.declared.Kind.TheVariants.{Put, Delete}
use Rattle.lt_terms.specs.Items.{Item, is_valid, is_key, item_cost, total_cost, value_limit}
use Rattle.lt_terms.specs.Hashes.{key_suffix, rank_cmp}
use Rattle.lt_tables.specs.declared.Entry.{Entry}
use Rattle.lt_tables.specs.declared.ColumnPlan.{ColumnPlan}
use Rattle.lt_tables.specs.Bucket.{Bucket, capacity, fits_bucket}
use Rattle.lt_tables.specs.Table.{newest, place_of, bucket_in}
use Rattle.lt_tables.specs.Placement.{entry_of, placement_of, has_placement}
use Rattle.lt_tables.proofs.HashLaws.{home_column-small}
use Rattle.lt_tables.proofs.FitLaws.{total, total-add}
use Rattle.lt_tables.proofs.NewestLaws.{first, second}
use Rattle.lt_tables.proofs.PlanLaws.{placement-fits, step_cost}
use Rattle.lt_tables.proofs.RankedLaws.{is_ranked, newest-ranked}
use Rattle.lt_tables.proofs.TableLaws.{Fits, PlansFit}
use Rattle.lt_balance.specs.Entries.{AreEntries}

-- ---- in order of suffix

suffix_first : (a b : ℕ) (o : Ordering) → T (is_lt (ordering_then (nat_cmp a b) o)) → a ≤ b
suffix_first a b o h = by_less (nat_lt a b) refl h
  where
    by_equal : (e : Bool) → (a == b) ≡ e → T (is_lt (ordering_then (cond e Equal Greater) o)) → a ≤ b
    by_equal true is h = let same = eqb-true a b is in omega arith
    by_equal false is h = absurd h

    by_less : (l : Bool) → nat_lt a b ≡ l → T (is_lt (ordering_then (cond l Less (cond (a == b) Equal Greater)) o)) → a ≤ b
    by_less true is h = let below = ltb-true a b is in omega arith
    by_less false is h = by_equal (a == b) refl h

rank-suffix : (a b : List ℕ) → T (is_lt (rank_cmp a b)) → key_suffix a ≤ key_suffix b
unfolding rank_cmp
rank-suffix a b h = suffix_first (key_suffix a) (key_suffix b) _ h

next-order : (items : List Item) → T (is_ranked items) → (k : ℕ) (d : Entry) → suc k < length (map entry_of items) → (get_or (map entry_of items) k d).suffix ≤ (get_or (map entry_of items) (suc k) d).suffix
next-order [] s k d below = absurd (omega arith)
next-order (v ∷ []) s k d below = absurd (omega arith)
next-order (v ∷ w ∷ xs) s zero d below =
    rank-suffix v.key w.key (first (is_lt (rank_cmp v.key w.key)) (below_all rank_cmp v.key (map (λ (v : Item). (v.key, v)) xs)) (first (below_all rank_cmp v.key (map (λ (v : Item). (v.key, v)) (w ∷ xs))) (is_ranked (w ∷ xs)) s))
next-order (v ∷ w ∷ xs) s (suc k) d below = next-order (w ∷ xs) (second (below_all rank_cmp v.key (map (λ (v : Item). (v.key, v)) (w ∷ xs))) (is_ranked (w ∷ xs)) s) k d (omega arith)

ranked-order : (items : List Item) → T (is_ranked items) → (k : ℕ) (d : Entry) → k + 1 < length (map entry_of items) → (get_or (map entry_of items) k d).suffix ≤ (get_or (map entry_of items) (k + 1) d).suffix
ranked-order items s k d below =
    let next : suc k ≡ k + 1 = omega arith in
    subst (λ j. (get_or (map entry_of items) k d).suffix ≤ (get_or (map entry_of items) j d).suffix) next (next-order items s k d (omega arith))

-- ---- few

cost-filter : (test : Item → Bool) (xs : List Item) → total_cost (filter test xs) ≡ total (λ v. cond (test v) (item_cost v) 0) xs
cost-filter test [] = refl
cost-filter test (v ∷ xs) = step_cost (test v) v (filter test xs) _ (cost-filter test xs)

-- one item costs in one of the columns
in_one : (p cost a n : ℕ) → a ≤ p → p < a + n → cost ≤ total (λ c. cond (p == c) cost 0) (range_with_len a n)
in_one p cost a zero low high = absurd (omega arith)
in_one p cost a (suc n) low high = ⊎_elim
    (λ (same : p ≡ a). let here : cond (p == a) cost 0 ≡ cost = ap (λ b. cond b cost 0) (eq-eqb p a same) in omega arith)
    (λ (other : p ≡ a → ⊥). let rest = in_one p cost (a + 1) n (above other) (omega arith) in omega arith)
    (cases_eq p a)
  where
    above : (p ≡ a → ⊥) → a + 1 ≤ p
    above other = omega arith

in_columns : (place : Item → ℕ) (n : ℕ) (xs : List Item) → ((v : Item) → place v < n) → total item_cost xs ≤ total (λ c. total (λ v. cond (place v == c) (item_cost v) 0) xs) (range_with_len 0 n)
in_columns place n [] within = omega arith
in_columns place n (v ∷ xs) within =
    let here = in_one (place v) (item_cost v) 0 n (omega arith) (let h = within v in omega arith) in
    let rest = in_columns place n xs within in
    let both = total-add (λ c. cond (place v == c) (item_cost v) 0) (λ c. total (λ v. cond (place v == c) (item_cost v) 0) xs) (range_with_len 0 n) in
    omega arith

at_most : (f : ℕ → ℕ) (most a n : ℕ) → ((c : ℕ) → c < a + n → f c ≤ most) → total f (range_with_len a n) ≤ most * n
at_most f most a zero h = omega arith
at_most f most a (suc n) h =
    let here = h a (omega arith) in
    let rest = at_most f most (a + 1) n (λ c small. h c (omega arith)) in
    omega arith

long-cost : (xs : List Item) → length xs ≤ total item_cost xs
long-cost [] = omega arith
long-cost (v ∷ xs) = let h = long-cost xs in omega arith

-- the items of a placed table are few
few : (plans : List ColumnPlan) (items : List Item) → newest items ≡ items → PlansFit plans items → length items ≤ 4080 * 64
few plans items ranked fits =
    let long = long-cost items in
    let all = in_columns (place_of plans) 64 items fits.within in
    let most = at_most (λ c. total (λ v. cond (place_of plans v == c) (item_cost v) 0) items) 4080 0 64 (λ c small.
    subst (λ n. n ≤ 4080) (ap (λ xs. total_cost (filter (λ v. place_of plans v == c) xs)) ranked ∙ cost-filter (λ v. place_of plans v == c) items) (fits.fit c (omega arith)).small) in
    omega arith

-- ---- what the placement asks

cost-small : (v : Item) → is_valid v ≡ true → item_cost v ≤ 4080
cost-small v h =
    let p = and_parts (is_key v.key) (nat_le (length v.value) (value_limit v.kind)) h in
    let key = leb-true (length v.key) 255 (and_parts (nat_le 1 (length v.key)) (nat_le (length v.key) 255) p.0).1 in
    let value = leb-true (length v.value) (value_limit v.kind) p.1 in
    let limit = limit_small v.kind in
    omega arith
  where
    limit_small : (kind : Kind) → value_limit kind ≤ 3000
    limit_small Put = omega arith
    limit_small Delete = omega arith

each_entry : (P : Entry → Type 0) (items : List Item) → ((v : Item) → is_valid v ≡ true → P (entry_of v)) → list_all is_valid items ≡ true → AllByRecursion P (map entry_of items)
each_entry P [] f h = tt
each_entry P (v ∷ items) f h = let p = and_parts (is_valid v) (list_all is_valid items) h in (f v p.0, each_entry P items f p.1)

has_plans : (items : List Item) → has_placement (map entry_of items) ≡ true → (plans : List ColumnPlan) × (placement_of items ≡ Some plans)
has_plans items h = by_option (placement_of items) refl h
  where
    by_option : (o : Option (List ColumnPlan)) → placement_of items ≡ o → is_some o ≡ true → (plans : List ColumnPlan) × (placement_of items ≡ Some plans)
    by_option None is h = absurd (true≢false (sym h))
    by_option (Some plans) is h = (plans, is)

-- valid items in rank order that are few
pub few-are_entries : (items : List Item) → newest items ≡ items → list_all is_valid items ≡ true → length items < 4294967296 → AreEntries (map entry_of items)
few-are_entries items ranked valid short = record {
  columns = All-from_recursion (λ (e : Entry). e.column < 64) (map entry_of items) (each_entry (λ (e : Entry). e.column < 64) items (λ v ok. home_column-small v.key) valid);
  costs = All-from_recursion (λ (e : Entry). e.cost ≤ capacity) (map entry_of items) (each_entry (λ (e : Entry). e.cost ≤ capacity) items (λ v ok. cost-small v ok) valid);
  order = IsNonDecreasingBy-from_all_adjacent (λ (e : Entry). e.suffix) (map entry_of items) (ranked-order items (subst (λ xs. T (is_ranked xs)) ranked (newest-ranked items)));
  few = let long = length-map items entry_of in omega arith;
}

-- or that have a placement
pub items-are_entries : (items : List Item) → newest items ≡ items → list_all is_valid items ≡ true → has_placement (map entry_of items) ≡ true → AreEntries (map entry_of items)
items-are_entries items ranked valid placed =
    let plans = has_plans items placed in
    let short = few plans.0 items ranked (placement-fits items plans.0 plans.1 ranked valid) in
    few-are_entries items ranked valid (omega arith)

-- ---- buckets that fit

both_true : (a b c : Bool) → a ≡ true → b ≡ true → c ≡ true → (a && b && c) ≡ true
both_true a b c p q r = ap (λ x. x && b && c) p ∙ ap (λ x. true && x && c) q ∙ ap (λ x. true && true && x) r

fits-true : (b : Bucket) → Fits b → fits_bucket b ≡ true
fits-true b f = both_true (list_all is_valid b.items) (nat_le (total_cost b.items) capacity) _ f.valid (le-leb _ _ f.small) f.sending

pub buckets-fit : (items : List Item) (plans : List ColumnPlan) → placement_of items ≡ Some plans → newest items ≡ items → list_all is_valid items ≡ true → (c : ℕ) → c < 64 → fits_bucket (bucket_in plans items c) ≡ true
buckets-fit items plans placed ranked valid c small = fits-true (bucket_in plans items c) ((placement-fits items plans placed ranked valid).fit c small)
