-- Items that go into a bucket one after another, and filters that grow item by item.
use Rattle.std.proofs.Common.{◌≡◌, ℕ, zero, suc, ◌+◌, ◌<◌, ◌≤◌, refl, sym, ap, subst, ◌∙◌, Bool, true, false, ◌&&◌, cond, List, [], ◌∷◌, ◌++◌, length, take, get_or, arith, leb-true}
use Rattle.std.specs.Prelude.{◌==◌, nat_le, nat_lt}
use Rattle.std.specs.Option.{option_map_or}
use Rattle.std.specs.List.{filter, list_all}
use Rattle.std.proofs.lemmas.List.{take_more}
use Rattle.std.proofs.lemmas.List.Sums.{sum_by-cons}
use Rattle.std.proofs.lemmas.List.Elements.{All-from_recursion}
use Rattle.lt_terms.specs.Items.{Item, is_valid, item_cost, total_cost}
use Rattle.lt_terms.specs.Hashes.{key_hash, digits_of, home_column, key_positions}
use Rattle.lt_item.specs.declared.hash.Parts.{Parts}
use Rattle.lt_item.specs.Parts.{parts_of, IsInRange}
use Rattle.lt_tables.specs.declared.ColumnPlan.{ColumnPlan}
use Rattle.lt_tables.specs.declared.Sends.{Sends}
use Rattle.lt_tables.specs.Bucket.{capacity, fits_bucket}
use Rattle.lt_tables.specs.Filter.{AddsPositions, HasFilters}
use Rattle.lt_tables.specs.Table.{newest, bucket_in, place_of}
use Rattle.lt_tables.proofs.FilterLaws.{HasFilters-more}
use Rattle.lt_tables.proofs.HashLaws.{home_column-small, digits-small, positions-small}

-- ---- costs

cost_step : (b : Bool) (v : Item) (xs : List Item) → total_cost (cond b (v ∷ xs) xs) ≡ cond b (item_cost v) 0 + total_cost xs
cost_step true v xs = sum_by-cons item_cost v xs
cost_step false v xs = let z : total_cost xs ≡ 0 + total_cost xs = omega arith in z

-- those before an item that passes, and it, cost no more than all that pass
kept-cost : (test : Item → Bool) (xs : List Item) (i : ℕ) (d : Item) → i < length xs → test (get_or xs i d) ≡ true → total_cost (filter test (take i xs)) + item_cost (get_or xs i d) ≤ total_cost (filter test xs)
kept-cost test [] i d below t = absurd (omega arith)
kept-cost test (v ∷ xs) zero d below t =
    let all = cost_step (test v) v (filter test xs) in
    let here : cond (test v) (item_cost v) 0 ≡ item_cost v = ap (λ b. cond b (item_cost v) 0) t in
    omega arith
kept-cost test (v ∷ xs) (suc i) d below t =
    let all = cost_step (test v) v (filter test xs) in
    let some = cost_step (test v) v (filter test (take i xs)) in
    let rest = kept-cost test xs i d (omega arith) t in
    omega arith

-- the bucket has room for the next item that lies in it
pub room-for : (plans : List ColumnPlan) (items added : List Item) (c i : ℕ) (item : Item) → newest items ≡ items → fits_bucket (bucket_in plans items c) ≡ true → i < length items → item ≡ get_or items i item
    → (place_of plans item == c) ≡ true → added ≡ filter (λ v. place_of plans v == c) (take i items) → total_cost added + item_cost item ≤ capacity
room-for plans items added c i item ranked fits below is at added_is =
    let test : Item → Bool = λ v. place_of plans v == c in
    let small : total_cost (filter test (newest items)) ≤ capacity = leb-true _ _ (cost_part (list_all is_valid (bucket_in plans items c).items) (nat_le (total_cost (filter test (newest items))) capacity) (option_map_or (λ (s : Sends). nat_lt s.target 64 && nat_lt s.mark 4294967296) (bucket_in plans items c).sends true) fits) in
    let most : total_cost (filter test items) ≤ capacity = subst (λ xs. total_cost (filter test xs) ≤ capacity) ranked small in
    let kept = kept-cost test items i item below (subst (λ v. test v ≡ true) is at) in
    let one : item_cost (get_or items i item) ≡ item_cost item = ap item_cost (sym is) in
    let so_far : total_cost added ≡ total_cost (filter test (take i items)) = ap total_cost added_is in
    omega arith
  where
    cost_part : (a b e : Bool) → (a && b && e) ≡ true → b ≡ true
    cost_part true true true h = refl
    cost_part true true false h = refl
    cost_part true false e h = h
    cost_part false b e h = absurd (let no : false ≡ true = h in cc)

-- ---- filters

pub parts-in_range : (parts : Parts) (key : List ℕ) → parts ≡ parts_of key → IsInRange parts
unfolding parts_of
parts-in_range parts key is = subst IsInRange (sym is) (record {
  digits = All-from_recursion (λ d. d < 8) (digits_of (key_hash key)) (digits-small key);
  column = home_column-small key;
  positions = All-from_recursion (λ p. p < 512) (key_positions key) (positions-small key);
})

column_of-parts : (key : List ℕ) → (parts_of key).column ≡ home_column key
unfolding parts_of
column_of-parts key = refl

positions_of-parts : (key : List ℕ) → (parts_of key).positions ≡ key_positions key
unfolding parts_of
positions_of-parts key = refl

-- the filters of one item more
pub filters-more : (items : List Item) (i : ℕ) (item : Item) (old new : List ℕ) (p q : Parts) → i < length items → item ≡ get_or items i item → p ≡ parts_of item.key → q ≡ parts_of item.key
    → HasFilters (take i items) old → AddsPositions old new p.column q.positions → HasFilters (take (i + 1) items) new
filters-more items i item old new p q below is p_is q_is has adds =
    let at_home : AddsPositions old new (home_column item.key) (key_positions item.key) =
    subst (λ c. AddsPositions old new c (key_positions item.key)) (ap (λ (p : Parts). p.column) p_is ∙ column_of-parts item.key)
    (subst (λ ps. AddsPositions old new p.column ps) (ap (λ (q : Parts). q.positions) q_is ∙ positions_of-parts item.key) adds) in
    let more : take i items ++ item ∷ [] ≡ take (i + 1) items = ap (λ v. take i items ++ v ∷ []) is ∙ sym (take_more items i item below) in
    subst (λ xs. HasFilters xs new) more (HasFilters-more (take i items) item old new has at_home)
