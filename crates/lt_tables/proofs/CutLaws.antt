-- What always has a placement; and the tables of a cut hold its items in order, each with a placement.
use Rattle.std.proofs.Common.{◌≡◌, ℕ, zero, suc, ◌+◌, ◌-◌, ◌<◌, ◌≤◌, refl, sym, ap, subst, ◌∙◌, List, [], ◌∷◌, ◌++◌, map, length, take, drop, replicate, Bool, true, false, cond, Some, arith}
use Rattle.std.specs.Prelude.{◌==◌, IsTrue}
use Rattle.std.specs.List.{flat_map, filter, range_with_len, AllByRecursion}
use Rattle.std.specs.Option.{is_some, option_map}
use Rattle.std.proofs.lemmas.List.{take-map, drop-map, length-map, length-drop, take-append-drop}
use Rattle.std.proofs.lemmas.Bool.{le-ltb}
use Rattle.lt_terms.specs.Items.{Item, is_valid}
use Rattle.lt_terms.proofs.ItemLaws.{key_short, value_short}
use Rattle.lt_tables.specs.declared.Entry.{Entry}
use Rattle.lt_tables.specs.declared.ColumnPlan.{ColumnPlan}
use Rattle.lt_tables.specs.Bucket.{capacity}
use Rattle.lt_tables.specs.Placement.{entry_of, columns, entries_cost, column_load, is_sender, keeps_all, sendings, placement, has_placement, by_load, plan_of}
use Rattle.lt_tables.specs.Cut.{first_fit, table_count, counts_within, cut_counts, pieces, cut, IsTable}

-- ---- without senders

filter_none : (test : ℕ → Bool) (cs : List ℕ) → ((c : ℕ) → test c ≡ false) → filter test cs ≡ []
filter_none test [] none = refl
filter_none test (c ∷ cs) none = ap (λ b. cond b (c ∷ filter test cs) (filter test cs)) (none c) ∙ filter_none test cs none

map_alike : (f : ℕ → ColumnPlan) (plan : ColumnPlan) (a n : ℕ) → ((c : ℕ) → f c ≡ plan) → map f (range_with_len a n) ≡ replicate n plan
map_alike f plan a zero same = refl
map_alike f plan a (suc n) same = ap (λ p. p ∷ map f (range_with_len (a + 1) n)) (same a) ∙ ap (λ ps. plan ∷ ps) (map_alike f plan (a + 1) n same)

-- entries none of whose columns is too full stay where they are
pub placement-no_senders : (es : List Entry) → ((c : ℕ) → is_sender es c ≡ false) → placement es ≡ Some (replicate 64 keeps_all)
unfolding placement sendings columns
placement-no_senders es none =
    ap (λ cs. option_map (λ made. map (plan_of es made) columns) (sendings es (by_load es cs) [])) (filter_none (is_sender es) columns none)
    ∙ ap (λ plans. Some plans) (map_alike (plan_of es []) keeps_all 0 64 (λ c. refl))

single_load : (b : Bool) (e : Entry) → entries_cost (cond b (e ∷ []) []) ≤ e.cost
single_load true e = omega arith
single_load false e = omega arith

pub placement-single : (e : Entry) → e.cost ≤ capacity → placement (e ∷ []) ≡ Some (replicate 64 keeps_all)
unfolding column_load
placement-single e small = placement-no_senders (e ∷ []) (λ c. let load = single_load (e.column == c) e in le-ltb capacity (entries_cost (cond (e.column == c) (e ∷ []) [])) (omega arith))

pub has_placement-single : (e : Entry) → e.cost ≤ capacity → has_placement (e ∷ []) ≡ true
has_placement-single e small = ap is_some (placement-single e small)

pub placement-nil : placement [] ≡ Some (replicate 64 keeps_all)
unfolding column_load
placement-nil = placement-no_senders [] (λ c. refl)

-- ---- the count of the first table

fit_step : (more k : ℕ) (es : List Entry) (fits : Bool) → (k + 1 ≤ first_fit more (k + 1) es) × (first_fit more (k + 1) es ≤ k + 1 + more) → (k ≤ cond fits (first_fit more (k + 1) es) k) × (cond fits (first_fit more (k + 1) es) k ≤ k + suc more)
fit_step more k es true rest = (omega arith, omega arith)
fit_step more k es false rest = (omega arith, omega arith)

fit_within : (more k : ℕ) (es : List Entry) → (k ≤ first_fit more k es) × (first_fit more k es ≤ k + more)
unfolding first_fit
fit_within zero k es = (omega arith, omega arith)
fit_within (suc more) k es = fit_step more k es (has_placement (take (k + 1) es)) (fit_within more (k + 1) es)

-- the first table takes at least one entry, and no more than there are
pub table_count-within : (es : List Entry) → 0 < length es → (1 ≤ table_count es) × (table_count es ≤ length es)
table_count-within es some = let w = fit_within (length es - 1) 1 es in (w.0, omega arith)

fit_has_step : (more k : ℕ) (es : List Entry) (fits : Bool) → has_placement (take (k + 1) es) ≡ fits → has_placement (take k es) ≡ true → (has_placement (take (k + 1) es) ≡ true → has_placement (take (first_fit more (k + 1) es) es) ≡ true) → has_placement (take (cond fits (first_fit more (k + 1) es) k) es) ≡ true
fit_has_step more k es true is here rest = rest is
fit_has_step more k es false is here rest = here

fit_has : (more k : ℕ) (es : List Entry) → has_placement (take k es) ≡ true → has_placement (take (first_fit more k es) es) ≡ true
unfolding first_fit
fit_has zero k es here = here
fit_has (suc more) k es here = fit_has_step more k es (has_placement (take (k + 1) es)) refl here (fit_has more (k + 1) es)

table_count-fits : (e : Entry) (es : List Entry) → has_placement (e ∷ []) ≡ true → has_placement (take (table_count (e ∷ es)) (e ∷ es)) ≡ true
table_count-fits e es here = fit_has (length (e ∷ es) - 1) 1 (e ∷ es) here

-- ---- the counts of all tables

-- more steps than entries change nothing
counts_enough : (n m : ℕ) (es : List Entry) → length es ≤ n → length es ≤ m → counts_within n es ≡ counts_within m es
unfolding counts_within
counts_enough zero zero es few few' = refl
counts_enough zero (suc m) [] few few' = refl
counts_enough zero (suc m) (e ∷ es) few few' = absurd (omega arith)
counts_enough (suc n) zero [] few few' = refl
counts_enough (suc n) zero (e ∷ es) few few' = absurd (omega arith)
counts_enough (suc n) (suc m) [] few few' = refl
counts_enough (suc n) (suc m) (e ∷ es) few few' =
    let w = table_count-within (e ∷ es) (omega arith) in
    let rest = length-drop (table_count (e ∷ es)) (e ∷ es) in
    ap (λ ns. table_count (e ∷ es) ∷ ns) (counts_enough n m (drop (table_count (e ∷ es)) (e ∷ es)) (omega arith) (omega arith))

pub cut_counts-nil : cut_counts [] ≡ []
unfolding counts_within
cut_counts-nil = refl

-- the count of the first table, and the counts of the others
pub cut_counts-some : (es : List Entry) → 0 < length es → cut_counts es ≡ table_count es ∷ cut_counts (drop (table_count es) es)
unfolding counts_within
cut_counts-some [] some = absurd (omega arith)
cut_counts-some (e ∷ es) some =
    let w = table_count-within (e ∷ es) some in
    let rest = length-drop (table_count (e ∷ es)) (e ∷ es) in
    ap (λ ns. table_count (e ∷ es) ∷ ns) (counts_enough (length es) (length (drop (table_count (e ∷ es)) (e ∷ es))) (drop (table_count (e ∷ es)) (e ∷ es)) (omega arith) (omega arith))

-- ---- the tables

none_left : {A : Type 0} (xs : List A) → length xs ≤ 0 → xs ≡ []
none_left [] few = refl
none_left (x ∷ xs) few = absurd (omega arith)

joined : (n : ℕ) (items : List Item) → length items ≤ n → flat_map (λ piece. piece) (pieces (counts_within n (map entry_of items)) items) ≡ items
unfolding counts_within
joined zero items few = sym (none_left items few)
joined (suc n) [] few = refl
joined (suc n) (item ∷ items) few =
    let k : ℕ = table_count (map entry_of (item ∷ items)) in
    let w = table_count-within (map entry_of (item ∷ items)) (omega arith) in
    let shorter : length (drop k (item ∷ items)) ≤ n = omega (arith, length-drop k (item ∷ items)) in
    ap (λ es. take k (item ∷ items) ++ flat_map (λ piece. piece) (pieces (counts_within n es) (drop k (item ∷ items)))) (drop-map entry_of k (item ∷ items))
    ∙ ap (λ xs. take k (item ∷ items) ++ xs) (joined n (drop k (item ∷ items)) shorter)
    ∙ take-append-drop k (item ∷ items)

-- the tables one after another are the list
pub cut-joined : (items : List Item) → flat_map (λ table. table) (cut items) ≡ items
cut-joined items =
    let same : length (map entry_of items) ≡ length items = length-map items entry_of in
    joined (length (map entry_of items)) items (omega arith)

item_fits : (item : Item) → IsTrue (is_valid item) → has_placement (entry_of item ∷ []) ≡ true
item_fits item valid = let k = key_short item valid in let v = value_short item valid in has_placement-single (entry_of item) (omega arith)

some_taken : (k : ℕ) (item : Item) (items : List Item) → 1 ≤ k → 1 ≤ length (take k (item ∷ items))
some_taken zero item items some = absurd (omega arith)
some_taken (suc k) item items some = omega arith

all_left : (k : ℕ) (xs : List Item) → AllByRecursion (λ (item : Item). IsTrue (is_valid item)) xs → AllByRecursion (λ (item : Item). IsTrue (is_valid item)) (drop k xs)
all_left zero xs all = all
all_left (suc k) [] all = tt
all_left (suc k) (x ∷ xs) all = all_left k xs all.1

tables_placed : (n : ℕ) (items : List Item) → AllByRecursion (λ (item : Item). IsTrue (is_valid item)) items → AllByRecursion IsTable (pieces (counts_within n (map entry_of items)) items)
unfolding counts_within
tables_placed zero items valid = tt
tables_placed (suc n) [] valid = tt
tables_placed (suc n) (item ∷ items) valid =
    let k : ℕ = table_count (map entry_of (item ∷ items)) in
    let w = table_count-within (map entry_of (item ∷ items)) (omega arith) in (
      record {
        any = some_taken k item items w.0;
        placed = ap has_placement (sym (take-map entry_of k (item ∷ items))) ∙ table_count-fits (entry_of item) (map entry_of items) (item_fits item valid.0);
      },
      subst (λ es. AllByRecursion IsTable (pieces (counts_within n es) (drop k (item ∷ items)))) (sym (drop-map entry_of k (item ∷ items))) (tables_placed n (drop k (item ∷ items)) (all_left k (item ∷ items) valid)),
    )

pub cut-tables : (items : List Item) → AllByRecursion (λ (item : Item). IsTrue (is_valid item)) items → AllByRecursion IsTable (cut items)
cut-tables items valid = tables_placed (length (map entry_of items)) items valid
