-- The placement of valid items in rank order makes plans that fit.
use Rattle.std.proofs.Common.{◌≡◌, ℕ, ◌+◌, ◌<◌, ◌≤◌, refl, sym, ap, subst, ◌∙◌, List, [], ◌∷◌, map, max, Bool, true, false, ◌&&◌, cond, Option, Some, None, arith, lt-ltb, ⊎_elim}
use Rattle.std.specs.Prelude.{◌==◌, nat_le, nat_lt}
use Rattle.std.specs.List.{filter, find, fold, list_all, AllByRecursion}
use Rattle.std.specs.Option.{option_map, option_map_or}
use Rattle.std.proofs.lemmas.List.Sums.{sum_by-cons}
use Rattle.std.proofs.lemmas.Option.{none-some, cond_some}
use Rattle.std.proofs.lemmas.Bool.{cases_lt, and_parts}
use Rattle.lt_terms.specs.Items.{Item, is_valid, item_cost, total_cost}
use Rattle.lt_terms.specs.Hashes.{home_column}
use Rattle.lt_tables.specs.declared.Entry.{Entry}
use Rattle.lt_tables.specs.declared.Sending.{Sending}
use Rattle.lt_tables.specs.declared.ColumnPlan.{ColumnPlan}
use Rattle.lt_tables.specs.declared.Sends.{Sends}
use Rattle.lt_tables.specs.Bucket.{capacity}
use Rattle.lt_tables.specs.Table.{newest, place_of}
use Rattle.lt_tables.specs.Placement.{columns, entry_of, homed, entries_cost, column_load, column_mark, cost_below, senders, sendings, plan_of, placement, plan_at, placement_of}
use Rattle.lt_tables.proofs.TableLaws.{PlansFit}
use Rattle.lt_tables.proofs.HashLaws.{home_column-small, key_suffix-small}
use Rattle.lt_tables.proofs.FitLaws.{Made, lies, plan_from, plans_of, plan_is, plan_past, sendings-made, no_made, column-fits}

-- the sendings of a placement
pub record HasSendings (items : List Item) (plans : List ColumnPlan) : Type 0 where
  pub made : List Sending
  pub sent : sendings (map entry_of items) (senders (map entry_of items)) [] ≡ Some made
  pub plans_are : plans ≡ plans_of (map entry_of items) made

pub placement-sendings : (items : List Item) (plans : List ColumnPlan) → placement_of items ≡ Some plans → HasSendings items plans
unfolding placement
placement-sendings items plans h = by_sendings (sendings (map entry_of items) (senders (map entry_of items)) []) refl h
  where
    by_sendings : (o : Option (List Sending)) → sendings (map entry_of items) (senders (map entry_of items)) [] ≡ o → option_map (λ made. map (plan_of (map entry_of items) made) columns) o ≡ Some plans → HasSendings items plans
    by_sendings None is h = absurd (none-some plans h)
    by_sendings (Some made) is h = record { made = made; sent = is; plans_are = cc }

pub step_cost : (b : Bool) (v : Item) (xs : List Item) (n : ℕ) → total_cost xs ≡ n → total_cost (cond b (v ∷ xs) xs) ≡ cond b (item_cost v) 0 + n
step_cost true v xs n h = sum_by-cons item_cost v xs ∙ ap (λ m. item_cost v + m) h
step_cost false v xs n h = h ∙ (let z : n ≡ 0 + n = omega arith in z)

step_entries : (b : Bool) (e : Entry) (es : List Entry) → cond b e.cost 0 + entries_cost es ≡ entries_cost (cond b (e ∷ es) es)
step_entries true e es = sym (sum_by-cons (λ (e : Entry). e.cost) e es)
step_entries false e es = let z : 0 + entries_cost es ≡ entries_cost es = omega arith in z

-- what items cost that pass a test of their entries
items_cost : (test : Entry → Bool) (xs : List Item) → total_cost (filter (λ v. test (entry_of v)) xs) ≡ entries_cost (filter test (map entry_of xs))
items_cost test [] = refl
items_cost test (v ∷ xs) = step_cost (test (entry_of v)) v (filter (λ v. test (entry_of v)) xs) (entries_cost (filter test (map entry_of xs))) (items_cost test xs) ∙ step_entries (test (entry_of v)) (entry_of v) (filter test (map entry_of xs))

valid_filter : (test : Item → Bool) (xs : List Item) → list_all is_valid xs ≡ true → list_all is_valid (filter test xs) ≡ true
valid_filter test [] h = refl
valid_filter test (v ∷ xs) h = let p = and_parts (is_valid v) (list_all is_valid xs) h in step (test v) p.0 (valid_filter test xs p.1)
  where
    step : (b : Bool) → is_valid v ≡ true → list_all is_valid (filter test xs) ≡ true → list_all is_valid (cond b (v ∷ filter test xs) (filter test xs)) ≡ true
    step true p q = ap (λ b. b && list_all is_valid (filter test xs)) p ∙ q
    step false p q = q

-- ---- marks and targets

max_small : (a b : ℕ) → a < 4294967296 → b < 4294967296 → max a b < 4294967296
max_small a b p q = omega arith

fold_small : (a : ℕ) (ns : List ℕ) → a < 4294967296 → AllByRecursion (λ n. n < 4294967296) ns → fold max a ns < 4294967296
fold_small a [] p all = p
fold_small a (n ∷ ns) p all = fold_small (max a n) ns (max_small a n p all.0) all.1

entries_small : (xs : List Item) → AllByRecursion (λ (e : Entry). e.suffix < 4294967296) (map entry_of xs)
entries_small [] = tt
entries_small (v ∷ xs) = (key_suffix-small v.key, entries_small xs)

filter_small : (test : Entry → Bool) (es : List Entry) → AllByRecursion (λ (e : Entry). e.suffix < 4294967296) es → AllByRecursion (λ (e : Entry). e.suffix < 4294967296) (filter test es)
filter_small test [] all = tt
filter_small test (e ∷ es) all = elim (test e) as (λ b. AllByRecursion (λ (e : Entry). e.suffix < 4294967296) (cond b (e ∷ filter test es) (filter test es))) [ true ↦ (all.0, filter_small test es all.1) | false ↦ filter_small test es all.1 ]

suffixes_small : (es : List Entry) → AllByRecursion (λ (e : Entry). e.suffix < 4294967296) es → AllByRecursion (λ n. n < 4294967296) (map (λ (e : Entry). e.suffix) es)
suffixes_small [] all = tt
suffixes_small (e ∷ es) all = (all.0, suffixes_small es all.1)

mark_small : (xs : List Item) (c : ℕ) → column_mark (map entry_of xs) c < 4294967296
unfolding column_mark
mark_small xs c =
    let es : List Entry = map entry_of xs in
    fold_small 0 (map (λ (e : Entry). e.suffix) (filter (λ (e : Entry). nat_le (cost_below (homed es c) e.suffix) capacity) (homed es c))) (omega arith)
    (suffixes_small (filter (λ (e : Entry). nat_le (cost_below (homed es c) e.suffix) capacity) (homed es c))
    (filter_small (λ (e : Entry). nat_le (cost_below (homed es c) e.suffix) capacity) (homed es c) (filter_small (λ (e : Entry). e.column == c) es (entries_small xs))))

target_found : (es : List Entry) (test : Sending → Bool) (made : List Sending) (s : Sending) → AllByRecursion (λ (s : Sending). (s.to < 64) × (column_load es s.to ≤ capacity)) made → find test made ≡ Some s → s.to < 64
target_found es test [] s all h = absurd (none-some s h)
target_found es test (x ∷ made) s all h = step (test x) h (target_found es test made s all.1)
  where
    step : (b : Bool) → cond b (Some x) (find test made) ≡ Some s → (find test made ≡ Some s → s.to < 64) → s.to < 64
    step true h ih = subst (λ (s : Sending). s.to < 64) (cond_some true x s h).1 all.0.0
    step false h ih = ih h

-- a plan's target is a column and its mark a 32-bit number
pub record IsPlan (plan : ColumnPlan) : Type 0 where
  pub target : plan.target < 64
  pub mark : plan.mark < 4294967296

plan_from-is : (xs : List Item) (made : List Sending) (k : ℕ) (o : Option Sending) → AllByRecursion (λ (s : Sending). (s.to < 64) × (column_load (map entry_of xs) s.to ≤ capacity)) made → find (λ (s : Sending). s.from == k) made ≡ o → IsPlan (plan_from (map entry_of xs) k o)
plan_from-is xs made k None all h = record { target = omega arith; mark = omega arith }
plan_from-is xs made k (Some s) all h = record { target = target_found (map entry_of xs) (λ (s : Sending). s.from == k) made s all h; mark = mark_small xs k }

plan-is : (xs : List Item) (made : List Sending) (k : ℕ) → Made (map entry_of xs) made → IsPlan (plan_at (plans_of (map entry_of xs) made) k)
plan-is xs made k m = ⊎_elim
    (λ (small : k < 64). subst IsPlan (sym (plan_is (map entry_of xs) made k small)) (plan_from-is xs made k (find (λ (s : Sending). s.from == k) made) m.receivers refl))
    (λ (large : 64 ≤ k). subst IsPlan (sym (plan_past (map entry_of xs) made k large)) (record { target = omega arith; mark = omega arith }))
    (cases_lt k 64)

place_small : (b : Bool) (plan : ColumnPlan) (home : ℕ) → IsPlan plan → home < 64 → cond b plan.target home < 64
place_small true plan home p h = p.target
place_small false plan home p h = h

sends_fine : (b : Bool) (plan : ColumnPlan) → IsPlan plan → option_map_or (λ (s : Sends). nat_lt s.target 64 && nat_lt s.mark 4294967296) (cond b (Some (record { target = plan.target; mark = plan.mark })) None) true ≡ true
sends_fine true plan p = ap (λ b. b && nat_lt plan.mark 4294967296) (lt-ltb plan.target 64 p.target) ∙ lt-ltb plan.mark 4294967296 p.mark
sends_fine false plan p = refl

-- each item of a placed table lies in one of its columns
pub placement-within : (items : List Item) (plans : List ColumnPlan) → placement_of items ≡ Some plans → (v : Item) → place_of plans v < 64
placement-within items plans placed v =
    let es : List Entry = map entry_of items in
    let h = placement-sendings items plans placed in
    let m : Made es h.made = sendings-made es (senders es) [] h.made h.sent (no_made es) in
    subst (λ ps. place_of ps v < 64) (sym h.plans_are) (place_small _ (plan_at (plans_of es h.made) (home_column v.key)) (home_column v.key) (plan-is items h.made (home_column v.key) m) (home_column-small v.key))

-- THE PLACEMENT of valid items in rank order: each bucket fits
pub placement-fits : (items : List Item) (plans : List ColumnPlan) → placement_of items ≡ Some plans → newest items ≡ items → list_all is_valid items ≡ true → PlansFit plans items
placement-fits items plans placed ranked valid =
    let es : List Entry = map entry_of items in
    let h = placement-sendings items plans placed in
    let m : Made es h.made = sendings-made es (senders es) [] h.made h.sent (no_made es) in
    subst (λ ps. PlansFit ps items) (sym h.plans_are) (record {
      within = λ v. place_small _ (plan_at (plans_of es h.made) (home_column v.key)) (home_column v.key) (plan-is items h.made (home_column v.key) m) (home_column-small v.key);
      fit = λ c small. record {
        valid = ap (λ xs. list_all is_valid (filter (λ v. place_of (plans_of es h.made) v == c) xs)) ranked ∙ valid_filter (λ v. place_of (plans_of es h.made) v == c) items valid;
        small = subst (λ n. n ≤ capacity) (sym (ap (λ xs. total_cost (filter (λ v. place_of (plans_of es h.made) v == c) xs)) ranked ∙ items_cost (λ (e : Entry). lies (plan_at (plans_of es h.made) e.column) e == c) items)) (column-fits es h.made c h.sent small);
        sending = sends_fine (plan_at (plans_of es h.made) c).sends (plan_at (plans_of es h.made) c) (plan-is items h.made c m);
      };
    })
