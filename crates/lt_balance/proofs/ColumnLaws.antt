-- What one more entry makes of its column, where no entry before it has a greater suffix.
use Rattle.std.proofs.Common.{◌≡◌, ℕ, ◌+◌, ◌*◌, ◌^◌, ◌<◌, ◌≤◌, max, refl, sym, ap, subst, ◌∙◌, List, [], ◌∷◌, ◌++◌, map, length, take, set, get_or, replicate, Bool, true, false, cond, arith, ⊎_elim}
use Rattle.std.specs.Prelude.{◌==◌, nat_le, nat_lt}
use Rattle.std.specs.List.{filter, fold, All, AllByRecursion}
use Rattle.std.proofs.lemmas.List.{append-nil, map-append, length-set, length-replicate, get_or-replicate, get_or-set_same, get_or-set_other, length-take, get_or-take, get_or_default, take_more}
use Rattle.std.proofs.lemmas.List.Sums.{sum_by-cons, sum_by-le, sum_by-append, sum_by_push, fold-append}
use Rattle.std.proofs.lemmas.List.Elements.{filter-append, recursion_from_All, All-take}
use Rattle.std.proofs.lemmas.Bool.{cases_lt, cases_eq, le-ltb, lt-ltb, le-leb, lt-leb, leb-true, eq-eqb, ne_eqb}
use Rattle.lt_tables.specs.declared.Entry.{Entry}
use Rattle.lt_tables.specs.Bucket.{capacity}
use Rattle.lt_balance.specs.declared.columns.Column.{Column}
use Rattle.lt_balance.specs.Entries.{AreEntries}
use Rattle.lt_balance.specs.Columns.{column_of, no_column, AreColumns, NoneAbove}
use Rattle.lt_tables.specs.Placement.{homed, entries_cost, column_load, cost_below, greatest, column_mark, cost_from, sent_cost}
use Rattle.lt_tables.proofs.ListLaws.{all_filter}

-- ---- filters

abbrev NoneOver : ℕ → List Entry → Type 0
NoneOver s es = AllByRecursion (λ (e : Entry). e.suffix ≤ s) es

-- tests that agree at each entry keep the same
filter_alike : (p q : Entry → Bool) (es : List Entry) → AllByRecursion (λ e. p e ≡ q e) es → filter p es ≡ filter q es
filter_alike p q [] all = refl
filter_alike p q (e ∷ es) all = ap (λ b. cond b (e ∷ filter p es) (filter p es)) all.0 ∙ ap (λ xs. cond (q e) (e ∷ xs) xs) (filter_alike p q es all.1)

-- where no entry passes a test, none is kept
pub none_kept : (p : Entry → Bool) (es : List Entry) → AllByRecursion (λ e. p e ≡ false) es → filter p es ≡ []
none_kept p [] all = refl
none_kept p (e ∷ es) all = ap (λ b. cond b (e ∷ filter p es) (filter p es)) all.0 ∙ none_kept p es all.1

weaker : (P Q : Entry → Type 0) → ((e : Entry) → P e → Q e) → (es : List Entry) → AllByRecursion P es → AllByRecursion Q es
weaker P Q h [] all = tt
weaker P Q h (e ∷ es) all = (h e all.0, weaker P Q h es all.1)

-- ---- costs

cost_of_one : (b : Bool) (e : Entry) → entries_cost (cond b (e ∷ []) []) ≡ cond b e.cost 0
cost_of_one true e = omega arith
cost_of_one false e = refl

-- one more entry costs what it costs, where it passes
cost_more : (p : Entry → Bool) (es : List Entry) (e : Entry) → entries_cost (filter p (es ++ e ∷ [])) ≡ entries_cost (filter p es) + cond (p e) e.cost 0
cost_more p es e = ap entries_cost (filter-append p es (e ∷ [])) ∙ sum_by-append (λ (e : Entry). e.cost) (filter p es) (cond (p e) (e ∷ []) []) ∙ ap (λ n. entries_cost (filter p es) + n) (cost_of_one (p e) e)

kept_le : (b : Bool) (e : Entry) (kept es : List Entry) → entries_cost kept ≤ entries_cost es → entries_cost (cond b (e ∷ kept) kept) ≤ entries_cost (e ∷ es)
kept_le true e kept es h = let whole = sum_by-cons (λ (e : Entry). e.cost) e es in let part = sum_by-cons (λ (e : Entry). e.cost) e kept in omega arith
kept_le false e kept es h = let whole = sum_by-cons (λ (e : Entry). e.cost) e es in omega arith

-- what passes a test costs no more than all
pub cost-filter-le : (p : Entry → Bool) (es : List Entry) → entries_cost (filter p es) ≤ entries_cost es
cost-filter-le p [] = omega arith
cost-filter-le p (e ∷ es) = kept_le (p e) e (filter p es) es (cost-filter-le p es)

-- an entry of a suffix that is not below costs nothing below
below_more : (es : List Entry) (e : Entry) (s : ℕ) → s ≤ e.suffix → cost_below (es ++ e ∷ []) s ≡ cost_below es s
below_more es e s h = cost_more (λ (e : Entry). nat_lt e.suffix s) es e ∙ ap (λ b. cost_below es s + cond b e.cost 0) (le-ltb e.suffix s h) ∙ (let z : cost_below es s + 0 ≡ cost_below es s = omega arith in z)

from_more : (es : List Entry) (e : Entry) (s : ℕ) → s ≤ e.suffix → cost_from (es ++ e ∷ []) s ≡ cost_from es s + e.cost
from_more es e s h = cost_more (λ (e : Entry). nat_le s e.suffix) es e ∙ ap (λ b. cost_from es s + cond b e.cost 0) (le-leb s e.suffix h)

-- ---- the greatest number

max_from : (a b : ℕ) (ns : List ℕ) → fold max (max a b) ns ≡ max a (fold max b ns)
max_from a b [] = refl
max_from a b (n ∷ ns) = ap (λ m. fold max m ns) (let e : max (max a b) n ≡ max a (max b n) = omega arith in e) ∙ max_from a (max b n) ns

greatest-cons : (n : ℕ) (ns : List ℕ) → greatest (n ∷ ns) ≡ max n (greatest ns)
greatest-cons n ns = ap (λ m. fold max m ns) (let e : max 0 n ≡ max n 0 = omega arith in e) ∙ max_from n 0 ns

greatest_more : (ns : List ℕ) (n : ℕ) → greatest (ns ++ n ∷ []) ≡ max (greatest ns) n
greatest_more ns n = fold-append max 0 ns (n ∷ [])

abbrev suffixes : List Entry → List ℕ
suffixes es = map (λ (e : Entry). e.suffix) es

greatest_below : (s : ℕ) (es : List Entry) → NoneOver s es → greatest (suffixes es) ≤ s
greatest_below s [] all = omega arith
greatest_below s (e ∷ es) all =
    let here : e.suffix ≤ s = all.0 in
    let rest : greatest (suffixes es) ≤ s = greatest_below s es all.1 in
    let is = greatest-cons e.suffix (suffixes es) in
    omega arith

greatest_above : (es : List Entry) → NoneOver (greatest (suffixes es)) es
greatest_above [] = tt
greatest_above (e ∷ es) =
    let is = greatest-cons e.suffix (suffixes es) in (
      (let h : e.suffix ≤ greatest (suffixes (e ∷ es)) = omega arith in h),
      weaker (λ x. x.suffix ≤ greatest (suffixes es)) (λ x. x.suffix ≤ greatest (suffixes (e ∷ es))) (λ x h. let k : x.suffix ≤ greatest (suffixes (e ∷ es)) = omega arith in k) es (greatest_above es),
    )

-- one entry more or less
greatest_kept : (b : Bool) (e : Entry) (kept : List Entry) → greatest (suffixes kept) ≤ greatest (suffixes (cond b (e ∷ kept) kept))
greatest_kept true e kept = let is = greatest-cons e.suffix (suffixes kept) in omega arith
greatest_kept false e kept = omega arith

-- ---- the mark of a column's own entries

abbrev has_room : List Entry → Entry → Bool
has_room hs x = nat_le (cost_below hs x.suffix) capacity

abbrev mark_of : List Entry → ℕ
mark_of hs = greatest (suffixes (filter (has_room hs) hs))

mark_below : (hs : List Entry) (s : ℕ) → NoneOver s hs → mark_of hs ≤ s
mark_below hs s none = greatest_below s (filter (has_room hs) hs) (all_filter (λ x. x.suffix ≤ s) (has_room hs) hs none)

greatest_if : (b : Bool) (kept : List Entry) (e : Entry) → greatest (suffixes (kept ++ cond b (e ∷ []) [])) ≡ cond b (max (greatest (suffixes kept)) e.suffix) (greatest (suffixes kept))
greatest_if true kept e = ap greatest (map-append (λ (e : Entry). e.suffix) kept (e ∷ [])) ∙ greatest_more (suffixes kept) e.suffix
greatest_if false kept e = ap (λ xs. greatest (suffixes xs)) (append-nil kept)

mark_more : (hs : List Entry) (e : Entry) → NoneOver e.suffix hs → mark_of (hs ++ e ∷ []) ≡ cond (nat_le (cost_below hs e.suffix) capacity) (max (mark_of hs) e.suffix) (mark_of hs)
mark_more hs e none =
    let alike : AllByRecursion (λ x. has_room (hs ++ e ∷ []) x ≡ has_room hs x) hs = weaker (λ x. x.suffix ≤ e.suffix) (λ x. has_room (hs ++ e ∷ []) x ≡ has_room hs x) (λ x h. ap (λ n. nat_le n capacity) (below_more hs e x.suffix h)) hs none in
    ap (λ xs. greatest (suffixes xs)) (filter-append (has_room (hs ++ e ∷ [])) hs (e ∷ []))
    ∙ ap (λ xs. greatest (suffixes (xs ++ cond (has_room (hs ++ e ∷ []) e) (e ∷ []) []))) (filter_alike (has_room (hs ++ e ∷ [])) (has_room hs) hs alike)
    ∙ ap (λ n. greatest (suffixes (filter (has_room hs) hs ++ cond (nat_le n capacity) (e ∷ []) []))) (below_more hs e e.suffix (omega arith))
    ∙ greatest_if (nat_le (cost_below hs e.suffix) capacity) (filter (has_room hs) hs) e

-- while all entries fit, the mark is the last suffix
mark_fits : (hs : List Entry) (e : Entry) → NoneOver e.suffix hs → entries_cost hs ≤ capacity → mark_of (hs ++ e ∷ []) ≡ e.suffix
mark_fits hs e none fits =
    let part = cost-filter-le (λ (x : Entry). nat_lt x.suffix e.suffix) hs in
    let low = mark_below hs e.suffix none in
    mark_more hs e none
    ∙ ap (λ b. cond b (max (mark_of hs) e.suffix) (mark_of hs)) (le-leb (cost_below hs e.suffix) capacity (omega arith))
    ∙ (let is : max (mark_of hs) e.suffix ≡ e.suffix = omega arith in is)

-- where what is below a suffix costs less than all, an entry has it
reaches : (p : Entry → Bool) (s : ℕ) (es : List Entry) → NoneOver s es → ((x : Entry) → x.suffix ≡ s → p x ≡ true) → cost_below es s < entries_cost es → s ≤ greatest (suffixes (filter p es))
reaches p s [] none passes less = absurd (omega arith)
reaches p s (e ∷ es) none passes less = ⊎_elim
    (λ (below : e.suffix < s).
    let whole = sum_by-cons (λ (e : Entry). e.cost) e es in
    let part : cost_below (e ∷ es) s ≡ e.cost + cost_below es s = ap (λ b. entries_cost (cond b (e ∷ filter (λ (x : Entry). nat_lt x.suffix s) es) (filter (λ (x : Entry). nat_lt x.suffix s) es))) (lt-ltb e.suffix s below) ∙ sum_by-cons (λ (e : Entry). e.cost) e (filter (λ (x : Entry). nat_lt x.suffix s) es) in
    let rest : s ≤ greatest (suffixes (filter p es)) = reaches p s es none.1 passes (omega arith) in
    let more = greatest_kept (p e) e (filter p es) in
    omega arith)
    (λ (above : s ≤ e.suffix).
    let low : e.suffix ≤ s = none.0 in
    let same : e.suffix ≡ s = omega arith in
    let is = greatest-cons e.suffix (suffixes (filter p es)) in
    subst (λ b. s ≤ greatest (suffixes (cond b (e ∷ filter p es) (filter p es)))) (sym (passes e same)) (omega arith))
    (cases_lt e.suffix s)

-- once they do not fit, it stays
mark_full : (hs : List Entry) (e : Entry) → NoneOver e.suffix hs → capacity < entries_cost hs → mark_of (hs ++ e ∷ []) ≡ mark_of hs
mark_full hs e none full = mark_more hs e none ∙ by_room (nat_le (cost_below hs e.suffix) capacity) refl
  where
    by_room : (b : Bool) → nat_le (cost_below hs e.suffix) capacity ≡ b → cond b (max (mark_of hs) e.suffix) (mark_of hs) ≡ mark_of hs
    by_room false is = refl
    by_room true is =
        let less = leb-true (cost_below hs e.suffix) capacity is in
        let high = reaches (has_room hs) e.suffix hs none (λ x same. ap (λ s. nat_le (cost_below hs s) capacity) same ∙ is) (omega arith) in
        omega arith

-- ---- what they send

abbrev sent_of : List Entry → ℕ
sent_of hs = cost_from hs (mark_of hs)

sent_full : (hs : List Entry) (e : Entry) → NoneOver e.suffix hs → capacity < entries_cost hs → sent_of (hs ++ e ∷ []) ≡ sent_of hs + e.cost
sent_full hs e none full = ap (λ s. cost_from (hs ++ e ∷ []) s) (mark_full hs e none full) ∙ from_more hs e (mark_of hs) (mark_below hs e.suffix none)

all_kept : (p : Entry → Bool) (es : List Entry) → AllByRecursion (λ e. p e ≡ true) es → filter p es ≡ es
all_kept p [] all = refl
all_kept p (e ∷ es) all = ap (λ b. cond b (e ∷ filter p es) (filter p es)) all.0 ∙ ap (λ xs. e ∷ xs) (all_kept p es all.1)

for_all : (P : Entry → Type 0) → ((e : Entry) → P e) → (es : List Entry) → AllByRecursion P es
for_all P h [] = tt
for_all P h (e ∷ es) = (h e, for_all P h es)

-- what entries cost from the last suffix on, while all fit
last_cost : (hs : List Entry) (s : ℕ) → NoneOver s hs → entries_cost hs ≤ capacity → cost_from hs s ≡ cond (s == mark_of hs) (sent_of hs) 0
last_cost hs s none fits = ⊎_elim
    (λ (same : s ≡ mark_of hs). ap (λ t. cost_from hs t) same ∙ sym (ap (λ b. cond b (sent_of hs) 0) (eq-eqb s (mark_of hs) same)))
    (λ (other : s ≡ mark_of hs → ⊥).
    let whole : filter (has_room hs) hs ≡ hs = all_kept (has_room hs) hs (for_all (λ x. has_room hs x ≡ true) (λ x. le-leb (cost_below hs x.suffix) capacity (let part = cost-filter-le (λ (y : Entry). nat_lt y.suffix x.suffix) hs in omega arith)) hs) in
    let low : mark_of hs ≤ s = mark_below hs s none in
    let above : NoneOver (mark_of hs) hs = subst (λ xs. NoneOver (greatest (suffixes xs)) hs) (sym whole) (greatest_above hs) in
    ap entries_cost (none_kept (λ (x : Entry). nat_le s x.suffix) hs (weaker (λ x. x.suffix ≤ mark_of hs) (λ x. nat_le s x.suffix ≡ false) (λ x h. lt-leb s x.suffix (omega arith)) hs above))
    ∙ sym (ap (λ b. cond b (sent_of hs) 0) (ne_eqb s (mark_of hs) other)))
    (cases_eq s (mark_of hs))

sent_fits : (hs : List Entry) (e : Entry) → NoneOver e.suffix hs → entries_cost hs ≤ capacity → sent_of (hs ++ e ∷ []) ≡ cond (e.suffix == mark_of hs) (sent_of hs) 0 + e.cost
sent_fits hs e none fits =
    ap (λ s. cost_from (hs ++ e ∷ []) s) (mark_fits hs e none fits)
    ∙ from_more hs e e.suffix (omega arith)
    ∙ ap (λ n. n + e.cost) (last_cost hs e.suffix none fits)

-- ---- the columns of a list

homed_more : (es : List Entry) (e : Entry) → homed (es ++ e ∷ []) e.column ≡ homed es e.column ++ e ∷ []
homed_more es e = filter-append (λ (x : Entry). x.column == e.column) es (e ∷ []) ∙ ap (λ b. homed es e.column ++ cond b (e ∷ []) []) (eq-eqb e.column e.column refl)

homed_other : (es : List Entry) (e : Entry) (c : ℕ) → (e.column ≡ c → ⊥) → homed (es ++ e ∷ []) c ≡ homed es c
homed_other es e c other = filter-append (λ (x : Entry). x.column == c) es (e ∷ []) ∙ ap (λ b. homed es c ++ cond b (e ∷ []) []) (ne_eqb e.column c other) ∙ append-nil (homed es c)

-- another column stays as it is
pub column_of-other : (es : List Entry) (e : Entry) (c : ℕ) → (e.column ≡ c → ⊥) → column_of (es ++ e ∷ []) c ≡ column_of es c
unfolding column_load column_mark sent_cost
column_of-other es e c other = ap (λ hs. record { load = entries_cost hs; mark = mark_of hs; sent = sent_of hs }) (homed_other es e c other)

abbrev made_of : List Entry → Column
made_of hs = record { load = entries_cost hs; mark = mark_of hs; sent = sent_of hs }

column_made : (es : List Entry) (c : ℕ) → column_of es c ≡ made_of (homed es c)
unfolding column_load column_mark sent_cost
column_made es c = refl

made_full : (hs : List Entry) (e : Entry) → NoneOver e.suffix hs → capacity < entries_cost hs → record { load = (made_of hs).load + e.cost; mark = (made_of hs).mark; sent = (made_of hs).sent + e.cost } ≡ made_of (hs ++ e ∷ [])
made_full hs e none full =
    let load = sum_by_push (λ (e : Entry). e.cost) hs e in
    let mark = mark_full hs e none full in
    let sent = sent_full hs e none full in
    cc

made_fits : (hs : List Entry) (e : Entry) → NoneOver e.suffix hs → entries_cost hs ≤ capacity → record { load = (made_of hs).load + e.cost; mark = e.suffix; sent = cond (e.suffix == (made_of hs).mark) (made_of hs).sent 0 + e.cost } ≡ made_of (hs ++ e ∷ [])
made_fits hs e none fits =
    let load = sum_by_push (λ (e : Entry). e.cost) hs e in
    let mark = mark_fits hs e none fits in
    let sent = sent_fits hs e none fits in
    cc

own_below : (es : List Entry) (e : Entry) → NoneAbove es e.suffix → NoneOver e.suffix (homed es e.column)
own_below es e none = all_filter (λ x. x.suffix ≤ e.suffix) (λ x. x.column == e.column) es (recursion_from_All (λ x. x.suffix ≤ e.suffix) es none)

-- a column whose entries do not fit keeps its mark
pub column_of-full : (es : List Entry) (e : Entry) (was : Column) → was ≡ column_of es e.column → NoneAbove es e.suffix → capacity < was.load → record { load = was.load + e.cost; mark = was.mark; sent = was.sent + e.cost } ≡ column_of (es ++ e ∷ []) e.column
column_of-full es e was is none full =
    let made : was ≡ made_of (homed es e.column) = is ∙ column_made es e.column in
    let more : capacity < entries_cost (homed es e.column) = subst (λ n. capacity < n) (ap (λ (c : Column). c.load) made) full in
    ap (λ (c : Column). record { load = c.load + e.cost; mark = c.mark; sent = c.sent + e.cost }) made
    ∙ made_full (homed es e.column) e (own_below es e none) more
    ∙ ap made_of (sym (homed_more es e))
    ∙ sym (column_made (es ++ e ∷ []) e.column)

-- one whose entries fit takes the new suffix for its mark
pub column_of-fits : (es : List Entry) (e : Entry) (was : Column) → was ≡ column_of es e.column → NoneAbove es e.suffix → was.load ≤ capacity → record { load = was.load + e.cost; mark = e.suffix; sent = cond (e.suffix == was.mark) was.sent 0 + e.cost } ≡ column_of (es ++ e ∷ []) e.column
column_of-fits es e was is none fits =
    let made : was ≡ made_of (homed es e.column) = is ∙ column_made es e.column in
    let more : entries_cost (homed es e.column) ≤ capacity = subst (λ n. n ≤ capacity) (ap (λ (c : Column). c.load) made) fits in
    ap (λ (c : Column). record { load = c.load + e.cost; mark = e.suffix; sent = cond (e.suffix == c.mark) c.sent 0 + e.cost }) made
    ∙ made_fits (homed es e.column) e (own_below es e none) more
    ∙ ap made_of (sym (homed_more es e))
    ∙ sym (column_made (es ++ e ∷ []) e.column)

-- ---- all 64

pub load-small : (es : List Entry) (c : ℕ) → All (λ (e : Entry). e.cost ≤ capacity) es → column_load es c ≤ length es * capacity
unfolding column_load
load-small es c costs =
    let part = cost-filter-le (λ (e : Entry). e.column == c) es in
    let whole = sum_by-le (λ (e : Entry). e.cost) capacity es costs in
    omega arith

pub sent-le-load : (es : List Entry) (c : ℕ) → sent_cost es c ≤ column_load es c
unfolding column_load sent_cost
sent-le-load es c = cost-filter-le (λ (e : Entry). nat_le (column_mark es c) e.suffix) (homed es c)

-- no entries leave the columns empty
pub AreColumns-nil : AreColumns [] (replicate 64 no_column)
unfolding column_load column_mark sent_cost
AreColumns-nil = record { len = length-replicate 64 no_column; each = λ c h. get_or-replicate 64 c no_column no_column h }

-- one more entry changes its own column
pub AreColumns-more : (es : List Entry) (e : Entry) (columns : List Column) (column : Column) → AreColumns es columns → e.column < 64 → column ≡ column_of (es ++ e ∷ []) e.column → AreColumns (es ++ e ∷ []) (set columns e.column column)
AreColumns-more es e columns column are small is = record {
  len = length-set columns e.column column ∙ are.len;
  each = λ c h. ⊎_elim
      (λ (same : e.column ≡ c). subst (λ k. get_or (set columns e.column column) k no_column ≡ column_of (es ++ e ∷ []) k) same (let there : e.column < length columns = subst (λ n. e.column < n) (sym are.len) small in get_or-set_same columns e.column column no_column there ∙ is))
      (λ (other : e.column ≡ c → ⊥). get_or-set_other columns e.column c column no_column (λ back. other (sym back)) ∙ are.each c h ∙ sym (column_of-other es e c other))
      (cases_eq e.column c);
}

-- what an entry adds to its column fits 64 bits
pub record SumsFit (column : Column) (e : Entry) : Type 0 where
  pub load : column.load + e.cost < 2 ^ 64
  pub sent : column.sent + e.cost < 2 ^ 64

pub sums-fit : (es : List Entry) (i : ℕ) (d : Entry) (columns : List Column) → AreEntries es → i < length es → AreColumns (take i es) columns → SumsFit (get_or columns (get_or es i d).column no_column) (get_or es i d)
sums-fit es i d columns entries below are =
    let e : Entry = get_or es i d in
    let cost : e.cost ≤ capacity = entries.costs i d below in
    let front : length (take i es) ≤ i = omega (arith, length-take i es) in
    let few = entries.few in
    let load = load-small (take i es) e.column (All-take (λ (e : Entry). e.cost ≤ capacity) i es entries.costs) in
    let sent = sent-le-load (take i es) e.column in
    subst (λ (column : Column). SumsFit column e) (sym (are.each e.column (entries.columns i d below))) (record { load = omega arith; sent = omega arith })

-- the columns with the next entry
pub AreColumns-next : (es : List Entry) (i : ℕ) (d : Entry) (columns : List Column) (column : Column) → AreEntries es → i < length es → AreColumns (take i es) columns
    → ((front : List Entry) → get_or columns (get_or es i d).column no_column ≡ column_of front (get_or es i d).column → NoneAbove front (get_or es i d).suffix → column ≡ column_of (front ++ get_or es i d ∷ []) (get_or es i d).column)
    → AreColumns (take (i + 1) es) (set columns (get_or es i d).column column)
AreColumns-next es i d columns column entries below are made =
    let e : Entry = get_or es i d in
    let none : NoneAbove (take i es) e.suffix = λ k x h.
    let early : k < i = omega (arith, length-take i es) in
    subst (λ (y : Entry). y.suffix ≤ e.suffix) (sym (get_or-take i es k x early ∙ get_or_default es k x d (omega arith))) (entries.order k i d (omega arith) below)
    in
    subst (λ front. AreColumns front (set columns e.column column)) (sym (take_more es i d below))
    (AreColumns-more (take i es) e columns column are (entries.columns i d below) (made (take i es) (are.each e.column (entries.columns i d below)) none))
