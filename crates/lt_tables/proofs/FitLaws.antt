-- A placement fills no bucket past its capacity.
use Rattle.std.proofs.Common.{◌≡◌, ℕ, zero, suc, ◌+◌, ◌-◌, ◌<◌, ◌≤◌, max, refl, sym, ap, subst, ◌∙◌, List, [], ◌∷◌, ◌++◌, map, Bool, true, false, ◌&&◌, cond, Option, Some, None, arith, leb-true, leb-false, lt-ltb, le-ltb, eqb-true, eq-eqb, ne_eqb, true≢false, ⊎_elim}
use Rattle.std.specs.Prelude.{◌==◌, nat_le, nat_lt}
use Rattle.std.specs.List.{filter, find, sum_by, fold, range_with_len, AllByRecursion}
use Rattle.std.specs.Option.{option_and_then, option_map_or, is_some, option_or}
use Rattle.std.proofs.lemmas.List.Sums.{sum_by-cons}
use Rattle.std.proofs.lemmas.List.Folds.{find-append}
use Rattle.std.proofs.lemmas.List.FromFn.{get_or-map-range_with_len, length-map-range_with_len}
use Rattle.std.proofs.lemmas.List.{get_or_past}
use Rattle.std.proofs.lemmas.Option.{none-some, cond_some}
use Rattle.std.proofs.lemmas.Bool.{cases_lt, cases_eq}
use Rattle.lt_tables.specs.declared.Entry.{Entry}
use Rattle.lt_tables.specs.declared.Sending.{Sending}
use Rattle.lt_tables.specs.declared.ColumnPlan.{ColumnPlan}
use Rattle.lt_tables.specs.Bucket.{capacity}
use Rattle.lt_tables.specs.Placement.{columns, homed, entries_cost, column_load, is_sender, cost_below, column_mark, sent_cost, put_by_load, by_load, senders, receivers, room, better, best, sendings, keeps_all, plan_of, plan_at}
use Rattle.lt_tables.proofs.ListLaws.{all_weaker}
use Rattle.lt_terms.proofs.ItemLaws.{guard_option}

-- ---- sums by recursion

abbrev pub total : {A : Type 0} → (A → ℕ) → List A → ℕ
total f [] = 0
total f (x ∷ xs) = f x + total f xs

pub sum_total : {A : Type 0} (f : A → ℕ) (xs : List A) → sum_by f xs ≡ total f xs
sum_total f [] = refl
sum_total f (x ∷ xs) = sum_by-cons f x xs ∙ ap (λ n. f x + n) (sum_total f xs)

pub total-le : {A : Type 0} (f g : A → ℕ) (xs : List A) → ((x : A) → f x ≤ g x) → total f xs ≤ total g xs
total-le f g [] h = omega arith
total-le f g (x ∷ xs) h = let a = h x in let b = total-le f g xs h in omega arith

pub total-add : {A : Type 0} (f g : A → ℕ) (xs : List A) → total (λ x. f x + g x) xs ≡ total f xs + total g xs
total-add f g [] = refl
total-add f g (x ∷ xs) = let h = total-add f g xs in omega arith

total-zero : {A : Type 0} (f : A → ℕ) (xs : List A) → ((x : A) → f x ≡ 0) → total f xs ≡ 0
total-zero f [] h = refl
total-zero f (x ∷ xs) h = let a = h x in let b = total-zero f xs h in omega arith

step_filter : (b : Bool) (e : Entry) (es : List Entry) (n : ℕ) → entries_cost es ≡ n → entries_cost (cond b (e ∷ es) es) ≡ cond b e.cost 0 + n
step_filter true e es n h = sum_by-cons (λ (e : Entry). e.cost) e es ∙ ap (λ m. e.cost + m) h
step_filter false e es n h = h ∙ (let z : n ≡ 0 + n = omega arith in z)

cost_filter : (t : Entry → Bool) (es : List Entry) → entries_cost (filter t es) ≡ total (λ e. cond (t e) e.cost 0) es
cost_filter t [] = refl
cost_filter t (e ∷ es) = step_filter (t e) e (filter t es) (total (λ e. cond (t e) e.cost 0) es) (cost_filter t es)

step_filter_2 : (s : Entry → Bool) (b : Bool) (e : Entry) (es : List Entry) (n : ℕ) → entries_cost (filter s es) ≡ n → entries_cost (filter s (cond b (e ∷ es) es)) ≡ cond b (cond (s e) e.cost 0) 0 + n
step_filter_2 s true e es n h = step_filter (s e) e (filter s es) n h
step_filter_2 s false e es n h = h ∙ (let z : n ≡ 0 + n = omega arith in z)

cost_filter_2 : (s t : Entry → Bool) (es : List Entry) → entries_cost (filter s (filter t es)) ≡ total (λ e. cond (t e) (cond (s e) e.cost 0) 0) es
cost_filter_2 s t [] = refl
cost_filter_2 s t (e ∷ es) = step_filter_2 s (t e) e (filter t es) (total (λ e. cond (t e) (cond (s e) e.cost 0) 0) es) (cost_filter_2 s t es)

load_total : (es : List Entry) (c : ℕ) → column_load es c ≡ total (λ (e : Entry). cond (e.column == c) e.cost 0) es
unfolding column_load
load_total es c = cost_filter (λ (e : Entry). e.column == c) es

sent_total : (es : List Entry) (c : ℕ) → sent_cost es c ≡ total (λ (e : Entry). cond (e.column == c) (cond (nat_le (column_mark es c) e.suffix) e.cost 0) 0) es
unfolding sent_cost
sent_total es c = cost_filter_2 (λ (e : Entry). nat_le (column_mark es c) e.suffix) (λ (e : Entry). e.column == c) es

below_total : (es : List Entry) (c s : ℕ) → cost_below (homed es c) s ≡ total (λ (e : Entry). cond (e.column == c) (cond (nat_lt e.suffix s) e.cost 0) 0) es
below_total es c s = cost_filter_2 (λ (e : Entry). nat_lt e.suffix s) (λ (e : Entry). e.column == c) es

-- ---- the mark

max_holds : (P : ℕ → Type 0) (a b : ℕ) → P a → P b → P (max a b)
max_holds P a b p q = ⊎_elim (λ (h : a < b). subst P (let e : b ≡ max a b = omega arith in e) q) (λ (h : b ≤ a). subst P (let e : a ≡ max a b = omega arith in e) p) (cases_lt a b)

fold_max : (P : ℕ → Type 0) (a : ℕ) (ns : List ℕ) → P a → AllByRecursion P ns → P (fold max a ns)
fold_max P a [] p all = p
fold_max P a (n ∷ ns) p all = fold_max P (max a n) ns (max_holds P a n p all.0) all.1

marks_hold : (P : ℕ → Type 0) (test : Entry → Bool) (es : List Entry) → ((e : Entry) → test e ≡ true → P e.suffix) → AllByRecursion P (map (λ (e : Entry). e.suffix) (filter test es))
marks_hold P test [] h = tt
marks_hold P test (e ∷ es) h = step (test e) refl (marks_hold P test es h)
  where
    step : (b : Bool) → test e ≡ b → AllByRecursion P (map (λ (e : Entry). e.suffix) (filter test es)) → AllByRecursion P (map (λ (e : Entry). e.suffix) (cond b (e ∷ filter test es) (filter test es)))
    step true t rest = (h e t, rest)
    step false t rest = rest

nested_zero : (a b : Bool) (n : ℕ) → b ≡ false → cond a (cond b n 0) 0 ≡ 0
nested_zero true b n e = ap (λ b. cond b n 0) e
nested_zero false b n e = refl

-- what a sender keeps fits
pub mark-fits : (es : List Entry) (c : ℕ) → cost_below (homed es c) (column_mark es c) ≤ capacity
unfolding column_mark
mark-fits es c =
    fold_max (λ s. cost_below (homed es c) s ≤ capacity) 0 (map (λ (e : Entry). e.suffix) (filter (λ (e : Entry). nat_le (cost_below (homed es c) e.suffix) capacity) (homed es c)))
    (let none : cost_below (homed es c) 0 ≡ 0 = below_total es c 0 ∙ total-zero (λ (e : Entry). cond (e.column == c) (cond (nat_lt e.suffix 0) e.cost 0) 0) es (λ e. nested_zero (e.column == c) (nat_lt e.suffix 0) e.cost (le-ltb e.suffix 0 (omega arith))) in omega arith)
    (marks_hold (λ s. cost_below (homed es c) s ≤ capacity) (λ (e : Entry). nat_le (cost_below (homed es c) e.suffix) capacity) (homed es c) (λ e t. leb-true _ _ t))

-- ---- the sendings

sent_to : List Entry → ℕ → List Sending → ℕ
sent_to es c made = total (λ (s : Sending). cond (s.to == c) (sent_cost es s.from) 0) made

pub record Made (es : List Entry) (made : List Sending) : Type 0 where
  pub receivers : AllByRecursion (λ (s : Sending). (s.to < 64) × (column_load es s.to ≤ capacity)) made
  pub room : (c : ℕ) → column_load es c ≤ capacity → column_load es c + total (λ (s : Sending). cond (s.to == c) (sent_cost es s.from) 0) made ≤ capacity

better_holds : (P : ℕ → Type 0) (worth : ℕ → ℕ) (c t : ℕ) (o : Option ℕ) → P c → ((d : ℕ) → o ≡ Some d → P d) → better worth c o ≡ Some t → P t
better_holds P worth c t None p q e = subst P (some_same c t e) p
  where
    some_same : (a b : ℕ) → Some a ≡ Some b → a ≡ b
    some_same a b e = cc
better_holds P worth c t (Some d) p q e = step (nat_le (worth d) (worth c)) e
  where
    some_same : (a b : ℕ) → Some a ≡ Some b → a ≡ b
    some_same a b e = cc

    step : (b : Bool) → cond b (Some c) (Some d) ≡ Some t → P t
    step true e = subst P (some_same c t e) p
    step false e = subst P (some_same d t e) (q d refl)

best_holds : (P : ℕ → Type 0) (worth : ℕ → ℕ) (cs : List ℕ) (t : ℕ) → AllByRecursion P cs → best worth cs ≡ Some t → P t
best_holds P worth [] t all e = absurd (none-some t e)
best_holds P worth (c ∷ cs) t all e = better_holds P worth c t (best worth cs) all.0 (λ d h. best_holds P worth cs d all.1 h) e

filter_range_all : (P : ℕ → Type 0) (test : ℕ → Bool) (a n : ℕ) → ((c : ℕ) → c < a + n → test c ≡ true → P c) → AllByRecursion P (filter test (range_with_len a n))
filter_range_all P test a zero h = tt
filter_range_all P test a (suc n) h = step (test a) refl (filter_range_all P test (a + 1) n (λ c small t. h c (omega arith) t))
  where
    step : (b : Bool) → test a ≡ b → AllByRecursion P (filter test (range_with_len (a + 1) n)) → AllByRecursion P (cond b (a ∷ filter test (range_with_len (a + 1) n)) (filter test (range_with_len (a + 1) n)))
    step true t rest = (h a (omega arith) t, rest)
    step false t rest = rest

receivers_small : (es : List Entry) → AllByRecursion (λ c. (c < 64) × (column_load es c ≤ capacity)) (receivers es)
unfolding columns
receivers_small es = filter_range_all (λ c. (c < 64) × (column_load es c ≤ capacity)) (λ c. nat_le (column_load es c) capacity) 0 64 (λ c small t. (omega arith, leb-true _ _ t))

total-append : {A : Type 0} (f : A → ℕ) (xs : List A) (y : A) → total f (xs ++ y ∷ []) ≡ total f xs + f y
total-append f [] y = omega arith
total-append f (x ∷ xs) y = let h = total-append f xs y in omega arith

all_push : {A : Type 0} (P : A → Type 0) (xs : List A) (y : A) → AllByRecursion P xs → P y → AllByRecursion P (xs ++ y ∷ [])
all_push P [] y all p = (p, tt)
all_push P (x ∷ xs) y all p = (all.0, all_push P xs y all.1 p)

room_is : (es : List Entry) (made : List Sending) (c : ℕ) → room es made c ≡ capacity - column_load es c - total (λ (s : Sending). cond (s.to == c) (sent_cost es s.from) 0) made
unfolding room
room_is es made c = ap (λ n. capacity - column_load es c - n) (sum_total (λ (s : Sending). cond (s.to == c) (sent_cost es s.from) 0) made)

one_more : (b : Bool) (load sums sent : ℕ) → load + sums ≤ capacity → (b ≡ true → sent ≤ capacity - load - sums) → load + (sums + cond b sent 0) ≤ capacity
one_more true load sums sent h k = let s = k refl in omega arith
one_more false load sums sent h k = omega arith

made_more : (es : List Entry) (made : List Sending) (c to : ℕ) → Made es made → (to < 64) × (column_load es to ≤ capacity) → sent_cost es c ≤ room es made to → Made es (made ++ record { from = c; to = to } ∷ [])
made_more es made c to m small fits = record {
  receivers = all_push (λ (s : Sending). (s.to < 64) × (column_load es s.to ≤ capacity)) made (record { from = c; to = to }) m.receivers small;
  room = λ k load.
      subst (λ n. column_load es k + n ≤ capacity) (sym (total-append (λ (s : Sending). cond (s.to == k) (sent_cost es s.from) 0) made (record { from = c; to = to })))
      (one_more (to == k) (column_load es k) (total (λ (s : Sending). cond (s.to == k) (sent_cost es s.from) 0) made) (sent_cost es c) (m.room k load)
      (λ same. subst (λ j. sent_cost es c ≤ capacity - column_load es j - total (λ (s : Sending). cond (s.to == j) (sent_cost es s.from) 0) made) (eqb-true to k same) (subst (λ n. sent_cost es c ≤ n) (room_is es made to) fits)));
}

-- what the sendings of one more sender are
record IsSent (es : List Entry) (c : ℕ) (cs : List ℕ) (made last : List Sending) : Type 0 where
  to : ℕ
  chosen : best (room es made) (receivers es) ≡ Some to
  fits : sent_cost es c ≤ room es made to
  rest : sendings es cs (made ++ record { from = c; to = to } ∷ []) ≡ Some last

sent_one : (es : List Entry) (c : ℕ) (cs : List ℕ) (made last : List Sending) → sendings es (c ∷ cs) made ≡ Some last → IsSent es c cs made last
unfolding sendings
sent_one es c cs made last h = by_best (best (room es made) (receivers es)) refl h
  where
    by_best : (o : Option ℕ) → best (room es made) (receivers es) ≡ o → option_and_then (λ to. cond (nat_le (sent_cost es c) (room es made to)) (sendings es cs (made ++ record { from = c; to = to } ∷ [])) None) o ≡ Some last → IsSent es c cs made last
    by_best None is h = absurd (none-some last h)
    by_best (Some to) is h =
        let g = guard_option (nat_le (sent_cost es c) (room es made to)) (sendings es cs (made ++ record { from = c; to = to } ∷ [])) last h in
        record { to = to; chosen = is; fits = leb-true _ _ g.0; rest = g.1 }

nothing_more : (es : List Entry) (made last : List Sending) → sendings es [] made ≡ Some last → made ≡ last
unfolding sendings
nothing_more es made last h = cc

pub sendings-made : (es : List Entry) (cs : List ℕ) (made last : List Sending) → sendings es cs made ≡ Some last → Made es made → Made es last
sendings-made es [] made last h m = subst (Made es) (nothing_more es made last h) m
sendings-made es (c ∷ cs) made last h m =
    let s = sent_one es c cs made last h in
    sendings-made es cs (made ++ record { from = c; to = s.to } ∷ []) last s.rest
    (made_more es made c s.to m (best_holds (λ c. (c < 64) × (column_load es c ≤ capacity)) (room es made) (receivers es) s.to (receivers_small es) s.chosen) s.fits)

-- ---- each sender has its sending

HasFrom : List Sending → ℕ → Type 0
HasFrom made c = is_some (find (λ (s : Sending). s.from == c) made) ≡ true

or_left : (a b : Option Sending) → is_some a ≡ true → is_some (option_or a b) ≡ true
or_left None b h = absurd (true≢false (sym h))
or_left (Some s) b h = refl

or_right : (a b : Option Sending) → is_some b ≡ true → is_some (option_or a b) ≡ true
or_right None b h = h
or_right (Some s) b h = refl

from_kept : (es : List Entry) (cs : List ℕ) (made last : List Sending) (c : ℕ) → sendings es cs made ≡ Some last → HasFrom made c → HasFrom last c
unfolding HasFrom
from_kept es [] made last c h has = subst (λ m. is_some (find (λ (s : Sending). s.from == c) m) ≡ true) (nothing_more es made last h) has
from_kept es (d ∷ cs) made last c h has =
    let s = sent_one es d cs made last h in
    from_kept es cs (made ++ record { from = d; to = s.to } ∷ []) last c s.rest
    (ap is_some (find-append (λ (s : Sending). s.from == c) made (record { from = d; to = s.to } ∷ [])) ∙ or_left (find (λ (s : Sending). s.from == c) made) (find (λ (s : Sending). s.from == c) (record { from = d; to = s.to } ∷ [])) has)

from_new : (es : List Entry) (cs : List ℕ) (made last : List Sending) → sendings es cs made ≡ Some last → AllByRecursion (HasFrom last) cs
unfolding HasFrom
from_new es [] made last h = tt
from_new es (c ∷ cs) made last h =
    let s = sent_one es c cs made last h in
    let new : Sending = record { from = c; to = s.to } in
    let here : find (λ (s : Sending). s.from == c) (new ∷ []) ≡ Some new = ap (λ b. cond b (Some new) None) (eq-eqb c c refl) in (
      from_kept es cs (made ++ new ∷ []) last c s.rest
          (ap is_some (find-append (λ (s : Sending). s.from == c) made (new ∷ [])) ∙ or_right (find (λ (s : Sending). s.from == c) made) (find (λ (s : Sending). s.from == c) (new ∷ [])) (ap is_some here)),
      from_new es cs (made ++ new ∷ []) last s.rest,
    )

put_all : (P : ℕ → Type 0) (es : List Entry) (c : ℕ) (ds : List ℕ) → AllByRecursion P (put_by_load es c ds) → P c × AllByRecursion P ds
put_all P es c [] all = (all.0, tt)
put_all P es c (d ∷ ds) all = step (nat_le (column_load es d) (column_load es c)) all (put_all P es c ds)
  where
    step : (b : Bool) → AllByRecursion P (cond b (c ∷ d ∷ ds) (d ∷ put_by_load es c ds)) → (AllByRecursion P (put_by_load es c ds) → P c × AllByRecursion P ds) → P c × AllByRecursion P (d ∷ ds)
    step true all ih = (all.0, all.1)
    step false all ih = let h = ih all.1 in (h.0, (all.0, h.1))

by_load_all : (P : ℕ → Type 0) (es : List Entry) (cs : List ℕ) → AllByRecursion P (by_load es cs) → AllByRecursion P cs
by_load_all P es [] all = tt
by_load_all P es (c ∷ cs) all = let h = put_all P es c (by_load es cs) all in (h.0, by_load_all P es cs h.1)

in_range : (P : ℕ → Type 0) (test : ℕ → Bool) (a n c : ℕ) → AllByRecursion P (filter test (range_with_len a n)) → a ≤ c → c < a + n → test c ≡ true → P c
in_range P test a zero c all low high t = absurd (omega arith)
in_range P test a (suc n) c all low high t = step (test a) refl all (λ rest more. in_range P test (a + 1) n c rest more (omega arith) t)
  where
    above : (a ≡ c → ⊥) → a + 1 ≤ c
    above other = omega arith

    step : (b : Bool) → test a ≡ b → AllByRecursion P (cond b (a ∷ filter test (range_with_len (a + 1) n)) (filter test (range_with_len (a + 1) n))) → (AllByRecursion P (filter test (range_with_len (a + 1) n)) → a + 1 ≤ c → P c) → P c
    step true e all ih = ⊎_elim (λ (is : a ≡ c). subst P is all.0) (λ (other : a ≡ c → ⊥). ih all.1 (above other)) (cases_eq a c)
    step false e all ih = ⊎_elim (λ (is : a ≡ c). absurd (true≢false (sym t ∙ ap test (sym is) ∙ e))) (λ (other : a ≡ c → ⊥). ih all (above other)) (cases_eq a c)

sender_sends : (es : List Entry) (made : List Sending) (c : ℕ) → sendings es (senders es) [] ≡ Some made → c < 64 → is_sender es c ≡ true → HasFrom made c
unfolding columns
sender_sends es made c h small t =
    in_range (HasFrom made) (is_sender es) 0 64 c (by_load_all (HasFrom made) es (filter (is_sender es) columns) (from_new es (senders es) [] made h)) (omega arith) (omega arith) t

-- ---- where an entry lies

abbrev pub sent_by : ColumnPlan → Entry → Bool
sent_by plan e = plan.sends && nat_le plan.mark e.suffix

abbrev pub lies : ColumnPlan → Entry → ℕ
lies plan e = cond (sent_by plan e) plan.target e.column

abbrev pub plan_from : List Entry → ℕ → Option Sending → ColumnPlan
plan_from es c o = option_map_or (λ (s : Sending). record { sends = true; target = s.to; mark = column_mark es c }) o keeps_all

-- what a column gets of an entry
abbrev got : List Entry → List Sending → ℕ → Entry → ℕ
got es made c e = total (λ (s : Sending). cond (s.to == c) (cond (e.column == s.from) (cond (nat_le (column_mark es s.from) e.suffix) e.cost 0) 0) 0) made

abbrev kept : ColumnPlan → ℕ → Entry → ℕ
kept plan c e = cond (e.column == c) (cond (sent_by plan e) 0 e.cost) 0

find_from : (made : List Sending) (k : ℕ) (s : Sending) → find (λ (s : Sending). s.from == k) made ≡ Some s → s.from ≡ k
find_from [] k s h = absurd (none-some s h)
find_from (x ∷ made) k s h = step (x.from == k) refl h (find_from made k s)
  where
    step : (b : Bool) → (x.from == k) ≡ b → cond b (Some x) (find (λ (s : Sending). s.from == k) made) ≡ Some s → (find (λ (s : Sending). s.from == k) made ≡ Some s → s.from ≡ k) → s.from ≡ k
    step true e h ih = let same : x ≡ s = (cond_some true x s h).1 in ap (λ (s : Sending). s.from) (sym same) ∙ eqb-true x.from k e
    step false e h ih = ih h

got_term : (es : List Entry) (made : List Sending) (c : ℕ) (e : Entry) (s : Sending) → find (λ (s : Sending). s.from == e.column) made ≡ Some s
    → cond (s.to == c) (cond (e.column == s.from) (cond (nat_le (column_mark es s.from) e.suffix) e.cost 0) 0) 0 ≤ got es made c e
got_term es [] c e s h = absurd (none-some s h)
got_term es (x ∷ made) c e s h = step (x.from == e.column) h (got_term es made c e s)
  where
    step : (b : Bool) → cond b (Some x) (find (λ (s : Sending). s.from == e.column) made) ≡ Some s
        → (find (λ (s : Sending). s.from == e.column) made ≡ Some s → cond (s.to == c) (cond (e.column == s.from) (cond (nat_le (column_mark es s.from) e.suffix) e.cost 0) 0) 0 ≤ got es made c e)
        → cond (s.to == c) (cond (e.column == s.from) (cond (nat_le (column_mark es s.from) e.suffix) e.cost 0) 0) 0 ≤ got es (x ∷ made) c e
    step true h ih = subst (λ (s : Sending). cond (s.to == c) (cond (e.column == s.from) (cond (nat_le (column_mark es s.from) e.suffix) e.cost 0) 0) 0 ≤ got es (x ∷ made) c e) (cond_some true x s h).1 (omega arith)
    step false h ih = let i = ih h in omega arith

-- an entry that lies in a column is kept there or was got
entry_there : (es : List Entry) (made : List Sending) (c : ℕ) (e : Entry) (o : Option Sending) → find (λ (s : Sending). s.from == e.column) made ≡ o
    → cond (lies (plan_from es e.column o) e == c) e.cost 0 ≤ kept (plan_from es e.column o) c e + got es made c e
entry_there es made c e None is = omega arith
entry_there es made c e (Some s) is = by_mark (nat_le (column_mark es e.column) e.suffix) refl
  where
    from_is : s.from ≡ e.column
    from_is = find_from made e.column s is

    by_mark : (b : Bool) → nat_le (column_mark es e.column) e.suffix ≡ b → cond (cond b s.to e.column == c) e.cost 0 ≤ cond (e.column == c) (cond b 0 e.cost) 0 + got es made c e
    by_mark false m = omega arith
    by_mark true m =
        let term = got_term es made c e s is in
        let value : cond (s.to == c) (cond (e.column == s.from) (cond (nat_le (column_mark es s.from) e.suffix) e.cost 0) 0) 0 ≡ cond (s.to == c) e.cost 0 =
        ap (λ b. cond (s.to == c) (cond b (cond (nat_le (column_mark es s.from) e.suffix) e.cost 0) 0) 0) (eq-eqb e.column s.from (sym from_is))
        ∙ ap (λ k. cond (s.to == c) (cond (nat_le (column_mark es k) e.suffix) e.cost 0) 0) from_is
        ∙ ap (λ b. cond (s.to == c) (cond b e.cost 0) 0) m in
        omega arith

-- all that a column gets
got_all : (es fs : List Entry) (made : List Sending) (c : ℕ) → total (got es made c) fs ≡ total (λ (s : Sending). cond (s.to == c) (total (λ (e : Entry). cond (e.column == s.from) (cond (nat_le (column_mark es s.from) e.suffix) e.cost 0) 0) fs) 0) made
got_all es fs [] c = total-zero (got es [] c) fs (λ e. refl)
got_all es fs (s ∷ made) c =
    total-add (λ (e : Entry). cond (s.to == c) (cond (e.column == s.from) (cond (nat_le (column_mark es s.from) e.suffix) e.cost 0) 0) 0) (got es made c) fs
    ∙ ap (λ n. n + total (got es made c) fs) (pull (s.to == c))
    ∙ ap (λ n. cond (s.to == c) (total (λ (e : Entry). cond (e.column == s.from) (cond (nat_le (column_mark es s.from) e.suffix) e.cost 0) 0) fs) 0 + n) (got_all es fs made c)
  where
    pull : (b : Bool) → total (λ (e : Entry). cond b (cond (e.column == s.from) (cond (nat_le (column_mark es s.from) e.suffix) e.cost 0) 0) 0) fs ≡ cond b (total (λ (e : Entry). cond (e.column == s.from) (cond (nat_le (column_mark es s.from) e.suffix) e.cost 0) 0) fs) 0
    pull true = refl
    pull false = total-zero (λ (e : Entry). 0) fs (λ e. refl)

-- ---- the theorem

total-none : {A : Type 0} (f : A → ℕ) (xs : List A) → AllByRecursion (λ x. f x ≡ 0) xs → total f xs ≡ 0
total-none f [] all = refl
total-none f (x ∷ xs) all = let a : f x ≡ 0 = all.0 in let b = total-none f xs all.1 in omega arith

abbrev pub plans_of : List Entry → List Sending → List ColumnPlan
plans_of es made = map (plan_of es made) columns

-- the plan of a column is by its sending
pub plan_is : (es : List Entry) (made : List Sending) (k : ℕ) → k < 64 → plan_at (plans_of es made) k ≡ plan_from es k (find (λ (s : Sending). s.from == k) made)
unfolding columns
plan_is es made k small = get_or-map-range_with_len (plan_of es made) 0 64 k k keeps_all small (omega arith)

pub plan_past : (es : List Entry) (made : List Sending) (k : ℕ) → 64 ≤ k → plan_at (plans_of es made) k ≡ keeps_all
unfolding columns
plan_past es made k large = get_or_past (map (plan_of es made) (range_with_len 0 64)) k keeps_all (let l = length-map-range_with_len (plan_of es made) 0 64 in omega arith)

there : (es : List Entry) (made : List Sending) (c : ℕ) (e : Entry) → cond (lies (plan_at (plans_of es made) e.column) e == c) e.cost 0 ≤ kept (plan_at (plans_of es made) e.column) c e + got es made c e
there es made c e =
    ⊎_elim
    (λ (small : e.column < 64). subst (λ plan. cond (lies plan e == c) e.cost 0 ≤ kept plan c e + got es made c e) (sym (plan_is es made e.column small)) (entry_there es made c e (find (λ (s : Sending). s.from == e.column) made) refl))
    (λ (large : 64 ≤ e.column). subst (λ plan. cond (lies plan e == c) e.cost 0 ≤ kept plan c e + got es made c e) (sym (plan_past es made e.column large)) (alone e))
    (cases_lt e.column 64)
  where
    alone : (e : Entry) → cond (e.column == c) e.cost 0 ≤ cond (e.column == c) e.cost 0 + got es made c e
    alone e = omega arith

kept-le : (a b : Bool) (n : ℕ) → cond a (cond b 0 n) 0 ≤ cond a n 0
kept-le true true n = omega arith
kept-le true false n = omega arith
kept-le false b n = omega arith

all_got : (es : List Entry) (made : List Sending) (c : ℕ) → total (got es made c) es ≡ total (λ (s : Sending). cond (s.to == c) (sent_cost es s.from) 0) made
all_got es made c = got_all es es made c ∙ sums made
  where
    sums : (ss : List Sending) → total (λ (s : Sending). cond (s.to == c) (total (λ (e : Entry). cond (e.column == s.from) (cond (nat_le (column_mark es s.from) e.suffix) e.cost 0) 0) es) 0) ss ≡ total (λ (s : Sending). cond (s.to == c) (sent_cost es s.from) 0) ss
    sums [] = refl
    sums (s ∷ ss) = ap (λ n. cond (s.to == c) n 0 + total (λ (s : Sending). cond (s.to == c) (total (λ (e : Entry). cond (e.column == s.from) (cond (nat_le (column_mark es s.from) e.suffix) e.cost 0) 0) es) 0) ss) (sym (sent_total es s.from)) ∙ ap (λ n. cond (s.to == c) (sent_cost es s.from) 0 + n) (sums ss)

some_found : (o : Option Sending) → is_some o ≡ true → (s : Sending) × (o ≡ Some s)
some_found None e = absurd (true≢false (sym e))
some_found (Some s) e = (s, refl)

-- what a sender keeps of an entry
kept_by_sender : (es : List Entry) (made : List Sending) (c : ℕ) (s : Sending) (e : Entry) → c < 64 → find (λ (s : Sending). s.from == c) made ≡ Some s
    → kept (plan_at (plans_of es made) e.column) c e ≤ cond (e.column == c) (cond (nat_lt e.suffix (column_mark es c)) e.cost 0) 0
kept_by_sender es made c s e small is = step (e.column == c) refl
  where
    by_mark : (a b : Bool) (n : ℕ) → (a ≡ false → b ≡ true) → cond a 0 n ≤ cond b n 0
    by_mark true b n h = omega arith
    by_mark false b n h = subst (λ b. n ≤ cond b n 0) (sym (h refl)) (omega arith)

    step : (b : Bool) → (e.column == c) ≡ b → cond b (cond (sent_by (plan_at (plans_of es made) e.column) e) 0 e.cost) 0 ≤ cond b (cond (nat_lt e.suffix (column_mark es c)) e.cost 0) 0
    step false h = omega arith
    step true h = subst (λ plan. cond (sent_by plan e) 0 e.cost ≤ cond (nat_lt e.suffix (column_mark es c)) e.cost 0)
        (sym (ap (plan_at (plans_of es made)) (eqb-true e.column c h) ∙ plan_is es made c small ∙ ap (plan_from es c) is))
        (by_mark (nat_le (column_mark es c) e.suffix) (nat_lt e.suffix (column_mark es c)) e.cost (λ no. lt-ltb _ _ (leb-false _ _ no)))

has_from : (es : List Entry) (made : List Sending) (c : ℕ) → HasFrom made c → is_some (find (λ (s : Sending). s.from == c) made) ≡ true
unfolding HasFrom
has_from es made c x = x

pub no_made : (es : List Entry) → Made es []
no_made es = record { receivers = tt; room = λ c load. omega arith }

-- EACH COLUMN'S entries cost at most the capacity
pub column-fits : (es : List Entry) (made : List Sending) (c : ℕ) → sendings es (senders es) [] ≡ Some made → c < 64 → entries_cost (filter (λ (e : Entry). lies (plan_at (plans_of es made) e.column) e == c) es) ≤ capacity
column-fits es made c h small =
    let m = sendings-made es (senders es) [] made h (no_made es) in
    let cost = cost_filter (λ (e : Entry). lies (plan_at (plans_of es made) e.column) e == c) es in
    let most = total-le (λ (e : Entry). cond (lies (plan_at (plans_of es made) e.column) e == c) e.cost 0) (λ (e : Entry). kept (plan_at (plans_of es made) e.column) c e + got es made c e) es (there es made c) in
    let split = total-add (λ (e : Entry). kept (plan_at (plans_of es made) e.column) c e) (got es made c) es in
    let gets = all_got es made c in
    ⊎_elim
    (λ (over : capacity < column_load es c).
    let found = some_found (find (λ (s : Sending). s.from == c) made) (has_from es made c (sender_sends es made c h small (lt-ltb _ _ over))) in
    let keeps = total-le (λ (e : Entry). kept (plan_at (plans_of es made) e.column) c e) (λ (e : Entry). cond (e.column == c) (cond (nat_lt e.suffix (column_mark es c)) e.cost 0) 0) es (λ e. kept_by_sender es made c found.0 e small found.1) in
    let below = below_total es c (column_mark es c) in
    let fits = mark-fits es c in
    let nothing : total (λ (s : Sending). cond (s.to == c) (sent_cost es s.from) 0) made ≡ 0 = total-none (λ (s : Sending). cond (s.to == c) (sent_cost es s.from) 0) made
    (all_weaker (λ (s : Sending). (s.to < 64) × (column_load es s.to ≤ capacity)) (λ (s : Sending). cond (s.to == c) (sent_cost es s.from) 0 ≡ 0)
    (λ s r. ap (λ b. cond b (sent_cost es s.from) 0) (ne_eqb s.to c (λ is. absurd (over_not (column_load es c) over (subst (λ k. column_load es k ≤ capacity) is r.1))))) made m.receivers) in
    omega arith)
    (λ (within : column_load es c ≤ capacity).
    let keeps = total-le (λ (e : Entry). kept (plan_at (plans_of es made) e.column) c e) (λ (e : Entry). cond (e.column == c) e.cost 0) es (λ e. kept-le (e.column == c) (sent_by (plan_at (plans_of es made) e.column) e) e.cost) in
    let load = load_total es c in
    let room = m.room c within in
    omega arith)
    (cases_lt capacity (column_load es c))
  where
    over_not : (n : ℕ) → capacity < n → n ≤ capacity → ⊥
    over_not n a b = omega arith
