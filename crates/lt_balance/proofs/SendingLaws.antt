-- The order of the senders, the rooms and the receivers, read off the columns.
use Rattle.std.proofs.Common.{◌≡◌, ℕ, zero, suc, ◌+◌, ◌-◌, ◌<◌, ◌≤◌, refl, sym, ap, subst, ◌∙◌, List, [], ◌∷◌, ◌++◌, length, take, drop, get_or, set, Bool, true, false, cond, Option, Some, None, arith, ⊎_elim}
use Rattle.std.specs.Prelude.{◌==◌, nat_le, insert}
use Rattle.std.specs.List.{filter, range_with_len, All, AllByRecursion}
use Rattle.std.specs.Option.{option_and_then, ForSome}
use Rattle.std.proofs.lemmas.List.{drop_more, drop_all, length_push, length-set, get_or-set_same, get_or-set_other}
use Rattle.std.proofs.lemmas.List.Sums.{sum_by_push}
use Rattle.std.proofs.lemmas.List.Elements.{All-cons, All-append, All-take, All-drop, All-same}
use Rattle.std.proofs.lemmas.Option.{none-some}
use Rattle.std.proofs.lemmas.Bool.{cases_eq, eq-eqb, ne_eqb, le-leb, lt-leb, lt-ltb, le-ltb}
use Rattle.lt_tables.specs.declared.Entry.{Entry}
use Rattle.lt_tables.specs.declared.Sending.{Sending}
use Rattle.lt_tables.specs.Bucket.{capacity}
use Rattle.lt_tables.specs.Placement.{columns, column_load, sent_cost, is_sender, put_by_load, by_load, senders, receivers, room, better, best, sendings}
use Rattle.lt_balance.specs.declared.columns.Column.{Column}
use Rattle.lt_balance.specs.Columns.{no_column, AreColumns, AreRooms}

-- ---- the order of the senders

abbrev load_at : List Column → ℕ → ℕ
load_at cols c = (get_or cols c no_column).load

pub load_is : (es : List Entry) (cols : List Column) (c : ℕ) → AreColumns es cols → c < 64 → load_at cols c ≡ column_load es c
load_is es cols c are small = ap (λ (column : Column). column.load) (are.each c small)

-- a column stands before the first that has no more load
put_by_load-at : (es : List Entry) (c : ℕ) (order : List ℕ) (at : ℕ) → at ≤ length order
    → ((k : ℕ) → k < at → column_load es c < column_load es (get_or order k 0))
    → (at < length order → column_load es (get_or order at 0) ≤ column_load es c)
    → insert order at c ≡ put_by_load es c order
put_by_load-at es c [] zero within more less = refl
put_by_load-at es c [] (suc at) within more less = absurd (omega arith)
put_by_load-at es c (d ∷ ds) zero within more less = sym (ap (λ b. cond b (c ∷ d ∷ ds) (d ∷ put_by_load es c ds)) (le-leb (column_load es d) (column_load es c) (less (omega arith))))
put_by_load-at es c (d ∷ ds) (suc at) within more less =
    ap (λ xs. d ∷ xs) (put_by_load-at es c ds at (omega arith) (λ k h. more (suc k) (omega arith)) (λ h. less (omega arith)))
    ∙ sym (ap (λ b. cond b (c ∷ d ∷ ds) (d ∷ put_by_load es c ds)) (lt-leb (column_load es d) (column_load es c) (more 0 (omega arith))))

-- the same, read off the columns
pub insert-by_load : (es : List Entry) (cols : List Column) (order : List ℕ) (c at : ℕ) → AreColumns es cols → c < 64 → All (λ d. d < 64) order → at ≤ length order
    → ((k : ℕ) → k < at → load_at cols c < load_at cols (get_or order k 0))
    → (at < length order → load_at cols (get_or order at 0) ≤ load_at cols c)
    → insert order at c ≡ put_by_load es c order
insert-by_load es cols order c at are small all within more less =
    let own = load_is es cols c are small in
    put_by_load-at es c order at within
    (λ k h. let other = load_is es cols (get_or order k 0) are (all k 0 (omega arith)) in let m = more k h in omega arith)
    (λ h. let other = load_is es cols (get_or order at 0) are (all at 0 h) in let l = less h in omega arith)

-- the columns from c on
abbrev pub columns_from : ℕ → List ℕ
columns_from c = range_with_len c (64 - c)

-- the senders among the columns from c on are in order
pub record IsOrder (cols : List Column) (c : ℕ) (order : List ℕ) : Type 0 where
  pub few : length order + c ≤ 64
  pub small : All (λ d. d < 64) order
  pub sorted : (es : List Entry) → AreColumns es cols → order ≡ by_load es (filter (is_sender es) (columns_from c))

one_more : (c : ℕ) → 0 < c → c ≤ 64 → columns_from (c - 1) ≡ (c - 1) ∷ columns_from c
one_more c some within =
    let many : 64 - (c - 1) ≡ suc (64 - c) = omega arith in
    let next : (c - 1) + 1 ≡ c = omega arith in
    ap (λ n. range_with_len (c - 1) n) many ∙ ap (λ k. (c - 1) ∷ range_with_len k (64 - c)) next

pub IsOrder-takes : (cols : List Column) (c : ℕ) (order new : List ℕ) (at : ℕ) → IsOrder cols c order → 0 < c → c ≤ 64 → capacity < load_at cols (c - 1) → at ≤ length order → new ≡ insert order at (c - 1) → length new ≡ length order + 1
    → ((es : List Entry) → AreColumns es cols → insert order at (c - 1) ≡ put_by_load es (c - 1) order) → IsOrder cols (c - 1) new
IsOrder-takes cols c order new at is some within more place new_is long put =
    let all : All (λ d. d < 64) (insert order at (c - 1)) = All-append (λ d. d < 64) (take at order) ((c - 1) ∷ drop at order) (All-take (λ d. d < 64) at order is.small) (All-cons (λ d. d < 64) (c - 1) (drop at order) (omega arith) (All-drop (λ d. d < 64) at order is.small)) in
    record {
      few = let few = is.few in omega arith;
      small = All-same (λ d. d < 64) new (insert order at (c - 1)) new_is all;
      sorted = λ es are.
          let load = load_is es cols (c - 1) are (omega arith) in
          new_is ∙ put es are ∙ ap (λ ds. put_by_load es (c - 1) ds) (is.sorted es are)
          ∙ sym (ap (λ cs. by_load es (filter (is_sender es) cs)) (one_more c some within)
          ∙ ap (λ b. by_load es (cond b ((c - 1) ∷ filter (is_sender es) (columns_from c)) (filter (is_sender es) (columns_from c)))) (lt-ltb capacity (column_load es (c - 1)) (omega arith)));
    }

pub IsOrder-keeps : (cols : List Column) (c : ℕ) (order : List ℕ) → IsOrder cols c order → 0 < c → c ≤ 64 → load_at cols (c - 1) ≤ capacity → IsOrder cols (c - 1) order
IsOrder-keeps cols c order is some within fits = record {
  few = let few = is.few in omega arith;
  small = is.small;
  sorted = λ es are.
      let load = load_is es cols (c - 1) are (omega arith) in
      is.sorted es are
      ∙ sym (ap (λ cs. by_load es (filter (is_sender es) cs)) (one_more c some within)
      ∙ ap (λ b. by_load es (cond b ((c - 1) ∷ filter (is_sender es) (columns_from c)) (filter (is_sender es) (columns_from c)))) (le-ltb capacity (column_load es (c - 1)) (omega arith)));
}

pub IsOrder-whole : (es : List Entry) (cols : List Column) (order : List ℕ) → IsOrder cols 0 order → AreColumns es cols → order ≡ senders es
unfolding columns
IsOrder-whole es cols order is are = is.sorted es are

-- ---- rooms

-- nothing is sent yet
pub AreRooms-start : (es : List Entry) (cols : List Column) (rooms : List ℕ) → AreColumns es cols → length rooms ≡ 64 → ((k : ℕ) → k < 64 → get_or rooms k 0 ≡ capacity - load_at cols k) → AreRooms es [] rooms
unfolding room
AreRooms-start es cols rooms are long all = record {
  len = long;
  each = λ c small. all c small ∙ (let load = load_is es cols c are small in let same : capacity - load_at cols c ≡ capacity - column_load es c - 0 = omega arith in same);
}

-- ---- receivers

abbrev may_receive : List Column → ℕ → Bool
may_receive cols c = nat_le (load_at cols c) capacity

-- the best receiver among the columns from c on
pub record IsBest (cols : List Column) (rooms : List ℕ) (c : ℕ) (found : Option ℕ) : Type 0 where
  pub small : ForSome found (λ c. c < 64)
  pub is : found ≡ best (λ c. get_or rooms c 0) (filter (may_receive cols) (columns_from c))

abbrev pub best_from : List Column → List ℕ → ℕ → Option ℕ
best_from cols rooms c = best (λ k. get_or rooms k 0) (filter (may_receive cols) (columns_from c))

best_step : (cols : List Column) (rooms : List ℕ) (c : ℕ) (b : Bool) → 0 < c → c ≤ 64 → may_receive cols (c - 1) ≡ b → best_from cols rooms (c - 1) ≡ cond b (better (λ k. get_or rooms k 0) (c - 1) (best_from cols rooms c)) (best_from cols rooms c)
best_step cols rooms c b some within is =
    ap (λ cs. best (λ k. get_or rooms k 0) (filter (may_receive cols) cs)) (one_more c some within)
    ∙ ap (λ b. best (λ k. get_or rooms k 0) (cond b ((c - 1) ∷ filter (may_receive cols) (columns_from c)) (filter (may_receive cols) (columns_from c)))) is
    ∙ by_test b
  where
    by_test : (b : Bool) → best (λ k. get_or rooms k 0) (cond b ((c - 1) ∷ filter (may_receive cols) (columns_from c)) (filter (may_receive cols) (columns_from c))) ≡ cond b (better (λ k. get_or rooms k 0) (c - 1) (best_from cols rooms c)) (best_from cols rooms c)
    by_test true = refl
    by_test false = refl

pub IsBest-takes : (cols : List Column) (rooms : List ℕ) (c : ℕ) (found : Option ℕ) (new : ℕ) → IsBest cols rooms c found → 0 < c → c ≤ 64 → load_at cols (c - 1) ≤ capacity → new < 64 → Some new ≡ better (λ k. get_or rooms k 0) (c - 1) found → IsBest cols rooms (c - 1) (Some new)
IsBest-takes cols rooms c found new was some within fits small is = record {
  small = λ k same. let e : new ≡ k = cc in omega arith;
  is = is ∙ ap (λ o. better (λ k. get_or rooms k 0) (c - 1) o) was.is ∙ sym (best_step cols rooms c true some within (le-leb (load_at cols (c - 1)) capacity fits));
}

pub IsBest-keeps : (cols : List Column) (rooms : List ℕ) (c : ℕ) (found : Option ℕ) → IsBest cols rooms c found → 0 < c → c ≤ 64 → capacity < load_at cols (c - 1) → IsBest cols rooms (c - 1) found
IsBest-keeps cols rooms c found was some within full = record {
  small = was.small;
  is = was.is ∙ sym (best_step cols rooms c false some within (lt-leb (load_at cols (c - 1)) capacity full));
}

-- worths that are the same at each number choose the same one of them
chosen_alike : (f g : ℕ → ℕ) (P : ℕ → Type 0) (same : (c : ℕ) → P c → f c ≡ g c) (cs : List ℕ) → AllByRecursion P cs → (best f cs ≡ best g cs) × ((d : ℕ) → best f cs ≡ Some d → P d)
chosen_alike f g P same [] all = (refl, λ d is. absurd (none-some d is))
chosen_alike f g P same (c ∷ cs) all =
    let rest = chosen_alike f g P same cs all.1 in
    let step = by_rest (best f cs) rest.1 in
    (step.0 ∙ ap (better g c) rest.0, step.1)
  where
    some_is : (a b : ℕ) → Some a ≡ Some b → P a → P b
    some_is a b e p = let s : a ≡ b = cc in subst P s p

    by_test : (b : Bool) (d e : ℕ) → P d → P e → cond b (Some d) (Some e) ≡ cond b (Some d) (Some e) → (k : ℕ) → cond b (Some d) (Some e) ≡ Some k → P k
    by_test true d e pd pe _ k is = some_is d k is pd
    by_test false d e pd pe _ k is = some_is e k is pe

    by_rest : (o : Option ℕ) → ((d : ℕ) → o ≡ Some d → P d) → (better f c o ≡ better g c o) × ((d : ℕ) → better f c o ≡ Some d → P d)
    by_rest None holds = (refl, λ d is. some_is c d is all.0)
    by_rest (Some d) holds =
        let pd = holds d refl in
        (ap (λ n. cond (nat_le n (f c)) (Some c) (Some d)) (same d pd) ∙ ap (λ n. cond (nat_le (g d) n) (Some c) (Some d)) (same c all.0), λ k is. by_test (nat_le (f d) (f c)) c d all.0 pd refl k is)

tests_alike : (p q : ℕ → Bool) (P : ℕ → Type 0) (same : (c : ℕ) → P c → p c ≡ q c) (cs : List ℕ) → AllByRecursion P cs → filter p cs ≡ filter q cs
tests_alike p q P same [] all = refl
tests_alike p q P same (c ∷ cs) all = ap (λ b. cond b (c ∷ filter p cs) (filter p cs)) (same c all.0) ∙ ap (λ ds. cond (q c) (c ∷ ds) ds) (tests_alike p q P same cs all.1)

range_small : (a n : ℕ) → a + n ≤ 64 → AllByRecursion (λ c. c < 64) (range_with_len a n)
range_small a zero h = tt
range_small a (suc n) h = (omega arith, range_small (a + 1) n (omega arith))

filter_small : (p : ℕ → Bool) (cs : List ℕ) → AllByRecursion (λ c. c < 64) cs → AllByRecursion (λ c. c < 64) (filter p cs)
filter_small p [] all = tt
filter_small p (c ∷ cs) all = elim (p c) as (λ b. AllByRecursion (λ c. c < 64) (cond b (c ∷ filter p cs) (filter p cs))) [ true ↦ (all.0, filter_small p cs all.1) | false ↦ filter_small p cs all.1 ]

pub IsBest-whole : (es : List Entry) (made : List Sending) (cols : List Column) (rooms : List ℕ) (found : Option ℕ) → IsBest cols rooms 0 found → AreColumns es cols → AreRooms es made rooms → found ≡ best (room es made) (receivers es)
unfolding columns
IsBest-whole es made cols rooms found is are have =
    is.is
    ∙ ap (λ cs. best (λ k. get_or rooms k 0) cs) (tests_alike (may_receive cols) (λ c. nat_le (column_load es c) capacity) (λ c. c < 64) (λ c small. ap (λ n. nat_le n capacity) (load_is es cols c are small)) (columns_from 0) (range_small 0 64 (omega arith)))
    ∙ (chosen_alike (λ k. get_or rooms k 0) (room es made) (λ c. c < 64) have.each (receivers es) (filter_small (λ c. nat_le (column_load es c) capacity) (columns_from 0) (range_small 0 64 (omega arith)))).0

-- ---- the sendings

-- after so many senders these sendings are made, and what the others make follows
pub record IsDealt (cols : List Column) (order : List ℕ) (at : ℕ) (made : List Sending) (rooms : List ℕ) : Type 0 where
  pub long : length made ≡ at
  pub wide : length rooms ≡ 64
  pub rest : (es : List Entry) → AreColumns es cols → sendings es (drop at order) made ≡ sendings es order []
  pub rooms_are : (es : List Entry) → AreColumns es cols → AreRooms es made rooms

abbrev from_there : List Entry → List ℕ → ℕ → List Sending → ℕ → Option (List Sending)
from_there es order at made to = cond (nat_le (sent_cost es (get_or order at 0)) (room es made to)) (sendings es (drop (at + 1) order) (made ++ record { from = get_or order at 0; to = to } ∷ [])) None

-- what the next sender finds
next_sending : (es : List Entry) (order : List ℕ) (at : ℕ) (made : List Sending) (found : Option ℕ) → at < length order → found ≡ best (room es made) (receivers es) → sendings es (drop at order) made ≡ option_and_then (from_there es order at made) found
unfolding sendings
next_sending es order at made found below is = ap (λ cs. sendings es cs made) (drop_more order at 0 below) ∙ ap (λ o. option_and_then (from_there es order at made) o) (sym is)

pub no_receiver : (es : List Entry) (cols : List Column) (order : List ℕ) (at : ℕ) (made : List Sending) (rooms : List ℕ) → IsDealt cols order at made rooms → at < length order → AreColumns es cols → None ≡ best (room es made) (receivers es) → sendings es order [] ≡ None
no_receiver es cols order at made rooms dealt below are is = sym (dealt.rest es are) ∙ next_sending es order at made None below is

abbrev sent_at : List Column → ℕ → ℕ
sent_at cols c = (get_or cols c no_column).sent

sent_is : (es : List Entry) (cols : List Column) (c : ℕ) → AreColumns es cols → c < 64 → sent_at cols c ≡ sent_cost es c
sent_is es cols c are small = ap (λ (column : Column). column.sent) (are.each c small)

pub no_room : (es : List Entry) (cols : List Column) (order : List ℕ) (at : ℕ) (made : List Sending) (rooms : List ℕ) (to : ℕ) → IsDealt cols order at made rooms → at < length order → AreColumns es cols → get_or order at 0 < 64 → to < 64 → Some to ≡ best (room es made) (receivers es) → get_or rooms to 0 < sent_at cols (get_or order at 0) → sendings es order [] ≡ None
no_room es cols order at made rooms to dealt below are from small is full =
    let sent = sent_is es cols (get_or order at 0) are from in
    let room_is = (dealt.rooms_are es are).each to small in
    sym (dealt.rest es are) ∙ next_sending es order at made (Some to) below is
    ∙ ap (λ b. cond b (sendings es (drop (at + 1) order) (made ++ record { from = get_or order at 0; to = to } ∷ [])) None) (lt-leb (sent_cost es (get_or order at 0)) (room es made to) (omega arith))

room_push : (es : List Entry) (made : List Sending) (s : Sending) (c : ℕ) → room es (made ++ s ∷ []) c ≡ room es made c - cond (s.to == c) (sent_cost es s.from) 0
unfolding room
room_push es made s c =
    let more = sum_by_push (λ (s : Sending). cond (s.to == c) (sent_cost es s.from) 0) made s in
    omega arith

rooms_more : (es : List Entry) (made : List Sending) (rooms : List ℕ) (s : Sending) → AreRooms es made rooms → s.to < 64 → AreRooms es (made ++ s ∷ []) (set rooms s.to (get_or rooms s.to 0 - sent_cost es s.from))
rooms_more es made rooms s are small = record {
  len = length-set rooms s.to (get_or rooms s.to 0 - sent_cost es s.from) ∙ are.len;
  each = λ c below. ⊎_elim
      (λ (same : s.to ≡ c).
      let there : s.to < length rooms = let len = are.len in omega arith in
      subst (λ k. get_or (set rooms s.to (get_or rooms s.to 0 - sent_cost es s.from)) k 0 ≡ room es (made ++ s ∷ []) k) same
      (get_or-set_same rooms s.to (get_or rooms s.to 0 - sent_cost es s.from) 0 there
      ∙ ap (λ n. n - sent_cost es s.from) (are.each s.to small)
      ∙ sym (room_push es made s s.to ∙ ap (λ b. room es made s.to - cond b (sent_cost es s.from) 0) (eq-eqb s.to s.to refl))))
      (λ (other : s.to ≡ c → ⊥).
      get_or-set_other rooms s.to c (get_or rooms s.to 0 - sent_cost es s.from) 0 (λ back. other (sym back))
      ∙ are.each c below
      ∙ sym (room_push es made s c ∙ ap (λ b. room es made c - cond b (sent_cost es s.from) 0) (ne_eqb s.to c other) ∙ (let z : room es made c - 0 ≡ room es made c = omega arith in z)))
      (cases_eq s.to c);
}

pub IsDealt-start : (cols : List Column) (order : List ℕ) (rooms : List ℕ) → length rooms ≡ 64 → ((es : List Entry) → AreColumns es cols → AreRooms es [] rooms) → IsDealt cols order 0 [] rooms
IsDealt-start cols order rooms wide are = record { long = refl; wide = wide; rest = λ es is. refl; rooms_are = are }

pub IsDealt-more : (cols : List Column) (order : List ℕ) (at : ℕ) (made new : List Sending) (rooms : List ℕ) (to : ℕ) → IsDealt cols order at made rooms → at < length order → get_or order at 0 < 64 → to < 64
    → ((es : List Entry) → AreColumns es cols → Some to ≡ best (room es made) (receivers es)) → sent_at cols (get_or order at 0) ≤ get_or rooms to 0 → new ≡ made ++ record { from = get_or order at 0; to = to } ∷ []
    → IsDealt cols order (at + 1) new (set rooms to (get_or rooms to 0 - sent_at cols (get_or order at 0)))
IsDealt-more cols order at made new rooms to dealt below from small is fits new_is = record {
  long = ap length new_is ∙ length_push made (record { from = get_or order at 0; to = to }) ∙ ap (λ n. n + 1) dealt.long;
  wide = length-set rooms to (get_or rooms to 0 - sent_at cols (get_or order at 0)) ∙ dealt.wide;
  rest = λ es are.
      let sent = sent_is es cols (get_or order at 0) are from in
      let room_is = (dealt.rooms_are es are).each to small in
      ap (λ xs. sendings es (drop (at + 1) order) xs) new_is
      ∙ sym (next_sending es order at made (Some to) below (is es are)
      ∙ ap (λ b. cond b (sendings es (drop (at + 1) order) (made ++ record { from = get_or order at 0; to = to } ∷ [])) None) (le-leb (sent_cost es (get_or order at 0)) (room es made to) (omega arith)))
      ∙ dealt.rest es are;
  rooms_are = λ es are.
      subst (λ xs. AreRooms es xs (set rooms to (get_or rooms to 0 - sent_at cols (get_or order at 0)))) (sym new_is)
      (subst (λ n. AreRooms es (made ++ record { from = get_or order at 0; to = to } ∷ []) (set rooms to (get_or rooms to 0 - n))) (sym (sent_is es cols (get_or order at 0) are from))
      (rooms_more es made rooms (record { from = get_or order at 0; to = to }) (dealt.rooms_are es are) small));
}

pub IsDealt-whole : (es : List Entry) (cols : List Column) (order : List ℕ) (at : ℕ) (made : List Sending) (rooms : List ℕ) → IsDealt cols order at made rooms → length order ≤ at → AreColumns es cols → sendings es order [] ≡ Some made
unfolding sendings
IsDealt-whole es cols order at made rooms dealt all are = sym (dealt.rest es are) ∙ ap (λ cs. sendings es cs made) (drop_all at order all)
