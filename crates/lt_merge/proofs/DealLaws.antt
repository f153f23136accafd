-- Items are dealt one after another.
use Rattle.std.proofs.Common.{◌≡◌, ◌≢◌, ℕ, zero, suc, ◌+◌, ◌<◌, ◌≤◌, refl, sym, ap, subst, ◌∙◌, List, [], ◌∷◌, ◌++◌, length, map, take, get_or, set, Bool, true, false, cond, arith, inl, inr, ◌⊎◌, length-append}
use Rattle.std.specs.Prelude.{◌==◌, slice_index}
use Rattle.std.specs.List.{range_with_len}
use Rattle.std.proofs.lemmas.Bool.{cases_Bool, eq-eqb, eqb-true, eqb-false}
use Rattle.std.proofs.lemmas.List.{append-nil, append_assoc, length-map, map-append, map-set, take_more, get_or-map, get_or-append-add, get_or_append_left}
use Rattle.std.proofs.Math.Seq.{map-set_same}
use Rattle.std.proofs.lemmas.List.FromFn.{map-range_with_len_more, get_or-map-range_with_len}
use Rattle.std.proofs.lemmas.List.Elements.{filter-append}
use Rattle.lt_terms.specs.Hashes.{key_digit}
use Rattle.lt_terms.specs.Items.{Item}
use Rattle.lt_tables.specs.Table.{with_digit}
use Rattle.lt_merge.specs.Dealing.{AreDealt}

-- ---- one item more

-- of the lists by digit the one of this digit grows, and the others stay
set-numbered : {A : Type 0} (f h : ℕ → A) (from n i : ℕ) (y : A) → i < n → h (from + i) ≡ y → ((d : ℕ) → d ≢ from + i → f d ≡ h d) → set (map f (range_with_len from n)) i y ≡ map h (range_with_len from n)
set-numbered f h from zero i y small is others = absurd (omega arith)
set-numbered f h from (suc n) zero y small is others =
    let here : h from ≡ y = ap h (omega arith) ∙ is in
    λ i. sym here i ∷ same (from + 1) n (λ d above. others d (λ e. absurd (omega arith))) i
  where
    same : (from n : ℕ) → ((d : ℕ) → from ≤ d → f d ≡ h d) → map f (range_with_len from n) ≡ map h (range_with_len from n)
    same from zero each = refl
    same from (suc n) each = λ i. each from (omega arith) i ∷ same (from + 1) n (λ d above. each d (omega arith)) i
set-numbered f h from (suc n) (suc i) y small is others =
    let first : f from ≡ h from = others from (λ e. absurd (omega arith)) in
    let rest : set (map f (range_with_len (from + 1) n)) i y ≡ map h (range_with_len (from + 1) n) =
    set-numbered f h (from + 1) n i y (omega arith) (ap h (omega arith) ∙ is) (λ d other. others d (λ e. other (omega arith))) in
    λ j. first j ∷ rest j

with_digit-more : (level d : ℕ) (done : List Item) (x : Item) (rest : List Item) → with_digit level d (done ++ x ∷ rest) ≡ with_digit level d done ++ cond (key_digit x.key level == d) (x ∷ with_digit level d rest) (with_digit level d rest)
with_digit-more level d done x rest = filter-append (λ (v : Item). key_digit v.key level == d) done (x ∷ rest)

with_digit-here : (level : ℕ) (done : List Item) (x : Item) → with_digit level (key_digit x.key level) (done ++ x ∷ []) ≡ with_digit level (key_digit x.key level) done ++ x ∷ []
with_digit-here level done x =
    with_digit-more level (key_digit x.key level) done x []
    ∙ ap (λ b. with_digit level (key_digit x.key level) done ++ cond b (x ∷ []) []) (eq-eqb (key_digit x.key level) (key_digit x.key level) refl)

with_digit-other : (level d : ℕ) (done : List Item) (x : Item) → d ≢ key_digit x.key level → with_digit level d (done ++ x ∷ []) ≡ with_digit level d done
with_digit-other level d done x other = elim (cases_Bool (key_digit x.key level == d)) [
  | inl same ↦ absurd (other (sym (eqb-true (key_digit x.key level) d same)))
  | inr differs ↦ with_digit-more level d done x [] ∙ ap (λ b. with_digit level d done ++ cond b (x ∷ []) []) differs ∙ append-nil (with_digit level d done)
]

-- ---- the lists of the digits

-- the items so far were dealt, and the others are still to come
pub record IsDealing (level : ℕ) (all rest : List Item) (lists : List (List Item)) (rooms : List ℕ) : Type 0 where
  pub done : List Item
  pub split : all ≡ done ++ rest
  pub dealt : AreDealt level done all lists rooms

-- empty lists for the first n digits
pub record AreRooms (level : ℕ) (all : List Item) (n : ℕ) (lists : List (List Item)) (rooms : List ℕ) : Type 0 where
  pub parts : lists ≡ map (λ d. with_digit level d []) (range_with_len 0 n)
  pub count : length rooms ≡ n
  pub room : (d : ℕ) → d < n → length (with_digit level d all) ≤ slice_index rooms d

pub rooms-none : (level : ℕ) (all : List Item) → AreRooms level all 0 [] []
rooms-none level all = record { parts = refl; count = refl; room = λ d small. absurd (omega arith) }

-- a list for one digit more
pub rooms-more : (level : ℕ) (all : List Item) (n : ℕ) (lists : List (List Item)) (rooms : List ℕ) (room : ℕ) → length (with_digit level n all) ≤ room → AreRooms level all n lists rooms → AreRooms level all (n + 1) (lists ++ [] ∷ []) (rooms ++ room ∷ [])
rooms-more level all n lists rooms room enough are = record {
  parts = ap (λ xs. xs ++ [] ∷ []) are.parts ∙ sym (map-range_with_len_more (λ d. with_digit level d []) 0 n n (omega arith));
  count = length-append rooms (room ∷ []) ∙ ap (λ k. k + 1) are.count;
  room = λ d small. by_digit d small (cases_Bool (d == n));
}
  where
    by_digit : (d : ℕ) → d < n + 1 → ((d == n) ≡ true) ⊎ ((d == n) ≡ false) → length (with_digit level d all) ≤ slice_index (rooms ++ room ∷ []) d
    by_digit d small (inl same) =
        let is : d ≡ n = eqb-true d n same in
        let there : slice_index (rooms ++ room ∷ []) d ≡ room = ap (slice_index (rooms ++ room ∷ [])) (is ∙ sym are.count ∙ omega arith) ∙ get_or-append-add rooms (room ∷ []) 0 0 in
        let wants : length (with_digit level d all) ≡ length (with_digit level n all) = ap (λ k. length (with_digit level k all)) is in
        omega arith
    by_digit d small (inr other) =
        let differs : d ≢ n = eqb-false d n other in
        let below : d < length rooms = omega (arith, are.count) in
        let there : slice_index (rooms ++ room ∷ []) d ≡ slice_index rooms d = get_or_append_left rooms (room ∷ []) 0 d below in
        let enough = are.room d (omega arith) in
        omega arith

pub deals-begin : (level : ℕ) (all rest : List Item) (lists : List (List Item)) (rooms : List ℕ) → rest ≡ all → AreDealt level [] all lists rooms → IsDealing level all rest lists rooms
deals-begin level all rest lists rooms same are = record { done = []; split = sym same; dealt = are }

-- the list of an item's digit has room for it
pub deals-fit : (level : ℕ) (all rest after : List Item) (x : Item) (lists : List (List Item)) (rooms : List ℕ) (digit : ℕ) → rest ≡ x ∷ after → digit ≡ key_digit x.key level → digit < 8 → (is : IsDealing level all rest lists rooms)
    → length (get_or lists digit []) < slice_index rooms digit
deals-fit level all rest after x lists rooms digit cut at small is =
    let list : get_or lists digit [] ≡ with_digit level digit is.done = ap (λ ls. get_or ls digit []) is.dealt.parts ∙ get_or-map-range_with_len (λ d. with_digit level d is.done) 0 8 digit digit [] small (omega arith) in
    let whole : with_digit level digit all ≡ with_digit level digit is.done ++ (x ∷ with_digit level digit after) =
    ap (with_digit level digit) (is.split ∙ ap (λ r. is.done ++ r) cut) ∙ with_digit-more level digit is.done x after
    ∙ ap (λ b. with_digit level digit is.done ++ cond b (x ∷ with_digit level digit after) (with_digit level digit after)) (eq-eqb (key_digit x.key level) digit (sym at)) in
    let enough = is.dealt.room digit small in
    let counts = ap length whole ∙ length-append (with_digit level digit is.done) (x ∷ with_digit level digit after) in
    let own = ap length list in
    omega arith

-- one item was dealt
pub deals-more : (level : ℕ) (all rest after : List Item) (x : Item) (lists : List (List Item)) (rooms : List ℕ) (digit : ℕ) (list : List Item) → rest ≡ x ∷ after → digit ≡ key_digit x.key level → digit < 8 → list ≡ get_or lists digit [] ++ x ∷ []
    → IsDealing level all rest lists rooms → IsDealing level all after (set lists digit list) rooms
deals-more level all rest after x lists rooms digit list cut at small grown is =
    let old : get_or lists digit [] ≡ with_digit level digit is.done = ap (λ ls. get_or ls digit []) is.dealt.parts ∙ get_or-map-range_with_len (λ d. with_digit level d is.done) 0 8 digit digit [] small (omega arith) in
    let own : with_digit level digit (is.done ++ x ∷ []) ≡ list =
    ap (λ d. with_digit level d (is.done ++ x ∷ [])) at ∙ with_digit-here level is.done x ∙ ap (λ d. with_digit level d is.done ++ x ∷ []) (sym at) ∙ ap (λ l. l ++ x ∷ []) (sym old) ∙ sym grown in
    record {
      done = is.done ++ x ∷ [];
      split = is.split ∙ ap (λ r. is.done ++ r) cut ∙ sym (append_assoc is.done (x ∷ []) after);
      dealt = record {
        parts = ap (λ ls. set ls digit list) is.dealt.parts
            ∙ set-numbered (λ d. with_digit level d is.done) (λ d. with_digit level d (is.done ++ x ∷ [])) 0 8 digit list small (ap (λ d. with_digit level d (is.done ++ x ∷ [])) (omega arith) ∙ own)
            (λ d other. sym (with_digit-other level d is.done x (λ e. other (e ∙ sym at ∙ omega arith))));
        count = is.dealt.count;
        room = is.dealt.room;
      };
    }

-- ---- the same of lists that are seen as lists of items, and as their rooms

-- one empty list more
pub pushed : {A : Type 0} (f : A → List Item) (cap : A → ℕ) (level : ℕ) (all : List Item) (n : ℕ) (old new : List A) (x : A) → new ≡ old ++ x ∷ [] → f x ≡ [] → length (with_digit level n all) ≤ cap x
    → AreRooms level all n (map f old) (map cap old) → AreRooms level all (n + 1) (map f new) (map cap new)
pushed f cap level all n old new x is empty enough are =
    subst (λ xs. AreRooms level all (n + 1) (map f xs) (map cap xs)) (sym is)
    (subst (λ ls. AreRooms level all (n + 1) ls (map cap (old ++ x ∷ []))) (sym (map-append f old (x ∷ []) ∙ ap (λ y. map f old ++ y ∷ []) empty))
    (subst (λ rs. AreRooms level all (n + 1) (map f old ++ [] ∷ []) rs) (sym (map-append cap old (x ∷ []))) (rooms-more level all n (map f old) (map cap old) (cap x) enough are)))

-- lists for all digits are dealt nothing yet
pub rooms-whole : (level : ℕ) (all : List Item) (n : ℕ) (lists : List (List Item)) (rooms : List ℕ) → 8 ≤ n → n ≤ 8 → AreRooms level all n lists rooms → AreDealt level [] all lists rooms
rooms-whole level all n lists rooms high low are =
    let eight : n ≡ 8 = omega arith in
    record {
      parts = are.parts ∙ ap (λ k. map (λ d. with_digit level d []) (range_with_len 0 k)) eight;
      count = are.count ∙ eight;
      room = λ d small. are.room d (omega arith);
    }

-- the list of an item's digit is there
pub dealt-within : {A : Type 0} (cap : A → ℕ) (level : ℕ) (all rest : List Item) (lists : List (List Item)) (xs : List A) (digit : ℕ) → digit < 8 → IsDealing level all rest lists (map cap xs) → digit < length xs
dealt-within cap level all rest lists xs digit small is = omega (arith, is.dealt.count, length-map xs cap)

-- and has room for it
pub dealt-fits : {A : Type 0} (f : A → List Item) (cap : A → ℕ) (level : ℕ) (all rest after : List Item) (item : Item) (xs : List A) (digit : ℕ) (x : A) → rest ≡ item ∷ after → digit ≡ key_digit item.key level → digit < 8 → x ≡ get_or xs digit x
    → IsDealing level all rest (map f xs) (map cap xs) → length (f x) < cap x
dealt-fits f cap level all rest after item xs digit x cut at small here is =
    let within : digit < length xs = dealt-within cap level all rest (map f xs) xs digit small is in
    let list : get_or (map f xs) digit [] ≡ f x = get_or-map f xs digit x [] within ∙ ap f (sym here) in
    let room : slice_index (map cap xs) digit ≡ cap x = get_or-map cap xs digit x 0 within ∙ ap cap (sym here) in
    let fits = deals-fit level all rest after item (map f xs) (map cap xs) digit cut at small is in
    let counts = ap length list in
    omega arith

-- one item was dealt to it
pub dealt-more : {A : Type 0} (f : A → List Item) (cap : A → ℕ) (level : ℕ) (all rest after : List Item) (item : Item) (xs now : List A) (digit : ℕ) (x y : A) → rest ≡ item ∷ after → digit ≡ key_digit item.key level → digit < 8 → x ≡ get_or xs digit x
    → f y ≡ f x ++ item ∷ [] → cap y ≡ cap x → now ≡ set xs digit y → IsDealing level all rest (map f xs) (map cap xs) → IsDealing level all after (map f now) (map cap now)
dealt-more f cap level all rest after item xs now digit x y cut at small here grown same now_is is =
    let within : digit < length xs = dealt-within cap level all rest (map f xs) xs digit small is in
    let list : get_or (map f xs) digit [] ≡ f x = get_or-map f xs digit x [] within ∙ ap f (sym here) in
    let rooms : map cap (set xs digit y) ≡ map cap xs = map-set_same cap xs digit y x (same ∙ ap cap here) in
    subst (λ zs. IsDealing level all after (map f zs) (map cap zs)) (sym now_is)
    (subst (λ rs. IsDealing level all after (map f (set xs digit y)) rs) (sym rooms)
    (subst (λ ls. IsDealing level all after ls (map cap xs)) (sym (map-set f xs digit y))
    (deals-more level all rest after item (map f xs) (map cap xs) digit (f y) cut at small (grown ∙ ap (λ l. l ++ item ∷ []) (sym list)) is)))

-- all were dealt
pub dealt-all : (level : ℕ) (all rest : List Item) (lists : List (List Item)) (rooms : List ℕ) → rest ≡ [] → IsDealing level all rest lists rooms → lists ≡ map (λ d. with_digit level d all) (range_with_len 0 8)
dealt-all level all rest lists rooms none is =
    let whole : is.done ≡ all = sym (is.split ∙ ap (λ r. is.done ++ r) none ∙ append-nil is.done) in
    is.dealt.parts ∙ ap (λ xs. map (λ d. with_digit level d xs) (range_with_len 0 8)) whole

-- ---- counting

pub count-more : (level digit : ℕ) (items : List Item) (i : ℕ) (x : Item) → i < length items → x ≡ get_or items i x → length (with_digit level digit (take (i + 1) items)) ≡ cond (key_digit x.key level == digit) (length (with_digit level digit (take i items)) + 1) (length (with_digit level digit (take i items)))
count-more level digit items i x small is =
    ap (λ xs. length (with_digit level digit xs)) (take_more items i x small ∙ ap (λ y. take i items ++ y ∷ []) (sym is))
    ∙ ap length (with_digit-more level digit (take i items) x [])
    ∙ by_test (key_digit x.key level == digit)
  where
    by_test : (b : Bool) → length (with_digit level digit (take i items) ++ cond b (x ∷ []) []) ≡ cond b (length (with_digit level digit (take i items)) + 1) (length (with_digit level digit (take i items)))
    by_test true = length-append (with_digit level digit (take i items)) (x ∷ [])
    by_test false = ap length (append-nil (with_digit level digit (take i items)))
