-- What a push and a pop make of the free numbers.
use Rattle.std.proofs.Common.{◌≡◌, ℕ, ◌+◌, ◌<◌, ◌≤◌, ◌^◌, refl, sym, ap, subst, ◌∙◌, List, [], ◌∷◌, ◌++◌, length, drop, set, Bool, true, false, not, cond, arith, ⊎_elim}
use Rattle.std.specs.Prelude.{◌==◌, IsTrue, nat_le, count_by, ◌&&◌, ◌||◌, ◌≢◌}
use Rattle.std.proofs.lemmas.List.{length-set, get_or-set_same, get_or-set_other, get_or_past, length_push, append_assoc, append-nil}
use Rattle.std.proofs.lemmas.List.Elements.{All-nil, All-push}
use Rattle.std.proofs.lemmas.List.Quantifiers.{all_pairs_push}
use Rattle.std.proofs.lemmas.List.Sums.{sum_by_push, sum_by-set, count_by-le-length}
use Rattle.std.proofs.lemmas.Bool.{cases_eq, cases_lt, eq-eqb, ne_eqb, le-leb, true≢false, and_parts, not-true}
use Rattle.lt_terms.specs.Bytes.{is_in}
use Rattle.lt_terms.proofs.AmongLaws.{in_at}
use Rattle.lt_alloc.specs.Extents.{is_free, free_count, Reserves}
use Rattle.lt_alloc.specs.Stack.{IsStack}

abbrev copies : ℕ → List ℕ → ℕ
copies n numbers = count_by (λ m. m == n) numbers

copies_push : (n x : ℕ) (numbers : List ℕ) → copies n (numbers ++ x ∷ []) ≡ copies n numbers + cond (x == n) 1 0
copies_push n x numbers = sum_by_push (λ m. cond (m == n) 1 0) numbers x

-- a free number is the number of an extent
pub is_free-within : (taken : List Bool) (n : ℕ) → is_free taken n ≡ true → n < length taken
is_free-within taken n free = ⊎_elim
    (λ (below : n < length taken). below)
    (λ (past : length taken ≤ n). absurd (true≢false (sym free ∙ ap not (get_or_past taken n true past))))
    (cases_lt n (length taken))

one_if : (b : Bool) (n : ℕ) → n + 1 ≡ cond b 1 0 → (b ≡ true) × (n ≡ 0)
one_if true n h = (refl, omega arith)
one_if false n h = absurd (omega arith)

-- a taken extent more
count_set : (taken : List Bool) (x : ℕ) (b : Bool) → x < length taken → free_count (set taken x b) + cond (is_free taken x) 1 0 ≡ free_count taken + cond (not b) 1 0
count_set taken x b below = sum_by-set (λ (t : Bool). cond (not t) 1 0) taken x b true below

pub record Pops (taken : List Bool) (rest : List ℕ) (capacity x : ℕ) : Type 0 where
  pub free : is_free taken x ≡ true
  pub stack : IsStack (set taken x true) rest capacity

pub IsStack-pop : (taken : List Bool) (numbers rest : List ℕ) (capacity x : ℕ) → IsStack taken numbers capacity → numbers ≡ rest ++ x ∷ [] → Pops taken rest capacity x
IsStack-pop taken numbers rest capacity x stack is =
    let many : copies x rest + 1 ≡ cond (is_free taken x) 1 0 = ap (λ k. copies x rest + cond k 1 0) (sym (eq-eqb x x refl)) ∙ sym (copies_push x x rest) ∙ ap (copies x) (sym is) ∙ stack.each x in
    let one = one_if (is_free taken x) (copies x rest) many in
    let below = is_free-within taken x one.0 in
    record {
      free = one.0;
      stack = record {
        each = λ n. ⊎_elim
            (λ (same : x ≡ n). subst (λ k. copies k rest ≡ cond (is_free (set taken x true) k) 1 0) same (one.1 ∙ ap (λ b. cond (not b) 1 0) (sym (get_or-set_same taken x true true below))))
            (λ (other : x ≡ n → ⊥).
            (let z : copies n rest ≡ copies n rest + 0 = omega arith in z)
            ∙ ap (λ b. copies n rest + cond b 1 0) (sym (ne_eqb x n other))
            ∙ sym (copies_push n x rest) ∙ ap (copies n) (sym is) ∙ stack.each n
            ∙ ap (λ b. cond (not b) 1 0) (sym (get_or-set_other taken x n true true (λ back. other (sym back)))))
            (cases_eq x n);
        len =
            let long : length rest + 1 ≡ free_count taken = sym (length_push rest x) ∙ ap length (sym is) ∙ stack.len in
            let count : free_count (set taken x true) + 1 ≡ free_count taken + 0 = ap (λ b. free_count (set taken x true) + cond b 1 0) (sym one.0) ∙ count_set taken x true below in
            omega arith;
        room = let len = length-set taken x true in let room = stack.room in omega arith;
        few = let len = length-set taken x true in let few = stack.few in omega arith;
      };
    }

-- a taken extent leaves room on the stack
pub free_count-short : (taken : List Bool) (x : ℕ) → x < length taken → is_free taken x ≡ false → free_count taken + 1 ≤ length taken
free_count-short taken x below is_taken =
    let count : free_count (set taken x false) + 0 ≡ free_count taken + 1 = ap (λ b. free_count (set taken x false) + cond b 1 0) (sym is_taken) ∙ count_set taken x false below in
    let most = count_by-le-length not (set taken x false) in
    let len = length-set taken x false in
    omega arith

-- ---- the stack at the start

-- the free numbers from c on
pub record IsStackFrom (taken : List Bool) (c : ℕ) (numbers : List ℕ) : Type 0 where
  pub each : (n : ℕ) → copies n numbers ≡ cond (nat_le c n && is_free taken n) 1 0
  pub len : length numbers ≡ free_count (drop c taken)

pub IsStackFrom-whole : (taken : List Bool) (numbers : List ℕ) (capacity : ℕ) → IsStackFrom taken 0 numbers → length taken ≤ capacity → length taken < 2 ^ 32 → IsStack taken numbers capacity
IsStackFrom-whole taken numbers capacity stack room few = record {
  each = λ n. stack.each n ∙ ap (λ b. cond (b && is_free taken n) 1 0) (le-leb 0 n (omega arith));
  len = stack.len;
  room = room;
  few = few;
}

-- ---- what is reserved

among_push : (n x : ℕ) (numbers : List ℕ) → is_in n (numbers ++ x ∷ []) ≡ (is_in n numbers || (x == n))
among_push n x [] = or_false (x == n)
  where
    or_false : (b : Bool) → (b || false) ≡ (false || b)
    or_false true = refl
    or_false false = refl
among_push n x (m ∷ numbers) = ap (λ b. (m == n) || b) (among_push n x numbers) ∙ or_assoc (m == n) (is_in n numbers) (x == n)
  where
    or_assoc : (a b c : Bool) → (a || (b || c)) ≡ ((a || b) || c)
    or_assoc true b c = refl
    or_assoc false b c = refl

pub Reserves-none : (old : List Bool) (before : List ℕ) → Reserves 0 old old before before
Reserves-none old before = record {
  numbers = [];
  appended = sym (append-nil before);
  len = refl;
  were_free = All-nil (λ n. IsTrue (is_free old n));
  differ = λ i j d low below. absurd (omega arith);
  same_extents = refl;
  others_stay = λ n. and_true (is_free old n);
}
  where
    and_true : (b : Bool) → b ≡ (b && true)
    and_true true = refl
    and_true false = refl

-- one more
pub Reserves-more : (count : ℕ) (old was new : List Bool) (before after more : List ℕ) (x : ℕ) → Reserves count old was before after → is_free was x ≡ true → new ≡ set was x true → more ≡ after ++ x ∷ [] → Reserves (count + 1) old new before more
Reserves-more count old was new before after more x r free new_is more_is =
    let below = is_free-within was x free in
    let both = and_parts (is_free old x) (not (is_in x r.numbers)) (sym (r.others_stay x) ∙ free) in
    let fresh = not-true (is_in x r.numbers) both.1 in
    record {
      numbers = r.numbers ++ x ∷ [];
      appended = more_is ∙ ap (λ xs. xs ++ x ∷ []) r.appended ∙ append_assoc before r.numbers (x ∷ []);
      len = length_push r.numbers x ∙ ap (λ k. k + 1) r.len;
      were_free = All-push (λ n. IsTrue (is_free old n)) r.numbers x r.were_free both.0;
      differ = all_pairs_push ◌≢◌ r.numbers x r.differ (λ k d small same. true≢false (sym (in_at r.numbers k d small) ∙ ap (λ y. is_in y r.numbers) same ∙ fresh));
      same_extents = ap length new_is ∙ length-set was x true ∙ r.same_extents;
      others_stay = λ n. ap (λ ts. is_free ts n) new_is ∙ ⊎_elim
          (λ (same : x ≡ n). subst (λ k. is_free (set was x true) k ≡ (is_free old k && not (is_in k (r.numbers ++ x ∷ [])))) same
          (ap not (get_or-set_same was x true true below)
          ∙ sym (ap (λ b. is_free old x && not b) (among_push x x r.numbers ∙ ap (λ b. is_in x r.numbers || b) (eq-eqb x x refl) ∙ or_true (is_in x r.numbers)) ∙ and_false (is_free old x))))
          (λ (other : x ≡ n → ⊥).
          ap not (get_or-set_other was x n true true (λ back. other (sym back)))
          ∙ r.others_stay n
          ∙ ap (λ b. is_free old n && not b) (sym (among_push n x r.numbers ∙ ap (λ b. is_in n r.numbers || b) (ne_eqb x n other) ∙ or_false (is_in n r.numbers))))
          (cases_eq x n);
    }
  where
    or_true : (b : Bool) → (b || true) ≡ true
    or_true true = refl
    or_true false = refl

    or_false : (b : Bool) → (b || false) ≡ b
    or_false true = refl
    or_false false = refl

    and_false : (b : Bool) → (b && false) ≡ false
    and_false true = refl
    and_false false = refl

-- so many are reserved, and as many fewer are free
pub record IsReserving (count : ℕ) (old now : List Bool) (before after : List ℕ) : Type 0 where
  pub reserved : Reserves count old now before after
  pub fewer : free_count now + count ≡ free_count old

pub IsReserving-none : (old : List Bool) (before : List ℕ) → IsReserving 0 old old before before
IsReserving-none old before = record { reserved = Reserves-none old before; fewer = omega arith }

pub IsReserving-more : (count : ℕ) (old was new : List Bool) (before after more : List ℕ) (x : ℕ) → IsReserving count old was before after → is_free was x ≡ true → new ≡ set was x true → more ≡ after ++ x ∷ [] → IsReserving (count + 1) old new before more
IsReserving-more count old was new before after more x r free new_is more_is = record {
  reserved = Reserves-more count old was new before after more x r.reserved free new_is more_is;
  fewer =
      let below = is_free-within was x free in
      let one : free_count (set was x true) + 1 ≡ free_count was + 0 = ap (λ b. free_count (set was x true) + cond b 1 0) (sym free) ∙ count_set was x true below in
      let fewer = r.fewer in
      ap (λ ts. free_count ts + (count + 1)) new_is ∙ (let same : free_count (set was x true) + (count + 1) ≡ free_count old = omega arith in same);
}
