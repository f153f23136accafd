-- How often a number stands in a list, and what that says of lists without repetition.
use Rattle.std.proofs.Common.{◌≡◌, ℕ, zero, suc, ◌+◌, ◌<◌, ◌≤◌, refl, sym, ap, subst, ◌∙◌, List, [], ◌∷◌, ◌++◌, length, take, drop, Bool, true, false, not, cond, ◌||◌, ◌⊎◌, inl, inr, ⊎_elim, arith, ◌≢◌, get_or}
use Rattle.std.specs.Prelude.{◌==◌, nat_lt}
use Rattle.std.specs.List.{filter, list_all}
use Rattle.std.proofs.lemmas.List.{take-append-drop}
use Rattle.std.proofs.lemmas.Bool.{and_parts, and_from, true≢false, not-true, not_from_false, ltb-true, eqb-true, lt-ltb, eq-eqb, ne_eqb, cases_lt, cases_eq}
use Rattle.lt_terms.specs.Bytes.{is_in}
use Rattle.lt_terms.proofs.AmongLaws.{in_place}
use Rattle.lt_format.specs.Trie.{all_distinct, all_below}

-- how often x stands in the list
abbrev pub times : ℕ → List ℕ → ℕ
times x [] = 0
times x (y ∷ ys) = cond (y == x) 1 0 + times x ys

pub times-append : (x : ℕ) (xs ys : List ℕ) → times x (xs ++ ys) ≡ times x xs + times x ys
times-append x [] ys = omega arith
times-append x (y ∷ xs) ys = omega (arith, times-append x xs ys)

pub times-parts : (x n : ℕ) (xs : List ℕ) → times x (take n xs) + times x (drop n xs) ≡ times x xs
times-parts x n xs = sym (times-append x (take n xs) (drop n xs)) ∙ ap (times x) (take-append-drop n xs)

pub times-absent : (x : ℕ) (xs : List ℕ) → is_in x xs ≡ false → times x xs ≡ 0
times-absent x [] h = refl
times-absent x (y ∷ ys) h = by_head (y == x) (times-absent x ys) h
  where
    by_head : (b : Bool) → (is_in x ys ≡ false → times x ys ≡ 0) → (b || is_in x ys) ≡ false → cond b 1 0 + times x ys ≡ 0
    by_head true rest h = absurd (true≢false h)
    by_head false rest h = omega (arith, rest h)

-- a number that does not stand in the list
pub absent-times : (x : ℕ) (xs : List ℕ) → times x xs ≡ 0 → is_in x xs ≡ false
absent-times x [] h = refl
absent-times x (y ∷ ys) h = by_head (y == x) (absent-times x ys) h
  where
    by_head : (b : Bool) → (times x ys ≡ 0 → is_in x ys ≡ false) → cond b 1 0 + times x ys ≡ 0 → (b || is_in x ys) ≡ false
    by_head true rest h = absurd (omega arith)
    by_head false rest h = rest (omega arith)

-- in a list without repetition each number stands at most once
pub times-distinct : (xs : List ℕ) → all_distinct xs ≡ true → (x : ℕ) → times x xs ≤ 1
times-distinct [] h x = omega arith
times-distinct (y ∷ ys) h x = by_head (y == x) refl (times-distinct ys parts.1 x)
  where
    parts : (not (is_in y ys) ≡ true) × (all_distinct ys ≡ true)
    parts = and_parts (not (is_in y ys)) (all_distinct ys) h

    by_head : (b : Bool) → (y == x) ≡ b → times x ys ≤ 1 → cond b 1 0 + times x ys ≤ 1
    by_head true e few =
        let none : times x ys ≡ 0 = subst (λ z. times z ys ≡ 0) (eqb-true y x e) (times-absent y ys (not-true _ parts.0)) in
        omega arith
    by_head false e few = omega arith

pub distinct-times : (xs : List ℕ) → ((x : ℕ) → times x xs ≤ 1) → all_distinct xs ≡ true
distinct-times [] h = refl
distinct-times (y ∷ ys) h =
    let once : (y == y) ≡ true = eq-eqb y y refl in
    let here = rw once at (h y) in
    and_from (not (is_in y ys)) (all_distinct ys)
    (not_from_false _ (absent-times y ys (omega (arith, here))))
    (distinct-times ys (λ x. omega (arith, h x)))

-- in a list of numbers below n no other number stands
pub times-below : (n : ℕ) (xs : List ℕ) → all_below n xs ≡ true → (x : ℕ) → n ≤ x → times x xs ≡ 0
times-below n [] h x past = refl
times-below n (y ∷ ys) h x past =
    let parts = and_parts (nat_lt y n) (all_below n ys) h in
    let small : y < n = ltb-true y n parts.0 in
    let other : (y == x) ≡ false = ne_eqb y x (λ e. omega arith) in
    let none : times x ys ≡ 0 = times-below n ys parts.1 x past in
    rw other (omega arith)

pub below-times : (n : ℕ) (xs : List ℕ) → ((x : ℕ) → n ≤ x → times x xs ≡ 0) → all_below n xs ≡ true
below-times n [] h = refl
below-times n (y ∷ ys) h =
    let once : (y == y) ≡ true = eq-eqb y y refl in
    let small : y < n = ⊎_elim (λ l. l) (λ past. absurd (let here = rw once at (h y past) in omega (arith, here))) (cases_lt y n) in
    and_from (nat_lt y n) (all_below n ys) (lt-ltb y n small) (below-times n ys (λ x past. omega (arith, h x past)))

-- of numbers that do not stand in another list
pub times-apart : (before xs : List ℕ) → list_all (λ x. not (is_in x before)) xs ≡ true → (x : ℕ) → (times x xs ≡ 0) ⊎ (times x before ≡ 0)
times-apart before [] h x = inl refl
times-apart before (y ∷ ys) h x = by_head (y == x) refl (times-apart before ys parts.1 x)
  where
    parts : (not (is_in y before) ≡ true) × (list_all (λ z. not (is_in z before)) ys ≡ true)
    parts = and_parts (not (is_in y before)) (list_all (λ z. not (is_in z before)) ys) h

    by_head : (b : Bool) → (y == x) ≡ b → (times x ys ≡ 0) ⊎ (times x before ≡ 0) → (cond b 1 0 + times x ys ≡ 0) ⊎ (times x before ≡ 0)
    by_head true e rest = inr (subst (λ z. times z before ≡ 0) (eqb-true y x e) (times-absent y before (not-true _ parts.0)))
    by_head false e rest = ⊎_elim (λ (none : times x ys ≡ 0). inl (omega arith)) inr rest

-- ---- distinct numbers below n are at most n

-- the numbers but one
abbrev pub without : ℕ → List ℕ → List ℕ
without n xs = filter (λ x. not (x == n)) xs

pub length-without : (n : ℕ) (xs : List ℕ) → length xs ≡ length (without n xs) + times n xs
length-without n [] = refl
length-without n (y ∷ ys) = by_head (y == n) (length-without n ys)
  where
    by_head : (b : Bool) → length ys ≡ length (without n ys) + times n ys → suc (length ys) ≡ length (cond (not b) (y ∷ without n ys) (without n ys)) + (cond b 1 0 + times n ys)
    by_head true e = omega arith
    by_head false e = omega arith

times-without : (n x : ℕ) (xs : List ℕ) → times x (without n xs) ≤ times x xs
times-without n x [] = omega arith
times-without n x (y ∷ ys) = by_head (y == n) (times-without n x ys)
  where
    by_head : (b : Bool) → times x (without n ys) ≤ times x ys → times x (cond (not b) (y ∷ without n ys) (without n ys)) ≤ cond (y == x) 1 0 + times x ys
    by_head true e = omega arith
    by_head false e = omega arith

below-without : (n : ℕ) (xs : List ℕ) → all_below (suc n) xs ≡ true → all_below n (without n xs) ≡ true
below-without n [] h = refl
below-without n (y ∷ ys) h = by_head (y == n) refl (below-without n ys parts.1)
  where
    parts : (nat_lt y (suc n) ≡ true) × (all_below (suc n) ys ≡ true)
    parts = and_parts (nat_lt y (suc n)) (all_below (suc n) ys) h

    by_head : (b : Bool) → (y == n) ≡ b → all_below n (without n ys) ≡ true → all_below n (cond (not b) (y ∷ without n ys) (without n ys)) ≡ true
    by_head true e rest = rest
    by_head false e rest =
        let most : y < suc n = ltb-true y (suc n) parts.0 in
        let small : y < n = ⊎_elim (λ (same : y ≡ n). absurd (true≢false (sym (eq-eqb y n same) ∙ e))) (λ other. ⊎_elim (λ l. l) (λ past. absurd (other (omega arith))) (cases_lt y n)) (cases_eq y n) in
        and_from (nat_lt y n) (all_below n (without n ys)) (lt-ltb y n small) rest

pub few-below : (n : ℕ) (xs : List ℕ) → ((x : ℕ) → times x xs ≤ 1) → all_below n xs ≡ true → length xs ≤ n
few-below zero [] once h = omega arith
few-below zero (y ∷ ys) once h = absurd (let small : y < 0 = ltb-true y 0 (and_parts (nat_lt y 0) (all_below 0 ys) h).0 in omega arith)
few-below (suc n) xs once h =
    let rest : length (without n xs) ≤ n = few-below n (without n xs) (λ x. omega (arith, once x, times-without n x xs)) (below-without n xs h) in
    omega (arith, length-without n xs, once n)

pub length-distinct : (n : ℕ) (xs : List ℕ) → all_distinct xs ≡ true → all_below n xs ≡ true → length xs ≤ n
length-distinct n xs distinct below = few-below n xs (times-distinct xs distinct) below

-- ---- new numbers beside those before

pub distinct-joined : (before new after : List ℕ) → all_distinct before ≡ true → all_distinct new ≡ true → list_all (λ x. not (is_in x before)) new ≡ true → ((x : ℕ) → times x after ≤ times x before + times x new) → all_distinct after ≡ true
distinct-joined before new after old fresh apart bound =
    distinct-times after (λ x. ⊎_elim
    (λ (e : times x new ≡ 0). omega (arith, bound x, times-distinct before old x))
    (λ (e : times x before ≡ 0). omega (arith, bound x, times-distinct new fresh x))
    (times-apart before new apart x))

pub below-joined : (n : ℕ) (before new after : List ℕ) → all_below n before ≡ true → all_below n new ≡ true → ((x : ℕ) → times x after ≤ times x before + times x new) → all_below n after ≡ true
below-joined n before new after old fresh bound =
    below-times n after (λ x past. omega (arith, bound x, times-below n before old x past, times-below n new fresh x past))

-- another number stays as often
pub others-stay : (n x : ℕ) (xs : List ℕ) → x ≢ n → times x xs ≤ times x (without n xs)
others-stay n x [] differ = omega arith
others-stay n x (y ∷ ys) differ = by_head (y == n) refl (others-stay n x ys differ)
  where
    by_head : (b : Bool) → (y == n) ≡ b → times x ys ≤ times x (without n ys) → cond (y == x) 1 0 + times x ys ≤ times x (cond (not b) (y ∷ without n ys) (without n ys))
    by_head true is rest = let other : (y == x) ≡ false = ne_eqb y x (λ same. differ (sym same ∙ eqb-true y n is)) in rw other (omega arith)
    by_head false is rest = omega arith

-- numbers that differ at each two places are distinct
pub pairs-distinct : (xs : List ℕ) → ((i j : ℕ) → i < j → j < length xs → get_or xs i 0 ≢ get_or xs j 0) → all_distinct xs ≡ true
pairs-distinct [] apart = refl
pairs-distinct (x ∷ xs) apart = and_from (not (is_in x xs)) (all_distinct xs) (first (is_in x xs) refl) (pairs-distinct xs (λ i j less below. apart (suc i) (suc j) (omega arith) (omega arith)))
  where
    first : (b : Bool) → is_in x xs ≡ b → not (is_in x xs) ≡ true
    first true is = let at = in_place x xs is in let below = at.1 in absurd (apart 0 (suc at.0) (omega arith) (omega (arith, below)) (sym at.2))
    first false is = ap not is
