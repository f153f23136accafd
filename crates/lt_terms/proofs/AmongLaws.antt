-- A number that stands in a list, in its parts, and in lists put together.
use Rattle.std.proofs.Common.{◌≡◌, ℕ, zero, suc, ◌<◌, refl, sym, ap, ◌∙◌, List, [], ◌∷◌, ◌++◌, length, get_or, take, drop, Bool, true, false, ◌||◌, ◌⊎◌, inl, inr, arith}
use Rattle.std.specs.Prelude.{◌==◌}
use Rattle.std.proofs.lemmas.Bool.{eq-eqb, eqb-true, or_left, or_right, true≢false}
use Rattle.lt_terms.specs.Bytes.{is_in}

-- ---- two lists as one

-- a number of two lists is in the one or in the other
pub in_append : (x : ℕ) (xs ys : List ℕ) → is_in x (xs ++ ys) ≡ (is_in x xs || is_in x ys)
in_append x [] ys = refl
in_append x (z ∷ xs) ys = ap (λ b. (z == x) || b) (in_append x xs ys) ∙ assoc (z == x) (is_in x xs) (is_in x ys)
  where
    assoc : (a b c : Bool) → (a || (b || c)) ≡ ((a || b) || c)
    assoc true b c = refl
    assoc false b c = refl

pub in_either : (x : ℕ) (xs ys : List ℕ) → is_in x (xs ++ ys) ≡ true → (is_in x xs ≡ true) ⊎ (is_in x ys ≡ true)
in_either x xs ys there = decide (is_in x xs) (is_in x ys) (sym (in_append x xs ys) ∙ there)
  where
    decide : (a b : Bool) → (a || b) ≡ true → (a ≡ true) ⊎ (b ≡ true)
    decide true b h = inl refl
    decide false b h = inr h

pub in_left : (x : ℕ) (xs ys : List ℕ) → is_in x xs ≡ true → is_in x (xs ++ ys) ≡ true
in_left x xs ys there = in_append x xs ys ∙ or_left (is_in x xs) (is_in x ys) there

pub in_right : (x : ℕ) (xs ys : List ℕ) → is_in x ys ≡ true → is_in x (xs ++ ys) ≡ true
in_right x xs ys there = in_append x xs ys ∙ or_right (is_in x xs) (is_in x ys) there

-- ---- places

pub in_first : (x : ℕ) (xs : List ℕ) → is_in x (x ∷ xs) ≡ true
in_first x xs = or_left (x == x) (is_in x xs) (eq-eqb x x refl)

pub in_last : (x : ℕ) (xs : List ℕ) → is_in x (xs ++ x ∷ []) ≡ true
in_last x xs = in_right x xs (x ∷ []) (in_first x [])

-- what stands at a place stands in the list
pub in_at : (xs : List ℕ) (i d : ℕ) → i < length xs → is_in (get_or xs i d) xs ≡ true
in_at [] i d below = absurd (omega arith)
in_at (x ∷ xs) zero d below = in_first x xs
in_at (x ∷ xs) (suc i) d below = or_right (x == get_or xs i d) (is_in (get_or xs i d) xs) (in_at xs i d (omega arith))

-- and what stands in the list stands at a place
pub in_place : (x : ℕ) (xs : List ℕ) → is_in x xs ≡ true → (i : ℕ) × (i < length xs) × (get_or xs i 0 ≡ x)
in_place x [] there = absurd (true≢false (sym there))
in_place x (y ∷ ys) there = by_head (y == x) refl there (in_place x ys)
  where
    by_head : (b : Bool) → (y == x) ≡ b → (b || is_in x ys) ≡ true → (is_in x ys ≡ true → (i : ℕ) × (i < length ys) × (get_or ys i 0 ≡ x)) → (i : ℕ) × (i < length (y ∷ ys)) × (get_or (y ∷ ys) i 0 ≡ x)
    by_head true is there rest = (0, omega arith, eqb-true y x is)
    by_head false is there rest = let later = rest there in let below = later.1 in (suc later.0, omega (arith, below), later.2)

-- ---- parts

pub in_take : (x n : ℕ) (xs : List ℕ) → is_in x (take n xs) ≡ true → is_in x xs ≡ true
in_take x zero xs there = absurd (true≢false (sym there))
in_take x (suc n) [] there = there
in_take x (suc n) (y ∷ xs) there = by_head (y == x) there (in_take x n xs)
  where
    by_head : (b : Bool) → (b || is_in x (take n xs)) ≡ true → (is_in x (take n xs) ≡ true → is_in x xs ≡ true) → (b || is_in x xs) ≡ true
    by_head true there rest = refl
    by_head false there rest = rest there

pub in_drop : (x n : ℕ) (xs : List ℕ) → is_in x (drop n xs) ≡ true → is_in x xs ≡ true
in_drop x zero xs there = there
in_drop x (suc n) [] there = there
in_drop x (suc n) (y ∷ xs) there = or_right (y == x) (is_in x xs) (in_drop x n xs there)
