-- Extents that are given back one after another.
use Rattle.std.proofs.Common.{◌≡◌, ◌≢◌, ℕ, zero, suc, ◌<◌, ◌≤◌, refl, ap, ◌∙◌, List, [], ◌∷◌, length, get_or, take, Bool, true, false, ◌||◌, arith}
use Rattle.std.specs.Prelude.{◌==◌}
use Rattle.std.proofs.lemmas.Bool.{eqb-true}
use Rattle.lt_terms.specs.Bytes.{is_in}
use Rattle.lt_alloc.specs.Extents.{is_free}
use Rattle.lt_format.specs.Trie.{all_distinct}
use Rattle.lt_store.proofs.NumberLaws.{apart-at}
use Rattle.std.proofs.Math.Bool.{or-false}

-- the first of these numbers are free now, and all that were
pub record AreGiven (old now : List Bool) (numbers : List ℕ) (i : ℕ) : Type 0 where
  pub len : length now ≡ length old
  pub free : (x : ℕ) → x < length old → is_free now x ≡ (is_free old x || is_in x (take i numbers))

-- the first i numbers and the next
is_in-take : (x : ℕ) (numbers : List ℕ) (i : ℕ) → i < length numbers → is_in x (take (suc i) numbers) ≡ (is_in x (take i numbers) || (get_or numbers i 0 == x))
is_in-take x [] i small = absurd (omega arith)
is_in-take x (n ∷ ns) zero small = or-false (n == x)
is_in-take x (n ∷ ns) (suc i) small = ap (λ b. (n == x) || b) (is_in-take x ns i (omega arith)) ∙ or_assoc (n == x) (is_in x (take i ns)) (get_or ns i 0 == x)
  where
    or_assoc : (a b c : Bool) → (a || (b || c)) ≡ ((a || b) || c)
    or_assoc true b c = refl
    or_assoc false b c = refl

or_true : (a : Bool) → (a || true) ≡ true
or_true true = refl
or_true false = refl

or_assoc : (a b c : Bool) → ((a || b) || c) ≡ (a || (b || c))
or_assoc true b c = refl
or_assoc false b c = refl

not_same : (a b : ℕ) → a ≢ b → (a == b) ≡ false
not_same a b apart = decide (a == b) refl
  where
    decide : (s : Bool) → (a == b) ≡ s → (a == b) ≡ false
    decide true is = absurd (apart (eqb-true a b is))
    decide false is = is

-- what the next number has of these flags
pub still-taken : (old now : List Bool) (numbers : List ℕ) (i : ℕ) → AreGiven old now numbers i → i < length numbers → all_distinct numbers ≡ true → get_or numbers i 0 < length old → is_free old (get_or numbers i 0) ≡ false → is_free now (get_or numbers i 0) ≡ false
still-taken old now numbers i given small distinct within taken =
    given.free (get_or numbers i 0) within ∙ ap (λ b. b || is_in (get_or numbers i 0) (take i numbers)) taken ∙ absent i (omega arith)
  where
    absent : (k : ℕ) → k ≤ i → is_in (get_or numbers i 0) (take k numbers) ≡ false
    absent zero le = refl
    absent (suc k) le =
        is_in-take (get_or numbers i 0) numbers k (omega arith) ∙ ap (λ b. b || (get_or numbers k 0 == get_or numbers i 0)) (absent k (omega arith))
        ∙ not_same (get_or numbers k 0) (get_or numbers i 0) (apart-at numbers k i distinct (omega arith) small)
