-- Extents that are given back one after another.
use Rattle.std.proofs.Common.{◌≡◌, ◌≢◌, ℕ, ◌+◌, ◌<◌, refl, sym, ap, subst, ◌∙◌, List, ◌∷◌, length, drop, get_or, set, Bool, true, false, not, ◌||◌, ⊎_elim, add-one}
use Rattle.std.specs.Prelude.{◌==◌}
use Rattle.std.proofs.Math.Bool.{or-false}
use Rattle.std.proofs.Math.Seq.{drop-cons, drop-length}
use Rattle.std.proofs.lemmas.Bool.{and_parts, cases_eq, eq-eqb, eqb-true, not-true, true≢false, or_left, or_right}
use Rattle.std.proofs.lemmas.List.{get_or-set_other, get_or-set_same, length-set}
use Rattle.lt_terms.specs.Bytes.{is_in}
use Rattle.lt_alloc.specs.Extents.{is_free}
use Rattle.lt_format.specs.Trie.{all_distinct}

-- the numbers from the i-th on are still to be given back, and with them the same are free
pub record AreGiven (old now : List Bool) (numbers : List ℕ) (i : ℕ) : Type 0 where
  pub len : length now ≡ length old
  pub apart : all_distinct (drop i numbers) ≡ true
  pub below : (x : ℕ) → is_in x (drop i numbers) ≡ true → x < length old
  pub taken : (x : ℕ) → is_in x (drop i numbers) ≡ true → is_free now x ≡ false
  pub free : (x : ℕ) → (is_free now x || is_in x (drop i numbers)) ≡ (is_free old x || is_in x numbers)

-- the next number is at hand
pub record IsNext (old now : List Bool) (numbers : List ℕ) (i n : ℕ) : Type 0 where
  pub rest : drop i numbers ≡ n ∷ drop (i + 1) numbers
  pub below : n < length now
  pub taken : is_free now n ≡ false

pub next : (old now : List Bool) (numbers : List ℕ) (i n : ℕ) → i < length numbers → n ≡ get_or numbers i 0 → AreGiven old now numbers i → IsNext old now numbers i n
next old now numbers i n small is given =
    let rest : drop i numbers ≡ n ∷ drop (i + 1) numbers = drop-cons numbers i 0 small ∙ (λ j. sym is j ∷ drop (sym (add-one i) j) numbers) in
    let here : is_in n (drop i numbers) ≡ true = ap (is_in n) rest ∙ or_left (n == n) (is_in n (drop (i + 1) numbers)) (eq-eqb n n refl) in
    record { rest = rest; below = subst (λ k. n < k) (sym given.len) (given.below n here); taken = given.taken n here }

pub given-more : (old now after : List Bool) (numbers : List ℕ) (i n : ℕ) → i < length numbers → n ≡ get_or numbers i 0 → after ≡ set now n false → AreGiven old now numbers i → AreGiven old after numbers (i + 1)
given-more old now after numbers i n small is after_is given = record {
  len = ap length after_is ∙ length-set now n false ∙ given.len;
  apart = (and_parts (not (is_in n rest)) (all_distinct rest) whole).1;
  below = λ x there. given.below x (behind x there);
  taken = λ x there. stays x (λ same. true≢false (sym there ∙ ap (λ k. is_in k rest) same ∙ not-true (is_in n rest) (and_parts (not (is_in n rest)) (all_distinct rest) whole).0)) ∙ given.taken x (behind x there);
  free = λ x. ⊎_elim (here x) (elsewhere x) (cases_eq x n);
}
  where
    rest : List ℕ
    rest = drop (i + 1) numbers

    at : IsNext old now numbers i n
    at = next old now numbers i n small is given

    whole : all_distinct (n ∷ rest) ≡ true
    whole = ap all_distinct (sym at.rest) ∙ given.apart

    behind : (x : ℕ) → is_in x rest ≡ true → is_in x (drop i numbers) ≡ true
    behind x there = ap (is_in x) at.rest ∙ or_right (n == x) (is_in x rest) there

    stays : (x : ℕ) → x ≢ n → is_free after x ≡ is_free now x
    stays x other = ap (λ (flags : List Bool). is_free flags x) after_is ∙ ap not (get_or-set_other now n x false true other)

    freed : is_free after n ≡ true
    freed = ap (λ (flags : List Bool). is_free flags n) after_is ∙ ap not (get_or-set_same now n false true at.below)

    here : (x : ℕ) → x ≡ n → (is_free after x || is_in x rest) ≡ (is_free old x || is_in x numbers)
    here x same =
        or_left (is_free after x) (is_in x rest) (ap (is_free after) same ∙ freed)
        ∙ sym (or_right (is_free now x) (is_in x (drop i numbers)) (ap (is_in x) at.rest ∙ or_left (n == x) (is_in x rest) (eq-eqb n x (sym same))))
        ∙ given.free x

    other_name : (x : ℕ) → x ≢ n → (n == x) ≡ false
    other_name x other = decide (n == x) refl
      where
        decide : (b : Bool) → (n == x) ≡ b → b ≡ false
        decide true same = absurd (other (sym (eqb-true n x same)))
        decide false same = refl

    elsewhere : (x : ℕ) → x ≢ n → (is_free after x || is_in x rest) ≡ (is_free old x || is_in x numbers)
    elsewhere x other =
        ap (λ b. b || is_in x rest) (stays x other)
        ∙ ap (λ b. is_free now x || (b || is_in x rest)) (sym (other_name x other))
        ∙ ap (λ xs. is_free now x || is_in x xs) (sym at.rest)
        ∙ given.free x

pub given-all : (old now : List Bool) (numbers : List ℕ) (i : ℕ) → length numbers ≡ i → AreGiven old now numbers i → (x : ℕ) → is_free now x ≡ (is_free old x || is_in x numbers)
given-all old now numbers i all given x =
    sym (or-false (is_free now x)) ∙ ap (λ xs. is_free now x || is_in x xs) (sym (ap (λ k. drop k numbers) (sym all) ∙ drop-length numbers)) ∙ given.free x
