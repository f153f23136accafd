-- What a bit that is set makes of a page, and positions of a filter.
use Rattle.std.proofs.Common.{◌≡◌, ℕ, ◌-◌, ◌*◌, ◌/◌, ◌%◌, ◌^◌, ◌<◌, refl, sym, ap, subst, ◌∙◌, List, [], length, set, get_or, true, cond, arith, ⊎_elim, w8}
use Rattle.std.specs.Prelude.{◌==◌, bit_or}
use Rattle.std.specs.Int.{bit_at}
use Rattle.std.proofs.lemmas.List.{get_or-set_same, get_or-set_other}
use Rattle.std.proofs.lemmas.Nat.Bits.{bit_at_set_same, bit_at_set_other}
use Rattle.std.proofs.lemmas.Bool.{cases_eq, eq-eqb, ne_eqb}
use Rattle.lt_tables.specs.Filter.{is_set, AddsPositions}
use Rattle.std.proofs.Math.Bool.{and-false}

-- the byte of a bit that is set
abbrev with_bit : List ℕ → ℕ → ℕ
with_bit old bit = bit_or (get_or old (bit / 8) 0) (1 * 2 ^ (7 - bit % 8) % 256)

pub is_set-set : (old new : List ℕ) (bit : ℕ) → bit < 32768 → length old ≡ 4096 → new ≡ set old (bit / 8) (with_bit old bit) → (n : ℕ) → is_set new n ≡ cond (n == bit) true (is_set old n)
is_set-set old new bit small long is n = ap (λ bytes. is_set bytes n) is ∙ ⊎_elim
    (λ (same : n ≡ bit).
    let there : bit / 8 < length old = omega arith in
    let low : 7 - bit % 8 < 8 = omega arith in
    subst (λ k. is_set (set old (bit / 8) (with_bit old bit)) k ≡ cond (k == bit) true (is_set old k)) (sym same)
    (ap (λ byte. bit_at byte (7 - bit % 8) == 1) (get_or-set_same old (bit / 8) (with_bit old bit) 0 there)
    ∙ ap (λ b. b == 1) (bit_at_set_same w8 (get_or old (bit / 8) 0) (7 - bit % 8) low)
    ∙ sym (ap (λ b. cond b true (is_set old bit)) (eq-eqb bit bit refl))))
    (λ (other : n ≡ bit → ⊥).
    ⊎_elim
    (λ (here : n / 8 ≡ bit / 8).
    let there : bit / 8 < length old = omega arith in
    let low : 7 - bit % 8 < 8 = omega arith in
    let apart : 7 - n % 8 ≡ 7 - bit % 8 → ⊥ = λ e. other (omega arith) in
    ap (λ k. bit_at (get_or (set old (bit / 8) (with_bit old bit)) k 0) (7 - n % 8) == 1) here
    ∙ ap (λ byte. bit_at byte (7 - n % 8) == 1) (get_or-set_same old (bit / 8) (with_bit old bit) 0 there)
    ∙ ap (λ b. b == 1) (bit_at_set_other w8 (get_or old (bit / 8) 0) (7 - bit % 8) low (7 - n % 8) apart)
    ∙ ap (λ k. bit_at (get_or old k 0) (7 - n % 8) == 1) (sym here))
    (λ (elsewhere : n / 8 ≡ bit / 8 → ⊥). ap (λ byte. bit_at byte (7 - n % 8) == 1) (get_or-set_other old (bit / 8) (n / 8) (with_bit old bit) 0 elsewhere))
    (cases_eq (n / 8) (bit / 8))
    ∙ sym (ap (λ b. cond b true (is_set old n)) (ne_eqb n bit other)))
    (cases_eq n bit)

-- no positions change nothing
pub AddsPositions-none : (page : List ℕ) (c : ℕ) → AddsPositions page page c []
AddsPositions-none page c = record {
  len = refl;
  bits = λ n below. sym (ap (λ b. cond b true (is_set page n)) (and-false (n / 512 == c)));
}
