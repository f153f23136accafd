-- A loop over octal digits, and the digits of a key.
use Rattle.std.proofs.Common.{◌≡◌, ℕ, zero, suc, ◌+◌, ◌*◌, ◌^◌, ◌<◌, ◌≤◌, List, ◌∷◌, length, get_or, take, drop, drop-cons, add-one, arith, lit<, refl, sym, ap, ◌∙◌}
use Rattle.std.proofs.lemmas.List.{drop_all}
use Rattle.std.proofs.Math.Nat.{pow-suc, pow-le-pow_right}
use Rattle.lt_terms.specs.Hashes.{key_hash, digits_of}
use Rattle.lt_item.specs.declared.hash.Parts.{Parts}
use Rattle.lt_item.specs.Parts.{parts_of}
use Rattle.lt_format.specs.Trie.{path_number}
use Rattle.lt_node.specs.Octal.{octal}

-- so many digits are read, and they spell this number
pub record HasRead (digits : List ℕ) (number i : ℕ) : Type 0 where
  pub rest : octal 0 digits ≡ octal number (drop i digits)
  pub below : number < 8 ^ i

pub reads_none : (digits : List ℕ) → HasRead digits 0 0
reads_none digits = record { rest = refl; below = omega arith }

pub few_digits : (number i : ℕ) → number < 8 ^ i → i < 4 → number < 512
few_digits number i below few =
    let most : 8 ^ i ≤ 8 ^ 3 = pow-le-pow_right (lit< tt) {i = i} {j = 3} (omega arith) in
    omega arith

pub reads_end : (digits : List ℕ) (number i : ℕ) → HasRead digits number i → length digits ≤ i → number ≡ octal 0 digits
reads_end digits number i h past = sym (h.rest ∙ ap (octal number) (drop_all i digits past))

pub reads_more : (digits : List ℕ) (number i : ℕ) → HasRead digits number i → i < length digits → get_or digits i 0 < 8 → HasRead digits (8 * number + get_or digits i 0) (i + 1)
reads_more digits number i h within small =
    let up : 8 ^ (i + 1) ≡ 8 ^ i * 8 = ap (λ k. 8 ^ k) (omega arith) ∙ pow-suc 8 i in
    let below : number < 8 ^ i = h.below in
    let cut : drop i digits ≡ get_or digits i 0 ∷ drop (i + 1) digits = rw add-one (drop-cons digits i 0 within) in
    record { rest = h.rest ∙ ap (octal number) cut; below = omega arith }

-- the first digits of a key spell its node's number
pub octal_path : (key : List ℕ) (level : ℕ) → level ≤ 4 → octal 0 (take level (digits_of (key_hash key))) ≡ path_number key level
unfolding path_number
octal_path key zero h = refl
octal_path key (suc zero) h = refl
octal_path key (suc (suc zero)) h = refl
octal_path key (suc (suc (suc zero))) h = refl
octal_path key (suc (suc (suc (suc zero)))) h = refl
octal_path key (suc (suc (suc (suc (suc level))))) h = absurd (omega arith)

pub parts_path : (parts : Parts) (key : List ℕ) (level : ℕ) → level ≤ 4 → parts ≡ parts_of key → octal 0 (take level parts.digits) ≡ path_number key level
unfolding parts_of
parts_path parts key level h same = ap (λ (p : Parts). octal 0 (take level p.digits)) same ∙ octal_path key level h
