-- A block of zeros is a block, and the only one whose bytes are all 0.
use Rattle.std.proofs.Common.{◌≡◌, ℕ, ◌<◌, ◌↔◌, ◌&&◌, ◌==◌, refl, sym, ap, subst, ◌∙◌, List, [], ◌∷◌, Bool, true, false, length, arith, replicate, lit<, bit_or, eqb-true}
use Rattle.std.specs.List.{All, AllByRecursion, fold}
use Rattle.std.specs.Prelude.{IsTrue}
use Rattle.core.proofs.slice.Flagged.{neither}
use Rattle.std.proofs.lemmas.List.{length-replicate, get_or-replicate, ext_get_or}
use Rattle.std.proofs.lemmas.Bool.{and_parts}
use Rattle.std.proofs.lemmas.List.Elements.{All-replicate, All-from_recursion}
use Rattle.lt_terms.specs.Bytes.{IsBlock, AreBytes, zeros, zero_block, all_zero}
use Rattle.lt_terms.proofs.SpellingLaws.{length-zeros, all_zero-zeros}

AreBytes-zeros : (n : ℕ) → AreBytes (zeros n)
unfolding zeros
AreBytes-zeros n = All-replicate (λ b. b < 256) n 0 (lit< tt)

zeros_from_all : (n : ℕ) (bytes : List ℕ) → length bytes ≡ n → All (λ b. b ≡ 0) bytes → bytes ≡ zeros n
unfolding zeros
zeros_from_all n bytes len all =
    ext_get_or 0 bytes (replicate n 0) (len ∙ sym (length-replicate n 0)) (λ i lt. all i 0 lt ∙ sym (get_or-replicate n i 0 0 (omega arith)))

zeros_from_replicate : (n : ℕ) (bytes : List ℕ) → bytes ≡ replicate n 0 → bytes ≡ zeros n
unfolding zeros
zeros_from_replicate n bytes e = e

pub IsBlock-zero_block : (bytes : List ℕ) → bytes ≡ zero_block → IsBlock bytes
IsBlock-zero_block bytes e =
    subst (λ (b : List ℕ). IsBlock b) (sym e) (record { len = length-zeros 4096; bytes = AreBytes-zeros 4096 })

-- what filling with 0 gives
pub zero_block_from_replicate : (n : ℕ) (bytes : List ℕ) → n ≡ 4096 → bytes ≡ replicate n 0 → bytes ≡ zero_block
zero_block_from_replicate n bytes four e = zeros_from_replicate n bytes e ∙ ap zeros four

all_zero-All : (bytes : List ℕ) → all_zero bytes ≡ true → All (λ b. b ≡ 0) bytes
all_zero-All bytes h = All-from_recursion (λ b. b ≡ 0) bytes (each bytes h)
  where
    each : (bytes : List ℕ) → all_zero bytes ≡ true → AllByRecursion (λ b. b ≡ 0) bytes
    each [] h = tt
    each (b ∷ bytes) h = let both = and_parts (b == 0) (all_zero bytes) h in (eqb-true b 0 both.0, each bytes both.1)

-- the test on the bytes of a page tells whether it is a block of zeros
pub all_zero-zero_block : (bytes page : List ℕ) (test : Bool) → length bytes ≡ 4096 → bytes ≡ page → test ≡ all_zero bytes → IsTrue test ↔ (page ≡ zero_block)
all_zero-zero_block bytes page test len same is =
    (λ t. sym same ∙ zeros_from_all 4096 bytes len (all_zero-All bytes (sym is ∙ t)), λ e. is ∙ ap all_zero (same ∙ e) ∙ all_zero-zeros 4096)

and_same : (a b c : Bool) → (a && b) && c ≡ a && (b && c)
and_same true b c = refl
and_same false b c = refl

-- the bytes put together by 'or' are 0 exactly where each of them is
fold_or : (seen : ℕ) (bytes : List ℕ) → (fold (λ seen b. bit_or seen b) seen bytes == 0) ≡ (seen == 0) && all_zero bytes
fold_or seen [] = keep (seen == 0)
  where
    keep : (b : Bool) → b ≡ b && true
    keep true = refl
    keep false = refl
fold_or seen (b ∷ bytes) = fold_or (bit_or seen b) bytes ∙ ap (λ t. t && all_zero bytes) (neither seen b) ∙ and_same (seen == 0) (b == 0) (all_zero bytes)

pub fold_or_zero : (bytes : List ℕ) → (fold (λ seen b. bit_or seen b) 0 bytes == 0) ≡ all_zero bytes
fold_or_zero bytes = fold_or 0 bytes
