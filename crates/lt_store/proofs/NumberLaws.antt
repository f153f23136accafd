-- Numbers in a list without repetition, and where their extents lie.
use Rattle.std.proofs.Common.{◌≡◌, ◌≢◌, ℕ, zero, suc, ◌+◌, ◌<◌, sym, subst, ◌∙◌, List, [], ◌∷◌, length, get_or, true, not, arith}
use Rattle.std.proofs.lemmas.Bool.{and_parts, true≢false, not-true}
use Rattle.lt_terms.specs.Bytes.{is_in}
use Rattle.lt_terms.proofs.AmongLaws.{in_at}
use Rattle.lt_format.specs.declared.geometry.Geometry.{Geometry}
use Rattle.lt_format.specs.Layout.{extent_block}
use Rattle.lt_format.specs.Trie.{all_distinct}
use Rattle.lt_htable.specs.Building.{InExtent}

-- in a list without repetition a number stands at one place
pub apart-at : (xs : List ℕ) (k i : ℕ) → all_distinct xs ≡ true → k < i → i < length xs → get_or xs k 0 ≢ get_or xs i 0
apart-at [] k i distinct less below same = absurd (omega arith)
apart-at (x ∷ xs) k zero distinct less below same = absurd (omega arith)
apart-at (x ∷ xs) zero (suc i) distinct less below same =
    let parts = and_parts (not (is_in x xs)) (all_distinct xs) distinct in
    let here : is_in x xs ≡ true = subst (λ n. is_in n xs ≡ true) (sym same) (in_at xs i 0 (omega arith)) in
    true≢false (sym here ∙ not-true _ parts.0)
apart-at (x ∷ xs) (suc k) (suc i) distinct less below same =
    let parts = and_parts (not (is_in x xs)) (all_distinct xs) distinct in
    apart-at xs k i parts.1 (omega arith) (omega arith) same

-- blocks of extents of different numbers differ
pub extents-apart : (g : Geometry) (x y c : ℕ) → x ≢ y → c < 65 → InExtent (extent_block g y) (extent_block g x + c) → ⊥
extents-apart g x y c differ small inside = omega (arith, inside.0, inside.1)
