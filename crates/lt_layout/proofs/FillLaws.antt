-- A block that is filled up from its front.
use Rattle.std.proofs.Common.{◌≡◌, ℕ, ◌+◌, ◌-◌, ◌≤◌, sym, ap, ◌∙◌, List, ◌++◌, length, take, drop, arith}
use Rattle.std.proofs.lemmas.List.{take_at, length-append, drop-replicate}
use Rattle.std.proofs.Math.Seq.{drop-append-add}
use Rattle.lt_terms.specs.Bytes.{zeros, block_of, filled}

pub drop-zeros : (m n : ℕ) → drop m (zeros n) ≡ zeros (n - m)
unfolding zeros
drop-zeros m n = drop-replicate m n 0

-- A block that begins with these bytes, and with more bytes put behind them. `at` is where they end.
pub filled-block_of : (front bytes : List ℕ) (at : ℕ) → at ≡ length front → length front + length bytes ≤ 4096 → filled (block_of front) at bytes ≡ block_of (front ++ bytes)
filled-block_of front bytes at ends fits =
    let taken : take at (block_of front) ≡ front = take_at front (zeros (4096 - length front)) at (sym ends) in
    let left : drop (at + length bytes) (block_of front) ≡ zeros (4096 - length (front ++ bytes)) =
    ap (λ n. drop (n + length bytes) (block_of front)) ends ∙ drop-append-add front (zeros (4096 - length front)) (length bytes)
    ∙ drop-zeros (length bytes) (4096 - length front) ∙ ap zeros (omega (arith, length-append front bytes)) in
    ap (λ xs. xs ++ bytes ++ drop (at + length bytes) (block_of front)) taken ∙ ap (λ xs. front ++ bytes ++ xs) left
