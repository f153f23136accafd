-- The first line feed of a piece.
use Rattle.std.proofs.Common.{◌≡◌, ℕ, ◌+◌, ◌≤◌, ap, ◌∙◌, List, [], ◌∷◌, ◌++◌, length, take, Some, None, arith}
use Rattle.std.specs.Prelude.{◌==◌}
use Rattle.std.specs.List.{position, position_or_len}
use Rattle.std.specs.Bool.{IsFalse}
use Rattle.std.proofs.lemmas.Bool.{ltb-false, eqb-true}
use Rattle.std.proofs.lemmas.List.{take_more, get_or-take, get_or_default, length-take-le}
use Rattle.std.proofs.lemmas.List.Folds.{list_any_none}
use Rattle.std.proofs.lemmas.List.Sums.{fails_before_first}
use Rattle.std.proofs.lemmas.List.Quantifiers.{position-Some}
use Rattle.lt_language.specs.Commands.{line_feed, has_line_feed}
use Rattle.lt_terms.proofs.ItemLaws.{guard_none}

-- there is none
pub unbroken_where_none : (piece : List ℕ) → position (λ b. b == line_feed) piece ≡ None → IsFalse (has_line_feed piece)
unbroken_where_none piece none =
    let past : length piece ≤ position_or_len (λ b. b == line_feed) piece = ltb-false _ _ (guard_none _ _ none) in
    list_any_none (λ b. b == line_feed) piece (λ k d lt. fails_before_first (λ b. b == line_feed) piece k d (omega arith))

-- before the first there is none
pub unbroken_before : (piece : List ℕ) (at : ℕ) → position (λ b. b == line_feed) piece ≡ Some at → IsFalse (has_line_feed (take at piece))
unbroken_before piece at found =
    let first = position-Some (λ b. b == line_feed) piece at 0 found in
    let len : length (take at piece) ≡ at = length-take-le at piece (omega arith) in
    list_any_none (λ b. b == line_feed) (take at piece) (λ k d lt. ap (λ b. b == line_feed) (get_or-take at piece k d (omega arith) ∙ get_or_default piece k d 0 (omega arith)) ∙ first.2 k (omega arith))

-- and there it stands
pub ends_there : (piece : List ℕ) (at : ℕ) → position (λ b. b == line_feed) piece ≡ Some at → take (at + 1) piece ≡ take at piece ++ line_feed ∷ []
ends_there piece at found =
    let first = position-Some (λ b. b == line_feed) piece at 0 found in
    take_more piece at 0 first.0 ∙ ap (λ b. take at piece ++ b ∷ []) (eqb-true _ line_feed first.1)
