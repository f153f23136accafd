-- Lines and their commands, over bytes that come one after another.
use Rattle.std.proofs.Common.{◌≡◌, ◌≢◌, ◌<◌, ℕ, ap, ◌∙◌, List, [], ◌∷◌, ◌++◌, map, length, take, drop, append_assoc, take-append-drop, take-add, sym, ◌+◌, ◌-◌, inl, inr}
use Rattle.std.specs.Bool.{IsFalse}
use Rattle.std.proofs.lemmas.Bool.{cases_lt}
use Rattle.std.proofs.lemmas.List.{drop_all, map-append, take_rest}
use Rattle.lt_language.specs.Commands.{command_of, commands, line_feed, has_line_feed, lines_of, rest_of}
use Rattle.lt_language.proofs.LineLaws.{split_lines-append, split_lines-unbroken, split_lines-ended}

pub commands-append : (x y : List ℕ) → commands (x ++ y) ≡ commands x ++ commands (rest_of x ++ y)
commands-append x y = ap (λ (p : List (List ℕ) × List ℕ). map command_of p.0) (split_lines-append x y) ∙ map-append command_of (lines_of x) (lines_of (rest_of x ++ y))

pub rest_of-append : (x y : List ℕ) → rest_of (x ++ y) ≡ rest_of (rest_of x ++ y)
rest_of-append x y = ap (λ (p : List (List ℕ) × List ℕ). p.1) (split_lines-append x y)

-- the line goes on
pub commands-unbroken : (bytes chunk : List ℕ) → IsFalse (has_line_feed chunk) → commands (bytes ++ chunk) ≡ commands bytes
commands-unbroken bytes chunk free = ap (λ (p : List (List ℕ) × List ℕ). map command_of p.0) (split_lines-unbroken bytes chunk free)

pub rest_of-unbroken : (bytes chunk : List ℕ) → IsFalse (has_line_feed chunk) → rest_of (bytes ++ chunk) ≡ rest_of bytes ++ chunk
rest_of-unbroken bytes chunk free = ap (λ (p : List (List ℕ) × List ℕ). p.1) (split_lines-unbroken bytes chunk free)

-- the line ends
pub commands-ended : (bytes chunk : List ℕ) → IsFalse (has_line_feed chunk) → commands (bytes ++ (chunk ++ line_feed ∷ [])) ≡ commands bytes ++ command_of (rest_of bytes ++ chunk) ∷ []
commands-ended bytes chunk free = ap (λ (p : List (List ℕ) × List ℕ). map command_of p.0) (split_lines-ended bytes chunk free) ∙ map-append command_of (lines_of bytes) ((rest_of bytes ++ chunk) ∷ [])

pub rest_of-ended : (bytes chunk : List ℕ) → IsFalse (has_line_feed chunk) → rest_of (bytes ++ (chunk ++ line_feed ∷ [])) ≡ []
rest_of-ended bytes chunk free = ap (λ (p : List (List ℕ) × List ℕ). p.1) (split_lines-ended bytes chunk free)

-- the lines behind it stand behind the line that ends
pub lines-ended : (bytes chunk more : List ℕ) → IsFalse (has_line_feed chunk) → lines_of (bytes ++ ((chunk ++ line_feed ∷ []) ++ more)) ≡ lines_of bytes ++ (rest_of bytes ++ chunk) ∷ lines_of (rest_of (bytes ++ (chunk ++ line_feed ∷ [])) ++ more)
lines-ended bytes chunk more free =
    let ended : List ℕ = bytes ++ (chunk ++ line_feed ∷ []) in
    let behind : List (List ℕ) = lines_of (rest_of ended ++ more) in
    ap lines_of (sym (append_assoc bytes (chunk ++ line_feed ∷ []) more)) ∙ ap (λ (p : List (List ℕ) × List ℕ). p.0) (split_lines-append ended more)
    ∙ ap (λ (p : List (List ℕ) × List ℕ). p.0 ++ behind) (split_lines-ended bytes chunk free) ∙ append_assoc (lines_of bytes) ((rest_of bytes ++ chunk) ∷ []) behind

-- what was taken of a piece, and the rest of it
pub taken-and-rest : (line piece : List ℕ) (n : ℕ) → (line ++ take n piece) ++ drop n piece ≡ line ++ piece
taken-and-rest line piece n = append_assoc line (take n piece) (drop n piece) ∙ ap (λ xs. line ++ xs) (take-append-drop n piece)

-- the same, with the rest as the code slices it
pub taken-and-slice : (line piece : List ℕ) (at : ℕ) → (line ++ take at piece) ++ take (length piece - at) (drop at piece) ≡ line ++ piece
taken-and-slice line piece at = ap (λ xs. (line ++ take at piece) ++ xs) (take_rest piece at) ∙ taken-and-rest line piece at

-- what was taken of a piece, and more of it
pub taken-and-more : (line piece : List ℕ) (at n : ℕ) → (line ++ take at piece) ++ take n (take (length piece - at) (drop at piece)) ≡ line ++ take (at + n) piece
taken-and-more line piece at n = ap (λ xs. (line ++ take at piece) ++ take n xs) (take_rest piece at) ∙ append_assoc line (take at piece) (take n (drop at piece)) ∙ ap (λ xs. line ++ xs) (sym (take-add at n piece))

-- fewer bytes were taken than there are
pub some-left : (piece : List ℕ) (n : ℕ) → drop n piece ≢ [] → n < length piece
some-left piece n some = elim (cases_lt n (length piece)) [
  | inl less ↦ less
  | inr all ↦ absurd (some (drop_all n piece all))
]
