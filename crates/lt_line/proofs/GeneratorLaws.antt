-- How the lines of a stream are drawn.
use Rattle.std.proofs.Common.{◌≡◌, ℕ, zero, suc, ◌+◌, ◌<◌, ◌≤◌, ◌-◌, refl, sym, ap, ◌∙◌, List, [], ◌∷◌, ◌++◌, take, drop, length, append_assoc, length-append, length-take, length-drop, arith}
use Rattle.std.proofs.lemmas.List.{take-append-drop, take_at, length-take-le, drop_all}
use Rattle.lt_language.specs.Commands.{joined}
use Rattle.lt_language.specs.Generator.{draw, write_line, write_lines}

-- three draws make the next write
pub next_write : (keys x n a b c : ℕ) (gets : List (List ℕ)) → 0 < n → a ≡ draw x → b ≡ draw a → c ≡ draw b
    → write_lines keys x n ++ gets ≡ write_line keys a b c ∷ (write_lines keys c (n - 1) ++ gets)
next_write keys x zero a b c gets some p q r = absurd (omega arith)
next_write keys x (suc n) a b c gets some p q r = let e : suc n - 1 ≡ n = omega arith in rw (e, r, q, p) refl

-- where all of the line was handed out and no line is left, no byte is
pub none_left : (line : List ℕ) (at : ℕ) (lines : List (List ℕ)) → length line ≤ at → lines ≡ [] → drop at line ++ joined lines ≡ []
none_left line at lines past none = rw (drop_all at line past, none) refl

-- a front of the line was put behind what stands in the page
pub part_put : (front rest page tail others : List ℕ) (m n : ℕ) → n ≤ length rest → length front + n ≡ m → page ≡ front ++ (take n rest ++ tail)
    → take m page ++ (drop n rest ++ others) ≡ front ++ (rest ++ others)
part_put front rest page tail others m n fits len is =
    let whole : page ≡ (front ++ take n rest) ++ tail = is ∙ sym (append_assoc front (take n rest) tail) in
    let long : length (front ++ take n rest) ≡ m = omega (arith, length-append front (take n rest), length-take-le n rest fits) in
    let again : take n rest ++ (drop n rest ++ others) ≡ rest ++ others = rw (← append_assoc, take-append-drop) refl in
    ap (λ xs. xs ++ (drop n rest ++ others)) (ap (take m) whole ∙ take_at (front ++ take n rest) tail m long)
    ∙ append_assoc front (take n rest) (drop n rest ++ others) ∙ ap (λ xs. front ++ xs) again

-- a page that stays whole has a byte at each place in front of the part
pub front_is_whole : (page after part : List ℕ) (from : ℕ) → from + length part ≤ 4096 → length after ≡ 4096 → after ≡ take from page ++ (part ++ drop (from + length part) page)
    → length (take from page) ≡ from
front_is_whole page after part from fits len is =
    let whole : length after ≡ length (take from page) + (length part + (length page - (from + length part))) =
    ap length is ∙ length-append (take from page) (part ++ drop (from + length part) page)
    ∙ ap (λ n. length (take from page) + n) (length-append part (drop (from + length part) page) ∙ ap (λ n. length part + n) (length-drop (from + length part) page))
    in
    omega (arith, length-take from page, whole, len, fits)
