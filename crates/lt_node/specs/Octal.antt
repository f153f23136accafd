-- Numbers by their octal digits.
use Rattle.std.specs.Prelude.{ℕ, ◌+◌, ◌*◌, List, [], ◌∷◌}

-- the number whose digits are those of this one and then these
abbrev pub octal : ℕ → List ℕ → ℕ
octal number [] = number
octal number (d ∷ ds) = octal (8 * number + d) ds
