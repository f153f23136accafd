-- Lines that are drawn one after another.
use Rattle.std.specs.Prelude.{◌≡◌, ℕ, List, [], ◌∷◌, ◌++◌}
use Rattle.lt_language.specs.Commands.{line_feed}

-- these bytes are the first of the lines with its line feed, and the others are left
pub record IsNextLine (bytes : List ℕ) (before after : List (List ℕ)) : Type 0 where
  pub line : List ℕ
  pub bytes_are : bytes ≡ line ++ line_feed ∷ []
  pub first : before ≡ line ∷ after
