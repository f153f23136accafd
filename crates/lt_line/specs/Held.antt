-- What a buffer of bounded size keeps of a line of any length.
use Rattle.std.specs.Prelude.{◌≡◌, ℕ, Bool, List, [], ◌∷◌, ◌++◌, take}
use Rattle.std.specs.Bool.{IsFalse}
use Rattle.lt_language.specs.Commands.{line_feed, has_line_feed}

-- its first 3,261 bytes: one more than a line that is no refusal may have
unfoldable pub kept_of : List ℕ → List ℕ
kept_of line = take 3261 line

-- what is kept of the line so far, and whether its line feed was taken
pub record HeldLine : Type 0 where
  pub kept : List ℕ
  pub is_ended : Bool

-- the taken bytes end the line
pub record Ends (before after : HeldLine) (taken : List ℕ) : Type 0 where
  pub chunk : List ℕ
  pub unbroken : IsFalse (has_line_feed chunk)
  pub taken_is : taken ≡ chunk ++ line_feed ∷ []
  pub kept_is : after.kept ≡ kept_of (before.kept ++ chunk)

-- the line goes on with the taken bytes
pub record GoesOn (before after : HeldLine) (taken : List ℕ) : Type 0 where
  pub unbroken : IsFalse (has_line_feed taken)
  pub kept_is : after.kept ≡ kept_of (before.kept ++ taken)
