-- What a source hands out, where it tells which bytes it has left; and what a sink has taken: it stands for lists of
-- bytes, or for none where it tells nothing.
use Rattle.std.specs.Prelude.{◌≡◌, ℕ, zero, suc, List, [], ◌++◌, Option, Some, None, ◌<◌, length}
use Rattle.lt_terms.specs.Causes.{next_count}

-- the bytes stood in front of what is left; a source that does not tell stays one that does not tell
abbrev pub IsFrontOf : Option (List ℕ) → Option (List ℕ) → List ℕ → Type 0
IsFrontOf (Some before) (Some after) bytes = before ≡ bytes ++ after
IsFrontOf (Some before) None bytes = ⊥
IsFrontOf None (Some after) bytes = ⊥
IsFrontOf None None bytes = Unit {0}

-- a source handed these bytes out from the front of what it had left
pub record Takes (before after : Option (List ℕ)) (bytes : List ℕ) : Type 0 where
  pub front : IsFrontOf before after bytes

-- no byte is left, where the source tells
abbrev pub IsAtEnd : Option (List ℕ) → Type 0
IsAtEnd (Some left) = left ≡ []
IsAtEnd None = Unit {0}

-- the number of nonempty pieces after a read of so many bytes
abbrev pub pieces_after : ℕ → ℕ → ℕ
pieces_after zero count = count
pieces_after (suc n) count = next_count count

-- a sink stands for each list that it stood for, with these bytes behind it
pub record Gains (old new : List ℕ → Type 0) (bytes : List ℕ) : Type 0 where
  pub each : (taken : List ℕ) → old taken → new (taken ++ bytes)

-- a sink gained a front of these bytes
pub record GainsFront (old new : List ℕ → Type 0) (bytes : List ℕ) : Type 0 where
  pub shown : List ℕ
  pub hidden : List ℕ
  pub whole : bytes ≡ shown ++ hidden
  pub gained : Gains old new shown

-- a sink gained a front of these bytes, and not all of them
pub record GainsPart (old new : List ℕ → Type 0) (bytes : List ℕ) : Type 0 where
  pub front : GainsFront old new bytes
  pub some : 0 < length front.hidden
