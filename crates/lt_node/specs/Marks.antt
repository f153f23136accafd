-- Flags that mark numbers, and numbers that are new beside marked ones.
use Rattle.std.specs.Prelude.{◌≡◌, ℕ, ◌<◌, Bool, true, false, not, ◌&&◌, List, [], ◌∷◌, ◌++◌, length}
use Rattle.std.specs.Prelude.{nat_lt, slice_index_or, IsTrue}
use Rattle.lt_terms.specs.Bytes.{is_in}

-- a flag is set exactly where its number was seen
abbrev pub AreMarks : List Bool → List ℕ → Type 0
AreMarks flags seen = (x : ℕ) → x < length flags → slice_index_or flags x false ≡ is_in x seen

-- each is below the limit, and stands neither among those seen nor before itself
abbrev pub are_fresh : ℕ → List ℕ → List ℕ → Bool
are_fresh limit seen [] = true
are_fresh limit seen (x ∷ xs) = (nat_lt x limit && not (is_in x seen)) && are_fresh limit (seen ++ x ∷ []) xs

-- beside the numbers seen before, the answer tells whether these are new; where they are, the flags mark them too
pub record TellsNew (limit : ℕ) (seen xs : List ℕ) (answer : Bool) (new : List Bool) : Type 0 where
  pub told : answer ≡ are_fresh limit seen xs
  pub marks : IsTrue answer → AreMarks new (seen ++ xs)

-- whatever numbers the flags marked before, the answer tells whether these are new beside them
abbrev pub MarksNew : List Bool → List ℕ → Bool → List Bool → Type 0
MarksNew old xs answer new = (seen : List ℕ) → AreMarks old seen → TellsNew (length old) seen xs answer new
