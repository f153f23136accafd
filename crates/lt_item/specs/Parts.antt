-- The parts of a key's hash as one value.
use Rattle.std.specs.Prelude.{ℕ, ◌<◌, List}
use Rattle.std.specs.List.{All}
use Rattle.lt_terms.specs.Hashes.{key_hash, digits_of, column_of, suffix_of, positions_of}
use Rattle.lt_item.specs.declared.hash.Parts.{Parts}

-- what a hash says of its key
abbrev pub parts_in : List ℕ → Parts
parts_in h = record {
  hash = h;
  digits = digits_of h;
  column = column_of h;
  suffix = suffix_of h;
  positions = positions_of h;
}

-- the parts of a key
unfoldable pub parts_of : List ℕ → Parts
parts_of key = parts_in (key_hash key)

-- each part is as small as its bits
pub record IsInRange (parts : Parts) : Type 0 where
  pub digits : All (λ d. d < 8) parts.digits
  pub column : parts.column < 64
  pub positions : All (λ p. p < 512) parts.positions
