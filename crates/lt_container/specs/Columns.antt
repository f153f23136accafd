-- The blocks that a group takes.
use Rattle.std.specs.Prelude.{◌≡◌, ℕ, ◌+◌, ◌<◌, ◌≤◌, List, Option, Some}
use Rattle.lt_terms.specs.Bytes.{Image}
use Rattle.lt_tables.specs.Filter.{group_block}
use Rattle.lt_tables.specs.Table.{blocks_from}

-- a block of the 64 columns of the extent that begins at block first
abbrev pub InColumns : ℕ → ℕ → Type 0
InColumns first k = (first ≤ k) × (k < first + 64)

-- where a device tells what it reads as, the first n blocks of the extent are those of the group of these
-- filter pages
pub record HasColumns (filters : List (List ℕ)) (first n : ℕ) (shown : Option Image) : Type 0 where
  pub each : (image : Image) → shown ≡ Some image → (c : ℕ) → c < n
      → blocks_from image first c ≡ group_block filters c
