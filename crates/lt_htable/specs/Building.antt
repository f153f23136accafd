-- The blocks that a table takes, and what stays outside them.
use Rattle.std.specs.Prelude.{◌≡◌, ℕ, ◌+◌, ◌<◌, ◌≤◌, List, Option, Some}
use Rattle.lt_terms.specs.Bytes.{Image}
use Rattle.lt_terms.specs.Items.{Item}
use Rattle.lt_tables.specs.declared.ColumnPlan.{ColumnPlan}
use Rattle.lt_tables.specs.Bucket.{bucket_of}
use Rattle.lt_tables.specs.Table.{blocks_from, bucket_in}

-- a block of the extent that begins at block first
abbrev pub InExtent : ℕ → ℕ → Type 0
InExtent first k = (first ≤ k) × (k < first + 65)

-- where a device tells what it reads as, the first n blocks spell these buckets
pub record HasBuckets (plans : List ColumnPlan) (items : List Item) (first n : ℕ) (shown : Option Image) : Type 0 where
  pub each : (image : Image) → shown ≡ Some image → (c : ℕ) → c < n
      → bucket_of (blocks_from image first c) ≡ Some (bucket_in plans items c)
