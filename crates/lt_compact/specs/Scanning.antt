-- What a scan of one table adds to what a job found.
use Rattle.std.specs.Prelude.{◌≡◌, ℕ, ◌+◌, ◌<◌, ◌||◌, List, ◌++◌, Option, Some}
use Rattle.lt_terms.specs.Bytes.{Image}
use Rattle.lt_terms.specs.Items.{Item}
use Rattle.lt_tables.specs.Table.{newest, blocks_from, table_items}
use Rattle.lt_htable.specs.Reading.{IsNoBucket}
use Rattle.lt_compact.specs.Jobs.{FoundView, is_loose}

-- what was found with the items of one table more
abbrev pub found_with : FoundView → List Item → FoundView
found_with found items = record {
  scanned = found.scanned + 1;
  kept = newest (found.kept ++ items);
  loose = found.loose || is_loose (found.kept ++ items);
}

-- the table whose extent begins at this block was found: its items, where the device tells them
pub record FindsTable (shown : Option Image) (first : ℕ) (old new : FoundView) : Type 0 where
  pub items : List Item
  pub told : (image : Image) → shown ≡ Some image → items ≡ table_items (blocks_from image first)
  pub is : new ≡ found_with old items

-- the block is one of the 64 buckets of the table whose extent begins at the first, and spells none
pub record IsDamagedBucket (shown : Option Image) (first block : ℕ) : Type 0 where
  pub column : ℕ
  pub within : column < 64
  pub is : block ≡ first + column
  pub spells_none : IsNoBucket shown block
