-- The regions of a device, and which blocks each has.
use Rattle.std.specs.Prelude.{ℕ, ◌+◌, ◌<◌, ◌≤◌}
use Rattle.lt_format.specs.declared.geometry.Geometry.{Geometry}
use Rattle.lt_format.specs.Layout.{selector_block, area_block, snapshot_blocks, edit_gate, edit_slots, log_gate}
use Rattle.lt_format.specs.Layout.{extent_block, extent_blocks}

-- The numbers are the area and the slot; an extent has one. A slot is a gate and its content.
pub data Region : Type 0 where
  superblock : Region
  selector : Region
  snapshot : ℕ → Region
  edit_slot : ℕ → ℕ → Region
  log_slot : ℕ → ℕ → Region
  extent : ℕ → Region

-- the first block of a region
abbrev pub first_block : Geometry → Region → ℕ
first_block g superblock = 0
first_block g selector = selector_block
first_block g (snapshot a) = area_block a
first_block g (edit_slot a i) = edit_gate a i
first_block g (log_slot b i) = log_gate g b i
first_block g (extent x) = extent_block g x

-- how many blocks a region has
abbrev pub block_count : Region → ℕ
block_count superblock = 1
block_count selector = 1
block_count (snapshot a) = snapshot_blocks
block_count (edit_slot a i) = 2
block_count (log_slot b i) = 2
block_count (extent x) = extent_blocks

-- a store with so many extents has this region
abbrev pub IsRegion : Geometry → ℕ → Region → Type 0
IsRegion g extents superblock = Unit {0}
IsRegion g extents selector = Unit {0}
IsRegion g extents (snapshot a) = a < 2
IsRegion g extents (edit_slot a i) = (a < 2) × (i < edit_slots)
IsRegion g extents (log_slot b i) = (b < 2) × (i < g.slots)
IsRegion g extents (extent x) = x < extents

-- the block is one of the region's
abbrev pub IsIn : Geometry → ℕ → Region → Type 0
IsIn g n r = (first_block g r ≤ n) × (n < first_block g r + block_count r)
