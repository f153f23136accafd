-- What making a store leaves.
use Rattle.std.specs.Prelude.{◌≡◌, ℕ, ◌<◌, Some, Ok}
use Rattle.lt_terms.specs.Bytes.{Image}
use Rattle.lt_device.specs.State as told
use Rattle.lt_format.specs.declared.geometry.Geometry.{Geometry}
use Rattle.lt_format.specs.Layout.{blocks_needed, log_gate}
use Rattle.lt_format.specs.Snapshot.{manifest_in}
use Rattle.lt_format.specs.Snapshot.{fresh}
use Rattle.lt_redo.specs.Slots.{IsCleared}

-- the geometry with this many levels and slots
abbrev pub geometry_of : ℕ → ℕ → Geometry
geometry_of levels slots = record { levels = levels; slots = slots }

-- how many blocks a store with this many levels, slots and extents uses
abbrev pub blocks_for : ℕ → ℕ → ℕ → ℕ
blocks_for levels slots extents = blocks_needed (geometry_of levels slots) extents

-- the block is the superblock's, the manifest's or one of the first log area
abbrev pub InFresh : Geometry → ℕ → Type 0
InFresh g n = n < log_gate g 0 g.slots

-- what the device reads as has the manifest of a fresh store, and an empty log
pub record HasRegions (g : Geometry) (extents : ℕ) (device : told.State) : Type 0 where
  pub image : Image
  pub shown : device.shown ≡ Some image
  pub gates : IsCleared g 0 image
  pub manifest : manifest_in g image ≡ Ok (fresh g extents)
