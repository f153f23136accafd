-- Blocks that were written one after another, and what a manifest area holds then.
use Rattle.std.specs.Prelude.{◌≡◌, ◌⊎◌, ℕ, ◌+◌, ◌-◌, ◌*◌, ◌/◌, ◌<◌, ◌≤◌, false, List, [], ◌∷◌, Option, Some, length}
use Rattle.std.specs.Prelude.{slice_range}
use Rattle.lt_terms.specs.Bytes.{Image, block_at, block_len, block_of}
use Rattle.lt_device.specs.State.{SameOutside}
use Rattle.lt_format.specs.Layout.{area_block, edit_gate, edit_slots, gate_page, selector_block}

-- block k of these bytes: those that lie there, and zeros
abbrev pub page_of : List ℕ → ℕ → List ℕ
page_of bytes k = block_of (slice_range bytes (block_len * k) (block_len * (k + 1)))

-- how many blocks these bytes take
abbrev pub page_count : List ℕ → ℕ
page_count bytes = (length bytes + (block_len - 1)) / block_len

-- where a device tells what it reads as, the first of these places hold these pages
pub record AreWritten (place : ℕ → ℕ) (page : ℕ → List ℕ) (count : ℕ) (shown : Option Image) : Type 0 where
  pub each : (image : Image) → shown ≡ Some image → (k : ℕ) → k < count → block_at image (place k) ≡ page k

-- the image has these bytes in an area, with zeros up to the end of their last block, and edit gates that were
-- written closed
pub record HasArea (area : ℕ) (bytes : List ℕ) (image : Image) : Type 0 where
  pub pages : (k : ℕ) → k < page_count bytes → block_at image (area_block area + k) ≡ page_of bytes k
  pub gates : (i : ℕ) → i < edit_slots → block_at image (edit_gate area i) ≡ gate_page false

-- the image has these bytes in an area, and the selector that was written for that area
pub record HasSelected (area : ℕ) (bytes : List ℕ) (image : Image) : Type 0 where
  pub written : HasArea area bytes image
  pub selector : block_at image selector_block ≡ block_of (area ∷ [])

-- the block is one of an area
abbrev pub InArea : ℕ → ℕ → Type 0
InArea area n = (area_block area ≤ n) × (n < area_block (area + 1))

-- the block is the selector or one of an area
abbrev pub InSelected : ℕ → ℕ → Type 0
InSelected area n = (n ≡ selector_block) ⊎ InArea area n

-- the block is one of the edit slots of an area
abbrev pub InEdits : ℕ → ℕ → Type 0
InEdits area n = (edit_gate area 0 ≤ n) × (n < edit_gate area edit_slots)

-- where a device tells what it reads as, it told it before, and the same outside these blocks
pub record ComesFrom (inside : ℕ → Type 0) (old new : Option Image) : Type 0 where
  pub each : (image : Image) → new ≡ Some image
      → (before : Image) × (old ≡ Some before) × SameOutside inside before image

-- the blocks of an area are there, and these bytes fit in it
pub record FitsArea (area blocks : ℕ) (bytes : List ℕ) : Type 0 where
  pub area_is : area < 2
  pub within : 868 ≤ blocks
  pub room : length bytes ≤ 305 * 4096
