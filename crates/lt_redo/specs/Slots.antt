-- The slots of a log area on an image, and what one more group makes of its log.
use Rattle.std.specs.Prelude.{◌≡◌, ◌⊎◌, ℕ, ◌<◌, ◌≤◌, true, false, List, [], ◌∷◌, ◌++◌, length, Ok, Some}
use Rattle.lt_terms.specs.Bytes.{Image, block_at}
use Rattle.lt_terms.specs.Items.{Item}
use Rattle.lt_device.specs.Moments.{Leaves, MayOnlyLeave, UnsyncedIn}
use Rattle.lt_device.specs.State.{State}
use Rattle.lt_format.specs.declared.geometry.Geometry.{Geometry}
use Rattle.lt_format.specs.Layout.{is_open, log_gate, log_content, gate_page}
use Rattle.lt_format.specs.Log.{log_groups, log_fits, items_in, group_on}

-- the block is the gate or the content of this slot of log area b
abbrev pub InSlot : Geometry → ℕ → ℕ → ℕ → Type 0
InSlot g b slot n = (n ≡ log_gate g b slot) ⊎ (n ≡ log_content g b slot)

-- the image has these groups in log area b, the log having begun at this number of writes
pub record HasLog (g : Geometry) (b writes : ℕ) (groups : List (List Item)) (image : Image) : Type 0 where
  pub read : log_groups g image b writes ≡ Ok groups

-- it has these groups, or one more
pub record HasLogOrLonger (g : Geometry) (b writes : ℕ) (groups : List (List Item)) (group : List Item)
    (image : Image) : Type 0 where
  pub either : HasLog g b writes groups image ⊎ HasLog g b writes (groups ++ group ∷ []) image

-- this content spells the group, which may follow these
pub record MayFollow (g : Geometry) (writes : ℕ) (groups : List (List Item)) (group : List Item)
    (content : List ℕ) : Type 0 where
  pub room : length groups < g.slots
  pub spelled : group_on content ≡ Some group
  pub fits : log_fits writes (items_in (groups ++ group ∷ [])) ≡ true

-- each image since the old state has the log as it was there, or with the whole group of this content in its next slot
abbrev pub WritesGroup : Geometry → ℕ → ℕ → List ℕ → State → State → Type 0
WritesGroup g b slot content old new = (writes : ℕ) (groups : List (List Item)) (group : List Item)
    → length groups ≡ slot → MayFollow g writes groups group content → MayOnlyLeave (HasLog g b writes groups) old
    → Leaves (HasLogOrLonger g b writes groups group) old new

-- the block is one of log area b
abbrev pub InLogArea : Geometry → ℕ → ℕ → Type 0
InLogArea g b n = (log_gate g b 0 ≤ n) × (n < log_gate g b g.slots)

-- so many blocks have log area b
abbrev pub LiesWithin : Geometry → ℕ → ℕ → Type 0
LiesWithin g b blocks = log_gate g b g.slots ≤ blocks

-- a log is told by the blocks of its area alone
abbrev pub LogsAreLocal : Type 0
LogsAreLocal = (g : Geometry) (b writes : ℕ) (groups : List (List Item)) (image left : Image)
    → ((n : ℕ) → InLogArea g b n → block_at left n ≡ block_at image n)
    → HasLog g b writes groups image → HasLog g b writes groups left

-- all gates of log area b are closed
pub record IsCleared (g : Geometry) (b : ℕ) (image : Image) : Type 0 where
  pub gates : (k : ℕ) → k < g.slots → is_open (block_at image (log_gate g b k)) ≡ false

-- all gates of log area b are the page of a closed gate
pub record HasZeroGates (g : Geometry) (b : ℕ) (image : Image) : Type 0 where
  pub gates : (k : ℕ) → k < g.slots → block_at image (log_gate g b k) ≡ gate_page false

-- the gate of this slot of log area b is the page of an open gate, and its content is this page
pub record HoldsPages (g : Geometry) (b slot : ℕ) (content : List ℕ) (image : Image) : Type 0 where
  pub gate : block_at image (log_gate g b slot) ≡ gate_page true
  pub page : block_at image (log_content g b slot) ≡ content

-- each image of the new state has the log as it was in the old one, with the whole group of this content in its next
-- slot, which holds these pages whatever stood there; and all that was written is sure
pub record HasWritten (g : Geometry) (b slot : ℕ) (content : List ℕ) (old new : State) : Type 0 where
  pub committed : (writes : ℕ) (groups : List (List Item)) (group : List Item) → length groups ≡ slot
      → MayFollow g writes groups group content → MayOnlyLeave (HasLog g b writes groups) old
      → MayOnlyLeave (HasLog g b writes (groups ++ group ∷ [])) new
  pub pages : MayOnlyLeave (HoldsPages g b slot content) new
  pub sure : UnsyncedIn (λ _. ⊥) new
