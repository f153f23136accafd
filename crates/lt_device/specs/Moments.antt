-- The images that a crash may leave, now and at each moment since an earlier one.
use Rattle.std.specs.Prelude.{◌≡◌, ◌⊎◌, ℕ, ◌≤◌, Bool, true, false, List, [], ◌∷◌, length, drop, slice_index_or}
use Rattle.std.specs.Prelude.{Option, Some, None}
use Rattle.lt_terms.specs.Bytes.{Image}
use Rattle.lt_device.specs.State.{IsCrashOf, SameOutside, Epoch, State}

-- a crash at this moment may leave this image; none is told where the device does not tell
pub record MayLeave (s : State) (left : Image) : Type 0 where
  pub shown : Image
  pub unsynced : List Bool
  pub shown_is : s.shown ≡ Some shown
  pub unsynced_is : s.unsynced ≡ Some unsynced
  pub crash : IsCrashOf shown unsynced left

-- a crash at this moment leaves none but images that have P
abbrev pub MayOnlyLeave : (Image → Type 0) → State → Type 0
MayOnlyLeave P s = (left : Image) → MayLeave s left → P left

-- how many epochs are told
abbrev pub length_of_past : Option (List Epoch) → ℕ
length_of_past None = 0
length_of_past (Some epochs) = length epochs

-- the moment, as the number of syncs that answered Ok: between two of them the images only grow more, so that those of
-- a moment inside a call are among those before it or after it
abbrev pub clock : State → ℕ
clock s = length_of_past s.past

-- a crash in one of these epochs may have left this image
abbrev pub InOneOf : List Epoch → Image → Type 0
InOneOf [] left = ⊥
InOneOf (e ∷ epochs) left = IsCrashOf e.shown e.unsynced left ⊎ InOneOf epochs left

-- a crash at some moment since t might have left this image; none is told where the device does not tell
pub record LeftSince (s : State) (t : ℕ) (left : Image) : Type 0 where
  pub epochs : List Epoch
  pub past_is : s.past ≡ Some epochs
  pub some_time : MayLeave s left ⊎ InOneOf (drop t epochs) left

-- what the device reads as is told, and is an image that a crash may leave now
pub record ShownNow (s : State) : Type 0 where
  pub image : Image
  pub shown : s.shown ≡ Some image
  pub tells : MayLeave s image

-- each image that a crash since old might have left has P
pub record Leaves (P : Image → Type 0) (old new : State) : Type 0 where
  pub later : clock old ≤ clock new
  -- those that a crash may leave now
  pub now : (left : Image) → MayLeave new left → P left
  -- those of each moment since
  pub each : (left : Image) → LeftSince new (clock old) left → P left
  -- for a run that began earlier
  pub before : (t : ℕ) (left : Image) → t ≤ clock old → LeftSince new t left → LeftSince old t left ⊎ P left
  -- and none of them is lost
  pub keeps : (t : ℕ) (left : Image) → t ≤ clock old → LeftSince old t left → LeftSince new t left
  -- a device that tells what it reads as, and the images that a crash may leave, still tells both
  pub shows : (image : Image) → old.shown ≡ Some image → MayLeave old image → ShownNow new

-- where a device tells what it reads as, it still tells it, and the same outside these blocks
pub record ShowsSameOutside (inside : ℕ → Type 0) (old new : Option Image) : Type 0 where
  pub each : (before : Image) → old ≡ Some before
      → (image : Image) × (new ≡ Some image) × SameOutside inside before image

-- an image that agrees, outside these blocks, with one that a crash may leave at this state
pub record IsNear (inside : ℕ → Type 0) (s : State) (left : Image) : Type 0 where
  pub image : Image
  pub was : MayLeave s image
  pub same : SameOutside inside image left

-- each image since old agrees, outside these blocks, with one that a crash could have left at old
abbrev pub ConfinedTo : (ℕ → Type 0) → State → State → Type 0
ConfinedTo inside old new = Leaves (IsNear inside old) old new

-- the blocks that were written since the last sync that answered Ok lie among these
pub record UnsyncedIn (inside : ℕ → Type 0) (s : State) : Type 0 where
  pub each : (flags : List Bool) → s.unsynced ≡ Some flags → (k : ℕ) → slice_index_or flags k false ≡ true → inside k
