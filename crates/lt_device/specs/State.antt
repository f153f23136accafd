-- What a crash may make of the blocks of a device; what a device tells of itself, and how its calls change that.
use Rattle.std.specs.Prelude.{◌≡◌, ℕ, Bool, false, List, length, slice_index_or, ◌⊎◌, true, [], ◌∷◌, ◌++◌, map}
use Rattle.std.specs.Prelude.{slice_set, Option, Some, None}
use Rattle.std.specs.Option.{option_map}
use Rattle.lt_terms.specs.Bytes.{Image, AreBlocks, block_at, IsBlock}

-- so many blocks
pub record IsWhole (blocks : ℕ) (image : Image) : Type 0 where
  pub size : length image ≡ blocks
  pub pages : AreBlocks image

-- all blocks but these are the same
pub record SameOutside (inside : ℕ → Type 0) (old new : Image) : Type 0 where
  pub size : length new ≡ length old
  pub others : (k : ℕ) → ¬ inside k → block_at new k ≡ block_at old k

-- what a crash may make of an image: a block that was not written since the last sync stays, and any other is any page
pub record IsCrashOf (image : Image) (unsynced : List Bool) (left : Image) : Type 0 where
  pub size : length left ≡ length image
  pub kept : (k : ℕ) → slice_index_or unsynced k false ≡ false → block_at left k ≡ block_at image k
  pub pages : AreBlocks left

-- a device just before a sync that answered Ok: its blocks, and which of them were written since the sync before
pub record Epoch : Type 0 where
  pub shown : Image
  pub unsynced : List Bool

-- what a device tells of itself, or None where it does not tell: its blocks as they read now, which of them were
-- written since the last sync that answered Ok, and the epochs that ended so far
pub record State : Type 0 where
  pub shown : Option Image
  pub unsynced : Option (List Bool)
  pub past : Option (List Epoch)

-- it tells nothing
abbrev pub tells_nothing : State
tells_nothing = record { shown = None; unsynced = None; past = None }

-- one block reads as this page, and is unsynced
abbrev pub written : State → ℕ → List ℕ → State
written s block page = record {
  shown = option_map (λ image. slice_set image block page) s.shown;
  unsynced = option_map (λ flags. slice_set flags block true) s.unsynced;
  past = s.past;
}

-- a past with one epoch more
abbrev pub longer_past : Option Image → Option (List Bool) → Option (List Epoch) → Option (List Epoch)
longer_past (Some image) (Some flags) (Some epochs) = Some (epochs ++ record { shown = image; unsynced = flags } ∷ [])
longer_past shown unsynced past = past

-- every block is synced
abbrev pub synced : State → State
synced s = record {
  shown = s.shown;
  unsynced = option_map (map (λ _. false)) s.unsynced;
  past = longer_past s.shown s.unsynced s.past;
}

-- what is told has the device's size, and nothing is told without what it rests on
pub record IsFit (blocks : ℕ) (s : State) : Type 0 where
  pub shown : (image : Image) → s.shown ≡ Some image → IsWhole blocks image
  pub unsynced : (flags : List Bool) → s.unsynced ≡ Some flags
      → (image : Image) × (s.shown ≡ Some image) × (length flags ≡ blocks)
  pub past : (epochs : List Epoch) → s.past ≡ Some epochs → (flags : List Bool) × (s.unsynced ≡ Some flags)

-- a write, whatever it answered: the block reads as some page, and is unsynced
pub record Wrote (blocks block : ℕ) (old new : State) : Type 0 where
  pub fit : IsFit blocks old
  pub page : List ℕ
  pub whole : IsBlock page
  pub is : new ≡ written old block page

-- a sync, whatever it answered: all is as it was, or synced
pub record EndedSync (blocks : ℕ) (old new : State) : Type 0 where
  pub fit : IsFit blocks old
  pub either : (new ≡ old) ⊎ (new ≡ synced old)
