-- The history of a device in memory, the newest first, and what it tells of the blocks that it led to.
use Rattle.std.specs.Prelude.{◌≡◌, ℕ, ◌-◌, ◌<◌, Bool, true, false, List, [], ◌∷◌, ◌++◌, length, map, replicate, drop}
use Rattle.std.specs.Prelude.{slice_index_or, slice_set}
use Rattle.lt_terms.specs.Bytes.{Image}
use Rattle.lt_device.specs.State.{Epoch}
use Rattle.lt_device.specs.declared.history.Entry.{Entry}
use Rattle.lt_device.specs.declared.history.History.{History}
use Rattle.lt_device.specs.declared.history.Step.{Step}
use Rattle.lt_device.specs.declared.history.Step.TheVariants.{Write, Sync}

-- a write of a block, with what the block held before; or a sync that answered Ok
pub data Made : Type 0 where
  wrote : ℕ → List ℕ → Made
  synced : Made

-- what an entry stands for
abbrev pub made_by : Step → List ℕ → Made
made_by (Write block) before = wrote block before
made_by Sync before = synced

-- what these entries stand for
abbrev pub made_of : List Entry → List Made
made_of entries = map (λ entry. made_by entry.step entry.before) entries

-- what was made so far, the newest first
abbrev pub made : History → List Made
made history = made_of (drop history.room history.entries.items)

-- this was added to the history, which had room for it
pub record Grows (newest : Made) (old new : History) : Type 0 where
  pub added : made new ≡ newest ∷ made old
  pub less_room : new.room ≡ old.room - 1
  pub same_limit : length new.entries.items ≡ length old.entries.items

-- the blocks as they were at the last sync, or where there is none at the start
abbrev pub stable_of : List Made → Image → Image
stable_of [] image = image
stable_of (wrote block before ∷ older) image = stable_of older (slice_set image block before)
stable_of (synced ∷ older) image = image

-- of so many blocks, which were written since the last sync
abbrev pub written_of : ℕ → List Made → List Bool
written_of blocks [] = replicate blocks false
written_of blocks (wrote block before ∷ older) = slice_set (written_of blocks older) block true
written_of blocks (synced ∷ older) = replicate blocks false

-- the epochs that ended
abbrev pub past_of : List Made → Image → List Epoch
past_of [] image = []
past_of (wrote block before ∷ older) image = past_of older (slice_set image block before)
past_of (synced ∷ older) image =
    past_of older image ++ record { shown = image; unsynced = written_of (length image) older } ∷ []

-- each write is of one of so many blocks
abbrev pub WritesBelow : ℕ → List Made → Type 0
WritesBelow blocks [] = Unit {0}
WritesBelow blocks (wrote block before ∷ older) = (block < blocks) × WritesBelow blocks older
WritesBelow blocks (synced ∷ older) = WritesBelow blocks older

-- a history fits a device of so many blocks, of which these were written since the last sync
pub record IsHistoryOf (blocks : ℕ) (unsynced : List Bool) (room : ℕ) (history : List Made) : Type 0 where
  pub below : WritesBelow blocks history
  -- a block that is not unsynced was not written since
  pub sure : (k : ℕ) → slice_index_or unsynced k false ≡ false
      → slice_index_or (written_of blocks history) k false ≡ false
  -- and no other is, as long as each write had room
  pub exact : 0 < room → unsynced ≡ written_of blocks history
