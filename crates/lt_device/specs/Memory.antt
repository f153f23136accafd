-- A device in memory that can fail: what it holds, what it tells, and how its calls change it.
use Rattle.std.specs.Prelude.{◌≡◌, ℕ, ◌-◌, ◌==◌, Bool, true, false, ◌||◌, List, [], ◌∷◌, ◌++◌, length, map, take}
use Rattle.std.specs.Prelude.{replicate, count_by, nat_le, slice_index_or, slice_set, Option, Some, None, if◌then◌else◌}
use Rattle.std.specs.List.{All, list_any}
use Rattle.lt_terms.specs.Bytes.{Image, block_at}
use Rattle.lt_terms.specs.Causes.{next_count}
use Rattle.lt_device.specs.Moments.{MayLeave}
use Rattle.lt_device.specs.State.{Epoch, State, Wrote}
use Rattle.lt_device.specs.declared.device.Device.{Ghosts}
use Rattle.lt_device.specs.declared.pick.Pick.{Pick}
use Rattle.lt_device.specs.declared.pick.Pick.TheVariants.{Stable, Written, Filled}

-- a device in memory
pub record Memory : Type 0 where
  -- the blocks as they read now, and as they were at the last sync that answered Ok
  pub shown : Image
  pub stable : Image
  -- which of them were written since then
  pub unsynced : List Bool
  -- the epochs that ended with a sync that answered Ok
  pub past : List Epoch
  -- how many writes and syncs the history holds, and how many more it has room for
  pub limit : ℕ
  pub room : ℕ
  pub reads : ℕ
  pub faults : ℕ
  -- the number of the next call of read, write or sync; those that fail, and the first of those that all fail
  pub calls : ℕ
  pub failing : List ℕ
  pub stop : Option ℕ

-- it tells all
abbrev pub memory_state : Memory → State
memory_state d = record { shown = Some d.shown; unsynced = Some d.unsynced; past = Some d.past }

-- what a device in memory says of itself
abbrev pub memory_device : Ghosts Memory
memory_device = record {
  blocks = λ d. length d.shown;
  reads = λ d. d.reads;
  faults = λ d. d.faults;
  state = memory_state;
}

-- a device over these blocks that nothing happened to
abbrev pub fresh : Image → ℕ → List ℕ → Option ℕ → Memory
fresh image limit failing stop = record {
  shown = image;
  stable = image;
  unsynced = replicate (length image) false;
  past = [];
  limit = limit;
  room = limit;
  reads = 0;
  faults = 0;
  calls = 0;
  failing = failing;
  stop = stop;
}

-- ---- which calls fail

-- the call stands at the stop or behind it
abbrev pub is_stopped : Option ℕ → ℕ → Bool
is_stopped None call = false
is_stopped (Some stop) call = nat_le stop call

-- the next call is listed, or stands at the stop or behind it
abbrev pub is_failing : Memory → Bool
is_failing d = list_any (λ call. call == d.calls) d.failing || is_stopped d.stop d.calls

-- the history has no room for a write or a sync
abbrev pub is_full : Memory → Bool
is_full d = d.room == 0

-- ---- how calls change it

-- one call more, which failed or did not
abbrev pub called : Memory → Bool → Memory
called d failed = record d { calls = next_count d.calls; faults = if failed then next_count d.faults else d.faults }

-- a read that fails is not counted as one
abbrev pub after_read : Memory → Memory
after_read d = if is_failing d then called d true else called (record d { reads = next_count d.reads }) false

-- a write that is recorded is made, also where it fails
abbrev pub recorded : Memory → ℕ → List ℕ → Memory
recorded d block page = record d {
  shown = slice_set d.shown block page;
  unsynced = slice_set d.unsynced block true;
  room = d.room - 1;
}

-- a write that is not recorded leaves the block as it reads, but unsynced
abbrev pub left_unsynced : Memory → ℕ → Memory
left_unsynced d block = record d { unsynced = slice_set d.unsynced block true }

-- a write fails where it is told to, and where the history has no room
abbrev pub after_write : Memory → ℕ → List ℕ → Memory
after_write d block page =
    called (if is_full d then left_unsynced d block else recorded d block page) (is_failing d || is_full d)

-- what the device tells then is what a write of the block leaves, whatever it answered
abbrev pub TellsWrite : ℕ → Memory → Memory → Type 0
TellsWrite block old new = Wrote (length old.shown) block (memory_state old) (memory_state new)

-- all blocks are synced
abbrev pub all_synced : Memory → Memory
all_synced d = record d {
  stable = d.shown;
  unsynced = map (λ _. false) d.unsynced;
  past = d.past ++ record { shown = d.shown; unsynced = d.unsynced } ∷ [];
  room = d.room - 1;
}

-- a sync that fails does nothing
abbrev pub after_sync : Memory → Memory
after_sync d = if is_failing d || is_full d then called d true else called (all_synced d) false

-- ---- crash and patch

-- no block was written since the last sync that answered Ok
abbrev pub IsSynced : Memory → Type 0
IsSynced d = All (λ flag. flag ≡ false) d.unsynced

-- one block set, as it reads and as it is stable, and an empty history
abbrev pub patched : Memory → ℕ → List ℕ → Memory
patched d block page = record d {
  shown = slice_set d.shown block page;
  stable = slice_set d.stable block page;
  past = [];
  room = d.limit;
}

-- a page of one byte
unfoldable pub filled_with : ℕ → List ℕ
filled_with byte = replicate 4096 byte

-- what a pick makes of a block, by what it was at the last sync and as it reads
abbrev pub picked : Pick → List ℕ → List ℕ → List ℕ
picked Stable stable shown = stable
picked Written stable shown = shown
picked (Filled byte) stable shown = filled_with byte

-- the pick of an unsynced block: as many picks stand before it as unsynced blocks; past the list it is Stable
abbrev pub pick_of : List Pick → List Bool → ℕ → Pick
pick_of picks unsynced block = slice_index_or picks (count_by (λ flag. flag) (take block unsynced)) Stable

-- what these picks leave of a block, by the blocks as they were at the last sync and as they read
abbrev pub left_at : List Pick → List Bool → Image → Image → ℕ → List ℕ
left_at picks unsynced stable shown k =
    if slice_index_or unsynced k false then picked (pick_of picks unsynced k) (block_at stable k) (block_at shown k)
    else block_at stable k

-- the image that these picks name
pub record IsPicked (picks : List Pick) (d : Memory) (left : Image) : Type 0 where
  pub size : length left ≡ length d.shown
  pub synced : (k : ℕ) → slice_index_or d.unsynced k false ≡ false → block_at left k ≡ block_at d.shown k
  pub unsynced : (k : ℕ) → slice_index_or d.unsynced k false ≡ true
      → block_at left k ≡ picked (pick_of picks d.unsynced k) (block_at d.stable k) (block_at d.shown k)

-- this is the image that these picks name, and a crash may leave it
pub record IsLeft (picks : List Pick) (d : Memory) (left : Image) : Type 0 where
  pub picked : IsPicked picks d left
  pub may : MayLeave (memory_state d) left
