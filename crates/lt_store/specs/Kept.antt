-- What a store keeps in memory, and the facts of it that hold whatever its device tells.
use Rattle.std.specs.Prelude.{◌≡◌, ℕ, ◌+◌, ◌-◌, ◌*◌, ◌<◌, ◌≤◌, Bool, List, ◌++◌, length, take, IsTrue}
use Rattle.lt_terms.specs.Items.{Item, total_cost}
use Rattle.lt_alloc.specs.Extents.{AreTaken}
use Rattle.lt_format.specs.Log.{group_room, log_fits}
use Rattle.lt_format.specs.Snapshot.{Named}
use Rattle.lt_format.specs.Trie.{named}
use Rattle.lt_manifest.specs.Promise as opened
use Rattle.lt_redo.specs.LogState.{LogState}
use Rattle.lt_work.specs.Work.{SuitsTrie, WorkView, reserved_by}

-- how many of the items in the memory table stand in the log's groups; the others are pending
abbrev pub logged_count : LogState → List Item → ℕ
logged_count log memory = length memory - length log.pending

-- the items in the memory table that stand in the log's groups
abbrev pub logged : LogState → List Item → List Item
logged log memory = take (logged_count log memory) memory

-- the extents that are in use: those that the manifest names, and those that the job in flight has reserved
abbrev pub in_use : Named → WorkView → List ℕ
in_use n work = named n.manifest.trie ++ reserved_by work

-- The log is that of the manifest; the memory table is the log's items and the pending ones, and fits; the
-- number of writes counts them all; each group has an item; a group that is open has a slot and room for its items, of
-- which each costs 5 bytes or more; the extents that are taken are those in use, and there is a place for the filters
-- of each; and the work goes with the manifest's trie.
pub record IsKept (n : Named) (log : LogState) (memory : List Item) (taken : List Bool)
    (filters writes : ℕ) (work : WorkView) : Type 0 where
  pub manifest : opened.IsKept n
  pub geometry : log.geometry ≡ n.geometry
  pub area : log.area ≡ n.manifest.header.log_area
  pub start : log.writes ≡ n.manifest.header.writes
  pub items : memory ≡ logged log memory ++ log.pending
  pub fits : IsTrue (log_fits n.manifest.header.writes memory)
  pub number : writes ≡ n.manifest.header.writes + length memory
  pub enough : log.slots ≤ logged_count log memory
  pub within : log.slots ≤ n.geometry.slots
  pub slot : 0 < length log.pending → log.slots < n.geometry.slots
  pub room : total_cost log.pending ≤ group_room
  pub least : 5 * length log.pending ≤ total_cost log.pending
  pub taken_in_use : AreTaken n.manifest.header.extents (in_use n work) taken
  pub suits : SuitsTrie n.geometry.levels n.manifest.trie taken work
  pub filters_len : filters ≡ n.manifest.header.extents
