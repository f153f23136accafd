-- What a flush does to the store in memory.
use Rattle.std.specs.Prelude.{◌≡◌, ℕ, ◌<◌, ◌≤◌, Bool, true, false, List, [], length, IsTrue}
use Rattle.std.specs.List.{AllByRecursion}
use Rattle.lt_device.specs.Moments.{Leaves, MayLeave}
use Rattle.lt_device.specs.State as told
use Rattle.lt_language.specs.Machine.{State}
use Rattle.lt_terms.specs.Bytes.{is_in, Image}
use Rattle.lt_alloc.specs.declared.extents.Short.{Short}
use Rattle.lt_alloc.specs.Extents.{free_count}
use Rattle.lt_tables.specs.Cut.{cut, table_total}
use Rattle.lt_tables.specs.Table.{newest}
use Rattle.lt_terms.specs.Items.{Item}
use Rattle.lt_format.specs.declared.header.Header.{Header}
use Rattle.lt_format.specs.Changes.{flush}
use Rattle.lt_format.specs.Snapshot.{Named, after_commit}
use Rattle.lt_format.specs.Trie.{all_distinct, named}
use Rattle.lt_redo.specs.LogState.{LogState, idle_log, other_area}
use Rattle.lt_redo.specs.Slots.{HasLog}
use Rattle.lt_image.specs.After.{PlacedIn}
use Rattle.lt_image.specs.Standing.{Stands}
use Rattle.lt_search.specs.Kept.{KeepsFilter}
use Rattle.lt_manifest.specs.Promise as opened
use Rattle.lt_work.specs.Work.{WorkView, flushed_work, reserved_by}
use Rattle.lt_store.specs.Kept.{IsKept}
use Rattle.lt_store.specs.Open.{StoreView}

-- each image since stands for the state
abbrev pub Stays : State → told.State → told.State → Type 0
Stays d old new = Leaves (λ left. Stands left d) old new

-- the facts that a store keeps, with these flags of its extents
abbrev pub KeptWith : StoreView → List Bool → Type 0
KeptWith v taken = IsKept v.named v.log v.memory taken (length v.kept) v.writes v.work

-- the facts that a store keeps, for some flags of its extents
pub record SomeKept (v : StoreView) : Type 0 where
  pub taken : List Bool
  pub kept : KeptWith v taken

-- these extents are the store's, and none is named or reserved by the job in flight
pub record AreFree (m : Named) (work : WorkView) (numbers : List ℕ) : Type 0 where
  pub below : (x : ℕ) → is_in x numbers ≡ true → x < m.manifest.header.extents
  pub unnamed : (x : ℕ) → is_in x numbers ≡ true → is_in x (named m.manifest.trie) ≡ false
  pub unreserved : (x : ℕ) → is_in x numbers ≡ true → is_in x (reserved_by work) ≡ false

-- the store keeps its facts but for the extents, of which these are free and reserved; nothing is pending
pub record IsReserved (v : StoreView) (numbers : List ℕ) : Type 0 where
  pub kept : SomeKept v
  pub idle : v.log.pending ≡ []
  pub some : 1 ≤ length numbers
  pub distinct : IsTrue (all_distinct numbers)
  pub free : AreFree v.named v.work numbers

-- the header after a flush: the other log area, and all writes
abbrev pub flush_header : StoreView → Header
flush_header v = record {
  log_area = other_area v.named.manifest.header.log_area;
  extents = v.named.manifest.header.extents;
  writes = v.writes;
}

-- the log after a flush: the other area, empty, behind all writes
abbrev pub flushed_log : LogState → Header → LogState
flushed_log log header = idle_log log.geometry (other_area log.area) header.writes 0

-- the store after a flush
abbrev pub flushed : StoreView → Named → Header → StoreView
flushed v n header =
    record v { named = n; log = flushed_log v.log header; memory = []; work = flushed_work v.work }

-- the other log area is empty, and the tables of the memory table's newest items stand in these extents, with
-- their filters kept
pub record IsPrepared (v : StoreView) (numbers : List ℕ) (image : Image) : Type 0 where
  pub clear : HasLog v.named.geometry (other_area v.named.manifest.header.log_area) v.writes [] image
  pub placed : PlacedIn v.named.geometry image numbers (cut (newest v.memory))
  pub filters : AllByRecursion (KeepsFilter v.named.geometry v.kept image) numbers

-- the tables of these items' newest are more than the free extents
pub record IsShort (memory : List Item) (taken : List Bool) (short : Short) : Type 0 where
  pub needed : short.needed ≡ table_total (newest memory)
  pub free : short.free ≡ free_count taken
  pub few : short.free < short.needed

-- in each image that a crash may leave, the tables of the memory table's newest items stand in these extents
abbrev pub HasTables : StoreView → List ℕ → told.State → Type 0
HasTables v numbers device = (left : Image) → MayLeave device left
    → PlacedIn v.named.geometry left numbers (cut (newest v.memory))

-- The store was flushed: the tables of the memory table's newest items stand behind those of the root, and
-- nothing else of the trie changed; the log is the other area's and empty, and so is the memory table; the job in
-- flight goes on, and no node is passed over any more.
pub record IsFlushed (v w : StoreView) (device : told.State) : Type 0 where
  pub numbers : List ℕ
  pub tables : HasTables v numbers device
  pub manifest : w.named.manifest ≡ after_commit v.named.manifest (flush numbers) (flush_header v)
  pub log : w.log ≡ flushed_log v.log (flush_header v)
  pub memory : w.memory ≡ []
  pub writes : w.writes ≡ v.writes
  pub work : w.work ≡ flushed_work v.work

-- the store is down, with its extents, its number of writes, its geometry, the room for filters and the job in flight
-- as before
pub record StaysDown (v w : StoreView) : Type 0 where
  pub down : w.is_up ≡ false
  pub same_extents : w.taken ≡ v.taken
  pub same_writes : w.writes ≡ v.writes
  pub geometry : w.named.geometry ≡ v.named.geometry
  pub room : length w.kept ≡ length v.kept
  pub same_job : w.work.job ≡ v.work.job

-- the manifest was committed with these tables, and nothing but the filters differs from the store after a flush
pub record HasCommitted (v w : StoreView) (numbers : List ℕ) : Type 0 where
  pub manifest : w.named.manifest ≡ after_commit v.named.manifest (flush numbers) (flush_header v)
  pub stands : opened.IsKept w.named
  pub is : w ≡ flushed (record v { kept = w.kept }) w.named (flush_header v)
