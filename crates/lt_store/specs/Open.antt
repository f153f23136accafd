-- What an open store has of its device.
use Rattle.std.specs.Prelude.{◌≡◌, ℕ, ◌++◌, Bool, List, Option, length}
use Rattle.std.specs.List.{AllByRecursion}
use Rattle.lt_terms.specs.Items.{Item}
use Rattle.lt_device.specs.State as told
use Rattle.lt_language.specs.Machine.{State}
use Rattle.lt_format.specs.Layout.{blocks_needed}
use Rattle.lt_format.specs.Log.{items_in}
use Rattle.lt_format.specs.Snapshot.{Named}
use Rattle.lt_redo.specs.LogState.{LogState}
use Rattle.lt_redo.specs.Slots.{HasLog}
use Rattle.lt_image.specs.Standing.{after_writes}
use Rattle.lt_search.specs.Kept.{KeepsFilter, inner_tables}
use Rattle.lt_work.specs.Work.{IsTrueOn, WorkView}
use Rattle.lt_store.specs.Promise.{AtRest}

-- a store as its calls see it; `kept` has the filter blocks of tables, by extent, and `work` is what is to be done
-- between calls
pub record StoreView : Type 0 where
  pub is_up : Bool
  pub named : Named
  pub log : LogState
  pub memory : List Item
  pub taken : List Bool
  pub kept : List (Option (List ℕ))
  pub writes : ℕ
  pub work : WorkView

-- the tables of the inner nodes that a manifest names
abbrev pub inner_of : Named → List ℕ
inner_of n = inner_tables n.geometry.levels n.manifest.trie

-- The store is open on a device at rest for the state `durable`, which its manifest and the groups of its log
-- make; the memory table has their items and the pending ones, the filters of the inner tables are kept, and what the
-- work tells is true of what the device reads as.
pub record IsOpen (v : StoreView) (durable : State) (device : told.State) : Type 0 where
  pub rest : AtRest durable device
  pub named : rest.named ≡ v.named
  pub groups : List (List Item)
  pub log : HasLog v.named.geometry v.log.area v.log.writes groups rest.image
  pub slots : v.log.slots ≡ length groups
  pub memory : v.memory ≡ items_in groups ++ v.log.pending
  pub filters : AllByRecursion (KeepsFilter v.named.geometry v.kept rest.image) (inner_of v.named)
  pub work : IsTrueOn v.named rest.image v.work

-- the state that the store answers for: the durable one, and the pending writes
abbrev pub state_of : StoreView → State → State
state_of v durable = after_writes durable v.log.pending

-- how many extents the store has
abbrev pub extents_of : StoreView → ℕ
extents_of v = v.named.manifest.header.extents

-- how many blocks the store of a manifest uses
abbrev pub blocks_in : Named → ℕ
blocks_in n = blocks_needed n.geometry n.manifest.header.extents

-- how many blocks the store uses
abbrev pub blocks_of : StoreView → ℕ
blocks_of v = blocks_in v.named

-- both stores have the same geometry and the same number of extents
pub record SameRegions (v w : StoreView) : Type 0 where
  pub geometry : w.named.geometry ≡ v.named.geometry
  pub extents : extents_of w ≡ extents_of v
