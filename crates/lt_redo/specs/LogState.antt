-- What a log is in memory, and the facts that it keeps.
use Rattle.std.specs.Prelude.{◌≡◌, ℕ, ◌+◌, ◌-◌, ◌<◌, ◌≤◌, Bool, false, List, [], ◌∷◌, ◌++◌, IsTrue, length}
use Rattle.lt_terms.specs.Bytes.{Image}
use Rattle.lt_terms.specs.Items.{Item, item_cost, total_cost}
use Rattle.lt_device.specs.Moments.{Leaves, MayOnlyLeave}
use Rattle.lt_device.specs.State.{State}
use Rattle.lt_format.specs.declared.geometry.Geometry.{Geometry}
use Rattle.lt_format.specs.Layout.{is_geometry}
use Rattle.lt_format.specs.Log.{group_page, group_room, log_fits, items_in}
use Rattle.lt_redo.specs.Slots.{HasLog, HasLogOrLonger, HasZeroGates, HoldsPages, InLogArea, InSlot}

-- the log area, the number of writes at its start, how many of its slots hold a group, the items of the open group,
-- and whether the other area was cleared since the log came here
pub record LogState : Type 0 where
  pub geometry : Geometry
  pub area : ℕ
  pub writes : ℕ
  pub slots : ℕ
  pub pending : List Item
  pub cleared : Bool

-- there is such a log area, and it has so many slots
pub record IsPlace (g : Geometry) (area slots : ℕ) : Type 0 where
  pub valid : IsTrue (is_geometry g)
  pub area_is : area < 2
  pub within : slots ≤ g.slots

-- a log with this many groups, whose open group is empty, and whose other area is not known to be cleared
abbrev pub idle_log : Geometry → ℕ → ℕ → ℕ → LogState
idle_log g area writes slots =
    record { geometry = g; area = area; writes = writes; slots = slots; pending = []; cleared = false }

-- the image has these groups where this log lies
abbrev pub HasGroups : LogState → List (List Item) → Image → Type 0
HasGroups log groups image = HasLog log.geometry log.area log.writes groups image

-- the other log area
abbrev pub other_area : ℕ → ℕ
other_area area = 1 - area

-- the image has these groups in the other area, as a log that began there at this number of writes
abbrev pub HasOther : LogState → ℕ → List (List Item) → Image → Type 0
HasOther log writes groups image = HasLog log.geometry (other_area log.area) writes groups image

-- each image has an empty log in the other area, whatever number of writes it begins at
abbrev pub EmptiesOther : LogState → State → Type 0
EmptiesOther log new = (writes : ℕ) → MayOnlyLeave (HasOther log writes []) new

-- all gates of the other area are the page of a closed gate
abbrev pub HasZeroOther : LogState → Image → Type 0
HasZeroOther log image = HasZeroGates log.geometry (other_area log.area) image

-- the block is one of the other area
abbrev pub InOther : LogState → ℕ → Type 0
InOther log = InLogArea log.geometry (other_area log.area)

-- the block is one of the slot that the open group will take
abbrev pub InNextSlot : LogState → ℕ → Type 0
InNextSlot log = InSlot log.geometry log.area log.slots

-- how many slots hold a group once the open group is committed: an empty one is not written
abbrev pub slots_with : ℕ → List Item → ℕ
slots_with slots [] = slots
slots_with slots (item ∷ items) = slots + 1

-- the groups with the open group behind them, if it has an item
abbrev pub groups_with : List (List Item) → List Item → List (List Item)
groups_with groups [] = groups
groups_with groups (item ∷ items) = groups ++ (item ∷ items) ∷ []

-- the open group has no room for this item
abbrev pub HasNoRoom : LogState → Item → Type 0
HasNoRoom log item = group_room < total_cost log.pending + item_cost item

-- the log with this item behind those of its open group
abbrev pub with_pending : LogState → Item → LogState
with_pending log item = record log { pending = log.pending ++ item ∷ [] }

-- the log once its open group is committed
abbrev pub committed : LogState → LogState
committed log = record log { slots = slots_with log.slots log.pending; pending = [] }

-- the log once it went to the other area, where it starts at this number of writes
abbrev pub turned : LogState → ℕ → LogState
turned log writes = record log { area = other_area log.area; writes = writes; slots = 0; cleared = false }

-- there is a slot for the open group, where it has an item
abbrev pub HasSlot : LogState → Type 0
HasSlot log = 0 < length log.pending → log.slots < log.geometry.slots

-- each image since the old state has the log as it was there, or with the whole open group
abbrev pub AnyMoment : LogState → State → State → Type 0
AnyMoment log old new = (groups : List (List Item)) → length groups ≡ log.slots
    → IsTrue (log_fits log.writes (items_in (groups ++ log.pending ∷ []))) → MayOnlyLeave (HasGroups log groups) old
    → Leaves (HasLogOrLonger log.geometry log.area log.writes groups log.pending) old new

-- each image of the new state has the log as it was in the old one, with the whole open group
abbrev pub Committed : LogState → State → State → Type 0
Committed log old new = (groups : List (List Item)) → length groups ≡ log.slots
    → IsTrue (log_fits log.writes (items_in (groups ++ log.pending ∷ []))) → MayOnlyLeave (HasGroups log groups) old
    → MayOnlyLeave (HasGroups log (groups_with groups log.pending)) new

-- where the open group has an item, its slot holds it in its one spelling
abbrev pub Spelled : LogState → State → Type 0
Spelled log new = 0 < length log.pending
    → MayOnlyLeave (HoldsPages log.geometry log.area log.slots (group_page log.pending)) new
