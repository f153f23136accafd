-- What a write that was taken leaves, and when one is refused for want of extents.
use Rattle.std.specs.Prelude.{◌≡◌, ℕ, ◌+◌, ◌*◌, ◌<◌, Bool, ◌&&◌, ◌||◌, List, [], ◌∷◌, IsTrue, nat_le, nat_lt, ◌==◌}
use Rattle.std.specs.Prelude.{length, if◌then◌else◌}
use Rattle.lt_terms.specs.Bytes.{Image}
use Rattle.lt_terms.specs.Items.{Item, total_cost}
use Rattle.lt_device.specs.Moments.{MayLeave}
use Rattle.lt_device.specs.State as told
use Rattle.lt_tables.specs.Cut.{table_total}
use Rattle.lt_tables.specs.Table.{newest}
use Rattle.lt_alloc.specs.Extents.{free_count}
use Rattle.lt_format.specs.Log.{group_room}
use Rattle.lt_image.specs.Pressure.{IsFullImage}
use Rattle.lt_store.specs.declared.writing.Taken.{Taken}
use Rattle.lt_store.specs.declared.writing.Taken.TheVariants as taken
use Rattle.lt_store.specs.Committing.{committed}
use Rattle.lt_store.specs.Open.{StoreView, extents_of}

-- the write, where it was taken
abbrev pub accepted_by : Item → Taken → List Item
accepted_by item taken.Ok = item ∷ []
accepted_by item (taken.Full needed free) = []
accepted_by item taken.Limit = []

-- the open group is empty, and no slot is left for it or the items of the log cost too much
abbrev pub is_due : StoreView → Bool
is_due v = length v.log.pending == 0 && (v.log.slots == v.named.geometry.slots || nat_lt 200000 (total_cost v.memory))

-- the store as a write of this cost finds it: its open group is committed where the item has no room in it,
-- or where the memory table has too many bytes
abbrev pub readied : StoreView → ℕ → StoreView
readied v cost = if nat_le (total_cost v.log.pending + cost) group_room && nat_le
    (total_cost v.memory) 200000 then v else committed v

-- each image that a crash may leave is full, with these numbers, and the extents are fewer than twice the writes
abbrev pub LeavesFull : StoreView → told.State → ℕ → ℕ → Type 0
LeavesFull v device needed free =
    ((left : Image) → MayLeave device left → IsFullImage left needed free) × (extents_of v < 2 * v.writes)

-- a flush is due, and gives more tables than extents are free
pub record IsFull (v : StoreView) (needed free : ℕ) : Type 0 where
  pub due : IsTrue (is_due v)
  pub needs : needed ≡ table_total (newest v.memory)
  pub has : free ≡ free_count v.taken
  pub short : free < needed
