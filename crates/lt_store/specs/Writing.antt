-- What becomes of a put or a delete.
use Rattle.std.specs.Prelude.{◌≡◌, ◌≢◌, ℕ, ◌+◌, ◌≤◌, true, false, Option, None, IfSome, [], length}
use Rattle.lt_terms.specs.Causes.{Rose}
use Rattle.lt_terms.specs.Items.{Item, item_cost, total_cost}
use Rattle.lt_device.specs.declared.device.Device.{Ghosts}
use Rattle.lt_format.specs.Log.{group_room}
use Rattle.lt_language.specs.Machine.{State, most_writes}
use Rattle.lt_store.specs.declared.faults.WriteFault.{WriteFault}
use Rattle.lt_store.specs.declared.faults.WriteFault.TheVariants.{Damaged, Device, NoMemory}
use Rattle.lt_store.specs.declared.writing.Taken.{Taken}
use Rattle.lt_store.specs.declared.writing.Taken.TheVariants.{Ok, Full, Limit}
use Rattle.lt_store.specs.Flushing.{IsFlushed}
use Rattle.lt_store.specs.Going.{Goes, appended}
use Rattle.lt_store.specs.Open.{IsOpen, SameRegions, StoreView}
use Rattle.lt_store.specs.Taking.{LeavesFull, accepted_by, is_due, readied}

-- The item was put or deleted in the store `v`, which is `w` now; `answered` and `failed` say what the call
-- answered. At the limit nothing has changed. Else the open group was committed where the item has no room in
-- it; memory is short, and extents are, only where a flush is due then. A job in flight may have reserved what a flush
-- lacks.
pub record Writes {T : Type 0} (D : Ghosts T) (item : Item) (v w : StoreView) (answered : Taken
    → Type 0) (failed : WriteFault → Type 0) (old new : T) : Type 0 where
  pub unchanged : answered Limit → (w ≡ v) × (new ≡ old)
  pub not_due : is_due (readied v (item_cost item)) ≡ false → answered Ok
      → w ≡ appended (readied v (item_cost item)) item
  pub memory : failed NoMemory → is_due (readied v (item_cost item)) ≡ true
  -- with room in the open group and no flush due, no call of the device is made
  pub at_once : is_due v ≡ false → total_cost v.memory ≤ 200000
      → total_cost v.log.pending + item_cost item ≤ group_room → v.writes ≢ most_writes
      → answered Ok × (new ≡ old)
  pub number : (answer : Taken) → answered answer → w.writes ≡ v.writes + length (accepted_by item answer)
  pub same_number : failed NoMemory → w.writes ≡ v.writes
  pub regions : w.is_up ≡ true → SameRegions v w
  -- the device keeps its size, and a fault of it is its own
  pub size : D.blocks new ≡ D.blocks old
  pub later : D.faults old ≤ D.faults new
  pub cause : failed Device → Rose (D.faults old) (D.faults new)
  -- where the store is open on the device
  pub refused : failed NoMemory → (durable : State) → IsOpen v durable (D.state old)
      → Goes v [] w durable (D.state old) (D.state new)
  pub full_images : (needed free : ℕ) → answered (Full needed free) → v.work.job ≡ None → (durable : State)
      → IsOpen v durable (D.state old) → LeavesFull v (D.state new) needed free

-- What holds of a call as long as no write moves a table down the trie; `written` is the item that it writes, if
-- any. A flush adds tables to the root and changes nothing else of the trie, a write that is refused for want of
-- extents only commits the open group, and a write reads no block.
pub record InPlace {T : Type 0} (D : Ghosts T) (written : Option Item) (v w : StoreView)
    (answered : Taken → Type 0) (failed : WriteFault → Type 0) (old new : T) : Type 0 where
  pub flushed : IfSome written (λ item. is_due (readied v (item_cost item)) ≡ true → answered Ok
      → (durable : State) → IsOpen v durable (D.state old)
      → (flushed : StoreView) × IsFlushed (readied v (item_cost item)) flushed (D.state new)
      × (w ≡ appended flushed item))
  pub full_same : IfSome written (λ item. (needed free : ℕ) → answered (Full needed free)
      → w ≡ readied v (item_cost item))
  pub full_quiet : (needed free : ℕ) → answered (Full needed free) → v.log.pending ≡ [] → new ≡ old
  pub count : IfSome written (λ item. D.reads new ≡ D.reads old)
  pub undamaged : IfSome written (λ item. (b : ℕ) → failed (Damaged b) → ⊥)
