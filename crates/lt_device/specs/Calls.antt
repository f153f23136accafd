-- What calls of a device leave of it, whatever it is, and that a fault of the device is its own.
use Rattle.std.specs.Prelude.{◌≡◌, ℕ, ◌≤◌, List, Result, OnOk, OnErr}
use Rattle.std.specs.Option.{ForSome}
use Rattle.lt_terms.specs.Bytes.{block_at}
use Rattle.lt_terms.specs.Causes.{CountsOne, HasCause, Rose}
use Rattle.lt_device.specs.Moments.{ConfinedTo, ShowsSameOutside}
use Rattle.lt_device.specs.Reads.{CountsAtMost}
use Rattle.lt_device.specs.State.{EndedSync, Wrote, synced, written}
use Rattle.lt_device.specs.declared.device.Device.{Ghosts}

-- The calls only read, so many blocks at most: what the device tells stays as it was. The count of its faults never
-- falls, and it rose where the answer says that the device failed.
pub record OnlyReads {D : Type 0} (g : Ghosts D) (most : ℕ) (failed : Type 0) (old new : D) : Type 0 where
  pub state : g.state new ≡ g.state old
  pub size : g.blocks new ≡ g.blocks old
  pub count : CountsAtMost most (g.reads old) (g.reads new)
  pub later : g.faults old ≤ g.faults new
  pub cause : failed → Rose (g.faults old) (g.faults new)

-- The calls only write and sync: no read is counted. The count of the device's faults never falls, and it rose where
-- the answer says that the device failed.
pub record OnlyWrites {D : Type 0} (g : Ghosts D) (failed : Type 0) (old new : D) : Type 0 where
  pub size : g.blocks new ≡ g.blocks old
  pub count : g.reads new ≡ g.reads old
  pub later : g.faults old ≤ g.faults new
  pub cause : failed → Rose (g.faults old) (g.faults new)

-- The calls read, so many blocks at most, write and sync. The count of the device's faults never falls, and it rose
-- where the answer says that the device failed.
pub record ReadsAndWrites {D : Type 0} (g : Ghosts D) (most : ℕ) (failed : Type 0) (old new : D) : Type 0 where
  pub size : g.blocks new ≡ g.blocks old
  pub count : CountsAtMost most (g.reads old) (g.reads new)
  pub later : g.faults old ≤ g.faults new
  pub cause : failed → Rose (g.faults old) (g.faults new)

-- The calls touch none but these blocks: each image since agrees outside them with one that a crash could have left
-- before, and there the device reads as before.
pub record TouchesOnly {D : Type 0} (g : Ghosts D) (inside : ℕ → Type 0) (old new : D) : Type 0 where
  pub confined : ConfinedTo inside (g.state old) (g.state new)
  pub others : ShowsSameOutside inside (g.state old).shown (g.state new).shown

-- The calls only write, none but these blocks, and sync nothing.
pub record FillsOnly {D : Type 0} (g : Ghosts D) (inside : ℕ → Type 0) (failed : Type 0) (old new : D) : Type 0 where
  pub touches : TouchesOnly g inside old new
  pub no_sync : (g.state new).past ≡ (g.state old).past
  pub calls : OnlyWrites g failed old new

-- One read of a block: what the page holds, and what the read leaves, as each device promises it.
pub record ReadsBlock {D T E : Type 0} (g : Ghosts D) (block : ℕ) (old new : D) (page : List ℕ) (result : Result T E)
    : Type 0 where
  pub content : OnOk result (ForSome (g.state old).shown (λ image. page ≡ block_at image block))
  pub state : g.state new ≡ g.state old
  pub size : g.blocks new ≡ g.blocks old
  pub count : CountsOne (g.reads old) (g.reads new)
  pub cause : HasCause (g.faults old) (g.faults new) result

-- One write of a block, as each device promises it.
pub record WritesBlock {D T E : Type 0} (g : Ghosts D) (block : ℕ) (page : List ℕ) (old new : D) (result : Result T E)
    : Type 0 where
  pub ok : OnOk result (g.state new ≡ written (g.state old) block page)
  pub wrote : Wrote (g.blocks old) block (g.state old) (g.state new)
  pub size : g.blocks new ≡ g.blocks old
  pub count : g.reads new ≡ g.reads old
  pub cause : HasCause (g.faults old) (g.faults new) result

-- One sync, as each device promises it.
pub record Syncs {D T E : Type 0} (g : Ghosts D) (old new : D) (result : Result T E) : Type 0 where
  pub ok : OnOk result (g.state new ≡ synced (g.state old))
  pub err : OnErr result (g.state new ≡ g.state old)
  pub ended : EndedSync (g.blocks old) (g.state old) (g.state new)
  pub size : g.blocks new ≡ g.blocks old
  pub count : g.reads new ≡ g.reads old
  pub cause : HasCause (g.faults old) (g.faults new) result
