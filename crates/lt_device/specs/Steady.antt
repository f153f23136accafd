-- What a steady device holds, and what it tells of that.
use Rattle.std.specs.Prelude.{ℕ, Bool, List, Some, None, length}
use Rattle.lt_terms.specs.Bytes.{Image}
use Rattle.lt_device.specs.State.{State}
use Rattle.lt_device.specs.declared.device.Device.{Ghosts}

-- its blocks, which of them were written since the last sync, and the count of reads
pub record Contents : Type 0 where
  pub shown : Image
  pub unsynced : List Bool
  pub reads : ℕ

-- it tells its blocks and the images now, not those since a time
abbrev pub steady_state : Contents → State
steady_state contents = record { shown = Some contents.shown; unsynced = Some contents.unsynced; past = None }

-- what a steady device says of itself: it has no fault
abbrev pub steady_device : Ghosts Contents
steady_device = record {
  blocks = λ d. length d.shown;
  reads = λ d. d.reads;
  faults = λ _. 0;
  state = steady_state;
}
