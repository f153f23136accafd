-- What a device over a file tells of itself: counts alone.
use Rattle.std.specs.Prelude.{ℕ}

-- how often a block was read, and how many calls of the system failed
pub record DeviceCounts : Type 0 where
  pub reads : ℕ
  pub faults : ℕ
