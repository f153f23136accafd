-- The stack of the free numbers.
use Rattle.std.specs.Prelude.{◌≡◌, ◌==◌, ℕ, ◌<◌, ◌≤◌, ◌^◌, Bool, List, length, count_by, if◌then◌else◌}
use Rattle.lt_alloc.specs.Extents.{is_free, free_count}

-- each free number stands on the stack once, no other does, and there is room for all
pub record IsStack (taken : List Bool) (numbers : List ℕ) (capacity : ℕ) : Type 0 where
  pub each : (n : ℕ) → count_by (λ m. m == n) numbers ≡ (if is_free taken n then 1 else 0)
  pub len : length numbers ≡ free_count taken
  pub room : length taken ≤ capacity
  pub few : length taken < 2 ^ 32
