-- How the count of reads goes on over several calls.
use Rattle.std.specs.Prelude.{ℕ, ◌+◌, ◌≤◌, min, max}
use Rattle.lt_terms.specs.Causes.{last_count}

-- a count of reads rose by so many at most, and not past its end
pub record CountsAtMost (n before now : ℕ) : Type 0 where
  pub later : before ≤ now
  pub at_most : now ≤ max before (min (before + n) last_count)
