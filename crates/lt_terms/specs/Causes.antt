-- Counts that stand still at their type's end, and what a failure tells of them.
use Rattle.std.specs.Prelude.{ℕ, ◌+◌, ◌-◌, ◌^◌, ◌≤◌, min, max, Result, OnErr}

-- where a count stands still
abbrev pub last_count : ℕ
last_count = 2 ^ 64 - 1

-- the count after one more
abbrev pub next_count : ℕ → ℕ
next_count count = max count (min (count + 1) last_count)

-- a count rose by at least so much, or stands at its end
abbrev pub RoseBy : ℕ → ℕ → ℕ → Type 0
RoseBy steps before now = min (before + steps) last_count ≤ now

-- a count is greater than before, or stands at its end
abbrev pub Rose : ℕ → ℕ → Type 0
Rose before now = RoseBy 1 before now

-- the count of faults never falls, and a failure comes only where it rose
pub record HasCause {T E : Type 0} (before now : ℕ) (result : Result T E) : Type 0 where
  pub later : before ≤ now
  pub failed : OnErr result (Rose before now)

-- a count rises by one at most, and not past its end
pub record CountsOne (before now : ℕ) : Type 0 where
  pub later : before ≤ now
  pub at_most_one : now ≤ next_count before
