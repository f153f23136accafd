-- How much work is left: a number that each step and each commit lowers, so that work comes to an end.
use Rattle.std.specs.Prelude.{ℕ, ◌+◌, ◌-◌, ◌*◌, not, [], ◌∷◌, ◌++◌, length, count_by, Option, Some, None}
use Rattle.std.specs.Prelude.{if◌then◌else◌}
use Rattle.lt_format.specs.Trie.{Trie}
use Rattle.lt_image.specs.Work.{number_of_digits, trie_digits}
use Rattle.lt_compact.specs.Jobs.{JobView, Stage, filling, is_whole, planned, scanning}
use Rattle.lt_work.specs.Work.{WorkView}

-- how many steps a job with so many tables has left, where it needs as many extents as a store may have
abbrev pub steps_left : ℕ → Stage → ℕ
steps_left count (scanning n kept loose) = (count - n) + 65538
steps_left count (planned shares) = 65537
steps_left count (filling shares numbers filled) = length numbers - filled

-- how far work is from giving a pile up: a job with a whole pile is next to it, and one with part of a pile would have
-- to begin once more
abbrev pub turns_left : Trie → Option JobView → ℕ
turns_left trie None = 2
turns_left trie (Some j) = if is_whole trie j then 1 else 3

-- the steps that the job in flight has left
abbrev pub job_steps_left : Option JobView → ℕ
job_steps_left None = 0
job_steps_left (Some j) = steps_left (length j.sources) j.stage

-- how many nodes are not passed over, with what may come of the job in flight
abbrev pub nodes_left : Trie → WorkView → ℕ
nodes_left trie w = 4 * count_by not w.passed_over + turns_left trie w.job

-- how many nodes are not known to have no slack
abbrev pub slack_left : WorkView → ℕ
slack_left w = count_by not w.without_slack

-- The number whose digits are those of the trie, and behind them how many nodes may have slack, how many are not passed
-- over, and how many steps the job in flight has left.
abbrev pub work_left : ℕ → Trie → WorkView → ℕ
work_left levels trie w = number_of_digits
    (trie_digits levels trie ++ slack_left w ∷ nodes_left trie w ∷ job_steps_left w.job ∷ [])
