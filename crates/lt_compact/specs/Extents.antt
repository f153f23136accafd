-- Extents that are taken, and the filters of the tables that a job built.
use Rattle.std.specs.Prelude.{◌≡◌, ℕ, ◌<◌, ◌++◌, Bool, false, List, [], map, length, IsTrue, if◌then◌else◌}
use Rattle.std.specs.List.{flat_map}
use Rattle.lt_terms.specs.Bytes.{is_in}
use Rattle.lt_alloc.specs.Extents.{is_free}
use Rattle.lt_tables.specs.Filter.{filter_block}
use Rattle.lt_format.specs.Trie.{Trie, all_distinct, child, is_last_level, named}
use Rattle.lt_image.specs.Shares.{Share}
use Rattle.lt_compact.specs.Jobs.{IsShaped, JobView, Stage, scanning, planned, filling, taken_in}

-- these extents are taken
pub record AllTaken (taken : List Bool) (numbers : List ℕ) : Type 0 where
  pub below : (x : ℕ) → IsTrue (is_in x numbers) → x < length taken
  pub each : (x : ℕ) → IsTrue (is_in x numbers) → is_free taken x ≡ false

-- A job goes with a trie and with the extents that are taken: it has the shape that the trie wants, and the extents
-- that the trie names and the job reserved are taken, each once.
pub record GoesWith (levels : ℕ) (trie : Trie) (taken : List Bool) (j : JobView) : Type 0 where
  pub shaped : IsShaped levels trie j
  pub reserved : AllTaken taken (named trie ++ taken_in j.stage)
  pub apart : IsTrue (all_distinct (named trie ++ taken_in j.stage))

-- the filters of the tables that a job built for inner children, in order; none of a job whose tables are
-- of the last level
abbrev pub filters_in : JobView → Stage → List (List ℕ)
filters_in j (scanning n kept loose) = []
filters_in j (planned shares) = []
filters_in j (filling shares numbers filled) = if is_last_level j.levels j.node then []
    else if is_last_level j.levels (child j.node 0) then []
    else flat_map (λ (s : Share). map filter_block s.parts) shares
