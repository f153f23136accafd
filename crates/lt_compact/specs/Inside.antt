-- What a job shows of itself, and what stands beside it.
use Rattle.std.specs.Prelude.{◌≡◌, ℕ, ◌^◌, ◌<◌, ◌≤◌, List, [], Option, length, take, if◌then◌else◌}
use Rattle.std.specs.List.{flat_map}
use Rattle.std.specs.Option.{option_map, option_to_list}
use Rattle.lt_format.specs.declared.node_id.NodeId.{NodeId}
use Rattle.lt_format.specs.Trie.{child, is_last_level}
use Rattle.lt_node.specs.Changing.{change_of as change_shown}
use Rattle.lt_compact.specs.declared.job.Stage as declared
use Rattle.lt_compact.specs.declared.job.Stage.TheVariants as stages
use Rattle.lt_compact.specs.declared.job.Job.TheInside.{Inside}
use Rattle.lt_compact.specs.Plans.{Content, all_contents, extents_for, filters_of}
use Rattle.lt_compact.specs.Jobs.{JobView, Stage, scanning, planned, filling, change_in, taken_in}

-- the stage that a job's fields show
abbrev pub stage_in : declared.Stage → Stage
stage_in (stages.Scanning found) = scanning found.scanned found.kept found.loose
stage_in (stages.Planned shares needed) = planned shares.items
stage_in (stages.Filling shares numbers filled) = filling shares.items numbers.items filled

-- the job that its fields show
abbrev pub job_in : Inside → JobView
job_in inside = record {
  levels = inside.levels;
  node = inside.node;
  sources = inside.sources.items;
  stage = stage_in inside.stage;
}

-- how many extents a planned stage tells that it needs
abbrev pub told_in : declared.Stage → ℕ
told_in (stages.Scanning found) = 0
told_in (stages.Planned shares needed) = needed
told_in (stages.Filling shares numbers filled) = 0

-- and how many its shares take
abbrev pub wanted_in : ℕ → Stage → ℕ
wanted_in levels (scanning n kept loose) = 0
wanted_in levels (planned shares) = extents_for levels shares
wanted_in levels (filling shares numbers filled) = 0

-- how many extents the shares of a stage take whose extents are taken
abbrev pub reserved_in : ℕ → Stage → ℕ
reserved_in levels (scanning n kept loose) = 0
reserved_in levels (planned shares) = 0
reserved_in levels (filling shares numbers filled) = extents_for levels shares

-- what is told of tables for inner children, and nothing of others
abbrev pub for_inner : ℕ → NodeId → List (List ℕ) → List (List ℕ)
for_inner levels node filters = if is_last_level levels node then []
    else if is_last_level levels (child node 0) then [] else filters

-- the filters that a job keeps of an extent that it filled: those of a table for an inner child
abbrev pub kept_of : ℕ → NodeId → Option (List ℕ) → List (List ℕ)
kept_of levels node built = for_inner levels node (option_to_list built)

-- the filters of the tables among these contents
abbrev pub filters_among : List Content → List (List ℕ)
filters_among contents = flat_map (λ c. option_to_list (filters_of c)) contents

-- the filters of the tables for inner children that a job has built
abbrev pub built_in : JobView → Stage → List (List ℕ)
built_in j (scanning n kept loose) = []
built_in j (planned shares) = []
built_in j (filling shares numbers filled) =
    for_inner j.levels j.node (filters_among (take filled (all_contents j.levels shares numbers)))

-- A job has few tables, the change of its stage, as many extents as its shares take, and the filters of the
-- tables that it built for inner children; and it tells how many extents it needs.
pub record IsKept (inside : Inside) : Type 0 where
  pub few : length inside.sources.items ≤ 65536
  pub needed : told_in inside.stage ≡ wanted_in inside.levels (stage_in inside.stage)
  pub change : option_map change_shown inside.change
      ≡ change_in inside.levels inside.node inside.sources.items (stage_in inside.stage)
  pub reserved : length (taken_in (stage_in inside.stage)) ≡ reserved_in inside.levels (stage_in inside.stage)
  pub counted : length (taken_in (stage_in inside.stage)) < 2 ^ 32
  pub filters : inside.filters.items ≡ built_in (job_in inside) (stage_in inside.stage)
