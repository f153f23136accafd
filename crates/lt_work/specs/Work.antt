-- The work of a store between its calls: the job in flight, and what is remembered of nodes.
use Rattle.std.specs.Prelude.{◌≡◌, ℕ, Bool, false, not, ◌&&◌, ◌||◌, List, [], length, Option, Some, None, IsTrue}
use Rattle.std.specs.Option.{ForSome}
use Rattle.lt_terms.specs.Bytes.{Image}
use Rattle.lt_format.specs.Snapshot.{Named}
use Rattle.lt_format.specs.declared.node_id.NodeId.{NodeId}
use Rattle.lt_format.specs.Trie.{Trie, is_last_level, node_at}
use Rattle.lt_image.specs.Needs.{is_full}
use Rattle.lt_pace.specs.Candidates.{AreSlackless, PassedOverWait}
use Rattle.lt_pace.specs.Marks.{is_marked, most_nodes, no_marks}
use Rattle.lt_compact.specs.Extents.{GoesWith}
use Rattle.lt_compact.specs.Jobs.{JobView, KeepsJob, taken_in}

-- The job in flight, the marks of the nodes that are passed over until the next commit of a manifest, and the marks
-- of the last-level nodes that are known to have no slack.
pub record WorkView : Type 0 where
  pub job : Option JobView
  pub passed_over : List Bool
  pub without_slack : List Bool

-- no job is in flight, and no node is marked
abbrev pub at_rest : WorkView
at_rest = record { job = None; passed_over = no_marks; without_slack = no_marks }

-- the extents that a job has reserved, if there is one
abbrev pub reserved_for : Option JobView → List ℕ
reserved_for None = []
reserved_for (Some j) = taken_in j.stage

-- the extents that the job in flight has reserved
abbrev pub reserved_by : WorkView → List ℕ
reserved_by w = reserved_for w.job

-- a pile is full, or one of the last level that is not known to have no slack
abbrev pub may_begin : ℕ → Trie → List Bool → NodeId → Bool
may_begin levels trie without_slack id =
    is_full levels (id, node_at trie id) || (is_last_level levels id && not (is_marked without_slack id))

-- a job may have begun at its node's pile, and the node is not passed over
pub record IsCandidate (levels : ℕ) (trie : Trie) (passed_over without_slack : List Bool) (j : JobView) : Type 0 where
  pub begins : IsTrue (may_begin levels trie without_slack j.node)
  pub unmarked : is_marked passed_over j.node ≡ false

-- Whatever a device tells, the job in flight goes with the trie and with the extents that are taken, its node is a
-- candidate, and there is a mark for each node.
pub record SuitsTrie (levels : ℕ) (trie : Trie) (taken : List Bool) (w : WorkView) : Type 0 where
  pub job : ForSome w.job (GoesWith levels trie taken)
  pub candidate : ForSome w.job (IsCandidate levels trie w.passed_over w.without_slack)
  pub passed_over : length w.passed_over ≡ most_nodes
  pub without_slack : length w.without_slack ≡ most_nodes

-- On an image what the job in flight tells is true, each node that is passed over waits, and no node that is marked
-- as without slack has slack.
pub record IsTrueOn (m : Named) (image : Image) (w : WorkView) : Type 0 where
  pub job : ForSome w.job (KeepsJob m image)
  pub waiting : PassedOverWait m image w.passed_over
  pub slackless : AreSlackless m image w.without_slack

-- the work once a flush was committed: no node is passed over any more
abbrev pub flushed_work : WorkView → WorkView
flushed_work w = record w { passed_over = no_marks }
