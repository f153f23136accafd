-- What the commit of a ready job leaves of the work.
use Rattle.std.specs.Prelude.{◌≡◌, ◌≤◌, Bool, List, ◌++◌, Option, Some, None}
use Rattle.std.specs.List.{fold}
use Rattle.lt_alloc.specs.Extents.{AreTaken}
use Rattle.lt_format.specs.Changes.{Change, ChildChange, deal, flush, rewrite}
use Rattle.lt_format.specs.Snapshot.{Named}
use Rattle.lt_format.specs.Trie.{IsTrie, named}
use Rattle.lt_pace.specs.Marks.{marked, no_marks, unmarked}
use Rattle.lt_compact.specs.Jobs.{JobView, change_of}
use Rattle.lt_work.specs.Work.{SuitsTrie, WorkView, reserved_by}

-- the marks of nodes without those of the children that got tables
abbrev pub cleared_of : List Bool → List ChildChange → List Bool
cleared_of marks children = fold (λ marks (c : ChildChange). unmarked marks c.node) marks children

-- the marks of the nodes without slack after a change: tables that are dealt to a node clear its mark, and a rewriting
-- sets its node's
abbrev pub slackless_after : Change → List Bool → List Bool
slackless_after (flush tables) marks = marks
slackless_after (deal node dropped children) marks = cleared_of marks children
slackless_after (rewrite node tables groups) marks = marked marks node

-- the work once the change of its job was committed: no job is in flight, and no node is passed over any more
abbrev pub committed_work : Change → WorkView → WorkView
committed_work change w = record {
  job = None;
  passed_over = no_marks;
  without_slack = slackless_after change w.without_slack;
}

-- the change of the job in flight, where it is ready
abbrev pub change_for : Option JobView → Option Change
change_for None = None
change_for (Some j) = change_of j

-- the change of the work's job, where it is ready
abbrev pub change_in : WorkView → Option Change
change_in w = change_for w.job

-- the job in flight is ready, with this change
pub record HasReady (w : WorkView) (change : Change) : Type 0 where
  pub job : JobView
  pub in_flight : w.job ≡ Some job
  pub change_is : change_of job ≡ Some change

-- The work of a store with this manifest has a ready job: its work suits the trie, and the extents that are taken are
-- those that the trie names and those that the job reserved.
pub record CanCommit (m : Named) (taken : List Bool) (w : WorkView) (change : Change) : Type 0 where
  pub ready : HasReady w change
  pub suits : SuitsTrie m.geometry.levels m.manifest.trie taken w
  pub least : 2 ≤ m.geometry.levels
  pub most : m.geometry.levels ≤ 5
  pub few : m.manifest.header.extents ≤ 65536
  pub trie_is : IsTrie m.geometry.levels m.manifest.header.extents m.manifest.trie
  pub in_use : AreTaken m.manifest.header.extents (named m.manifest.trie ++ reserved_by w) taken
