-- What one call of work answers, and what it leaves.
use Rattle.std.specs.Prelude.{◌≡◌, ℕ, Bool, true, false, not, ◌&&◌, List, Option, Some, None, nat_lt}
use Rattle.std.specs.Prelude.{if◌then◌else◌}
use Rattle.std.specs.Option.{option_or}
use Rattle.lt_terms.specs.Bytes.{Image}
use Rattle.lt_alloc.specs.Extents.{free_count}
use Rattle.lt_format.specs.declared.geometry.Geometry.{Geometry}
use Rattle.lt_format.specs.declared.node_id.NodeId.{NodeId}
use Rattle.lt_format.specs.Trie.{Node, Trie, node_at}
use Rattle.lt_image.specs.Needs.{is_full}
use Rattle.lt_pace.specs.Candidates.{name_of, next_full, next_slack}
use Rattle.lt_pace.specs.Marks.{marked}
use Rattle.lt_compact.specs.declared.step.Stepped.{Stepped}
use Rattle.lt_compact.specs.declared.step.Stepped.TheVariants as steps
use Rattle.lt_compact.specs.Jobs.{JobView, begun, is_filled, is_whole}
use Rattle.lt_compact.specs.Steps.{Advances, IsDamaged}
use Rattle.lt_work.specs.declared.advancing.Advanced.{Advanced}
use Rattle.lt_work.specs.declared.advancing.Advanced.TheVariants as answers
use Rattle.lt_work.specs.declared.advancing.Wanted.{Wanted}
use Rattle.lt_work.specs.declared.advancing.Wanted.TheVariants as wants
use Rattle.lt_work.specs.Work.{WorkView}

-- where a job begins next: at the first full pile that is not passed over; and where slack is wanted and no such pile
-- is left, at the first last-level pile that is neither passed over nor known to have no slack
abbrev pub next_wanted : Wanted → ℕ → Trie → WorkView → Option (NodeId × Node)
next_wanted wants.Full levels trie v = next_full levels trie v.passed_over
next_wanted wants.Slack levels trie v =
    option_or (next_full levels trie v.passed_over) (next_slack levels trie v.passed_over v.without_slack)

-- the work with a job given up: where its tables are its node's whole pile, the node is passed over
abbrev pub given_up : Trie → JobView → WorkView → WorkView
given_up trie j w = record {
  job = None;
  passed_over = if is_whole trie j then marked w.passed_over j.node else w.passed_over;
  without_slack = w.without_slack;
}

-- the work with a job given up whose pile has no slack: its node is known to have none
abbrev pub given_up_slackless : JobView → WorkView → WorkView
given_up_slackless j w = record {
  job = None;
  passed_over = w.passed_over;
  without_slack = marked w.without_slack j.node;
}

-- a step tells that its job's pile has no slack
abbrev pub tells_no_slack : Stepped → Bool
tells_no_slack steps.More = false
tells_no_slack (steps.Planned needed slack) = not slack
tells_no_slack (steps.Short short) = false
tells_no_slack steps.Ready = false

-- a step of a job whose pile is not full tells that the pile has no slack
abbrev pub is_in_vain : ℕ → Trie → JobView → Stepped → Bool
is_in_vain levels trie j stepped = tells_no_slack stepped && not (is_full levels (j.node, node_at trie j.node))

-- a step tells that its job needs more extents than these that are free
abbrev pub needs_more : ℕ → Stepped → Bool
needs_more free steps.More = false
needs_more free (steps.Planned needed slack) = nat_lt free needed
needs_more free (steps.Short short) = nat_lt free short.needed
needs_more free steps.Ready = false

-- The work after a step that took its job to j: the job is given up where its pile is neither full nor has slack, and
-- where it needs more extents than these that are free.
abbrev pub after_step : ℕ → Trie → ℕ → Stepped → JobView → WorkView → WorkView
after_step levels trie free stepped j w =
    if is_in_vain levels trie j stepped then given_up_slackless j w
    else if needs_more free stepped then given_up trie j w
    else record w { job = Some j }

-- a job begins where the next one is wanted
pub record Begins (wanted : Wanted) (levels : ℕ) (trie : Trie) (v w : WorkView) : Type 0 where
  pub node : NodeId
  pub first : name_of (next_wanted wanted levels trie v) ≡ Some node
  pub is : w ≡ record v { job = Some (begun levels trie node) }

-- the job in flight makes its next step, and is given up where this tells so
pub record StepsOn (g : Geometry) (old new : Option Image) (trie : Trie) (taken now : List Bool) (j : JobView)
    (v w : WorkView) : Type 0 where
  pub after : JobView
  pub stepped : Stepped
  pub step : Advances g old new trie taken now j after stepped
  pub is : w ≡ after_step g.levels trie (free_count taken) stepped after v

-- the work and the extents are as before
pub record Rests (taken now : List Bool) (v w : WorkView) : Type 0 where
  pub work : w ≡ v
  pub extents : now ≡ taken

-- Without a job: `Idle` exactly where none is wanted, and else a job begins.
abbrev pub WorksFrom : Option JobView → Wanted → Geometry → Option Image → Option Image → Trie → List Bool → List Bool
    → WorkView → WorkView → Advanced → Type 0
WorksFrom None wanted g old new trie taken now v w answers.Idle =
    (next_wanted wanted g.levels trie v ≡ None) × Rests taken now v w
WorksFrom None wanted g old new trie taken now v w answers.More = Begins wanted g.levels trie v w × (now ≡ taken)
WorksFrom None wanted g old new trie taken now v w answers.Ready = ⊥
WorksFrom (Some j) wanted g old new trie taken now v w answers.Idle = ⊥
WorksFrom (Some j) wanted g old new trie taken now v w answers.More =
    (is_filled j.stage ≡ false) × StepsOn g old new trie taken now j v w
WorksFrom (Some j) wanted g old new trie taken now v w answers.Ready =
    (is_filled j.stage ≡ true) × Rests taken now v w

-- A call took the work from v to w, the extents that are taken from `taken` to `now`, and what the device reads as
-- from `old` to `new`. A job in flight makes one step, whatever is wanted; one that is ready is left as it is.
abbrev pub Works : Wanted → Geometry → Option Image → Option Image → Trie → List Bool → List Bool → WorkView
    → WorkView → Advanced → Type 0
Works wanted g old new trie taken now v w answer = WorksFrom v.job wanted g old new trie taken now v w answer

-- there is a job, and not all of its extents are filled
abbrev pub will_step : Option JobView → Bool
will_step None = false
will_step (Some j) = if is_filled j.stage then false else true

-- the block is a bucket's of one of the tables of the job in flight, and spells none
pub record IsDamagedSource (g : Geometry) (shown : Option Image) (w : WorkView) (block : ℕ) : Type 0 where
  pub job : JobView
  pub in_flight : w.job ≡ Some job
  pub damaged : IsDamaged g shown job.sources block
