-- What a step of a job answers, and what it leaves of the job, the extents and the device.
use Rattle.std.specs.Prelude.{◌≡◌, ℕ, ◌+◌, ◌<◌, ◌≤◌, Bool, true, false, List, [], Option, Some, IsTrue, length, nat_lt}
use Rattle.std.specs.Prelude.{take, drop, slice_index, slice_index_or, if◌then◌else◌}
use Rattle.lt_terms.specs.Bytes.{Image, is_in}
use Rattle.lt_terms.specs.Items.{Item}
use Rattle.lt_alloc.specs.Extents.{Reserves, free_count}
use Rattle.lt_format.specs.declared.geometry.Geometry.{Geometry}
use Rattle.lt_format.specs.Layout.{extent_block}
use Rattle.lt_format.specs.Trie.{Trie}
use Rattle.lt_image.specs.Shares.{Share, needed, shares_of}
use Rattle.lt_image.specs.Versions.{items_at}
use Rattle.lt_compact.specs.declared.step.Turn.{Turn}
use Rattle.lt_compact.specs.declared.step.Turn.TheVariants as turns
use Rattle.lt_compact.specs.declared.step.Stepped.{Stepped}
use Rattle.lt_compact.specs.declared.step.Stepped.TheVariants as steps
use Rattle.lt_compact.specs.Jobs.{FoundView, JobView, Stage, scanning, planned, filling, is_told_slack}
use Rattle.lt_compact.specs.Plans.{Content, Holds, all_contents, extents_for}
use Rattle.lt_compact.specs.Scanning.{IsDamagedBucket, found_with}

-- the stage of a job that found so much
abbrev pub scanning_of : FoundView → Stage
scanning_of found = scanning found.scanned found.kept found.loose

-- a step that scans the next table: its items, which are told where the device tells what it reads as, stand
-- behind what was found
pub record Scans (g : Geometry) (shown : Option Image) (j k : JobView) (found : FoundView) : Type 0 where
  pub items : List Item
  pub told : (image : Image) → shown ≡ Some image
      → items ≡ items_at g image (slice_index j.sources found.scanned)
  pub is : k ≡ record j { stage = scanning_of (found_with found items) }

-- a step that plans: what was found is shared out, and so many extents are wanted
pub record PlansShares (trie : Trie) (j k : JobView) (kept : List Item) (loose : Bool) (wanted : ℕ)
    (slack : Bool) : Type 0 where
  pub is : k ≡ record j { stage = planned (shares_of j.levels trie j.node kept) }
  pub wanted_is : wanted ≡ needed j.levels trie j.node kept
  pub slack_is : slack ≡ is_told_slack j.levels trie j.node kept loose

-- a step that takes the extents of the shares, which were free
pub record Takes (taken now : List Bool) (j k : JobView) (shares : List Share) : Type 0 where
  pub numbers : List ℕ
  pub reserved : Reserves (extents_for j.levels shares) taken now [] numbers
  pub is : k ≡ record j { stage = filling shares numbers 0 }

-- a step that fills the next extent: it holds what it is to hold
pub record Fills (g : Geometry) (old new : Option Image) (j k : JobView) (shares : List Share)
    (numbers : List ℕ) (filled : ℕ) : Type 0 where
  pub holds : (before image : Image) (c : Content) → old ≡ Some before → new ≡ Some image
      → Holds g image (slice_index numbers filled) (slice_index_or (all_contents g.levels shares numbers) filled c)
  pub is : k ≡ record j { stage = filling shares numbers (filled + 1) }

-- while tables are left a step scans one, and when none is left it plans
abbrev pub ScansOrPlans : Bool → Geometry → Option Image → Trie → JobView → JobView → FoundView → Stepped → Type 0
ScansOrPlans left g shown trie j k found steps.More = IsTrue left × Scans g shown j k found
ScansOrPlans left g shown trie j k found (steps.Planned wanted slack) =
    (left ≡ false) × PlansShares trie j k found.kept found.loose wanted slack
ScansOrPlans left g shown trie j k found (steps.Short short) = ⊥
ScansOrPlans left g shown trie j k found steps.Ready = ⊥

-- the extents are taken exactly where enough are free, and else nothing changes; where none are needed the job
-- is ready
abbrev pub TakesOrWaits : List Bool → List Bool → JobView → JobView → List Share → Stepped → Type 0
TakesOrWaits taken now j k shares steps.More = Takes taken now j k shares × (0 < extents_for j.levels shares)
TakesOrWaits taken now j k shares steps.Ready = Takes taken now j k shares × (extents_for j.levels shares ≡ 0)
TakesOrWaits taken now j k shares (steps.Short short) =
    (short.needed ≡ extents_for j.levels shares) × (short.free ≡ free_count taken) × (short.free < short.needed)
    × (k ≡ j) × (now ≡ taken)
TakesOrWaits taken now j k shares (steps.Planned wanted slack) = ⊥

-- one extent more is filled, and with the last one the job is ready
abbrev pub FillsOne : Geometry → Option Image → Option Image → JobView → JobView → List Share → List ℕ → ℕ → Stepped
    → Type 0
FillsOne g old new j k shares numbers filled steps.More =
    Fills g old new j k shares numbers filled × (filled + 1 < length numbers)
FillsOne g old new j k shares numbers filled steps.Ready =
    Fills g old new j k shares numbers filled × (filled + 1 ≡ length numbers)
FillsOne g old new j k shares numbers filled (steps.Short short) = ⊥
FillsOne g old new j k shares numbers filled (steps.Planned wanted slack) = ⊥

-- what a step from this stage answers and leaves
abbrev pub AdvancesFrom : Stage → Geometry → Option Image → Option Image → Trie → List Bool → List Bool → JobView
    → JobView → Stepped → Type 0
AdvancesFrom (scanning n kept loose) g old new trie taken now j k stepped =
    let found : FoundView = record { scanned = n; kept = kept; loose = loose } in
    ScansOrPlans (nat_lt n (length j.sources)) g old trie j k found stepped × (now ≡ taken)
AdvancesFrom (planned shares) g old new trie taken now j k stepped = TakesOrWaits taken now j k shares stepped
AdvancesFrom (filling shares numbers filled) g old new trie taken now j k stepped =
    FillsOne g old new j k shares numbers filled stepped × (now ≡ taken)

-- a step took a job from j to k, the extents that are taken from `taken` to `now`, and what the device reads as
-- from `old` to `new`
abbrev pub Advances : Geometry → Option Image → Option Image → Trie → List Bool → List Bool → JobView → JobView
    → Stepped → Type 0
Advances g old new trie taken now j k stepped = AdvancesFrom j.stage g old new trie taken now j k stepped

-- what a job with so many tables does next
abbrev pub turn_from : ℕ → Stage → Turn
turn_from count (scanning n kept loose) = if nat_lt n count then turns.Scan else turns.Plan
turn_from count (planned shares) = turns.Take
turn_from count (filling shares numbers filled) = turns.Fill

-- the same of a job
abbrev pub turn_of : JobView → Turn
turn_of j = turn_from (length j.sources) j.stage

-- the extent that the next step fills
abbrev pub next_extents : Stage → List ℕ
next_extents (scanning n kept loose) = []
next_extents (planned shares) = []
next_extents (filling shares numbers filled) = take 1 (drop filled numbers)

-- the block is one of these extents'
pub record InExtents (g : Geometry) (numbers : List ℕ) (block : ℕ) : Type 0 where
  pub number : ℕ
  pub among : IsTrue (is_in number numbers)
  pub from : extent_block g number ≤ block
  pub to : block < extent_block g number + 65

-- the block is a bucket's of one of these tables, and spells none
pub record IsDamaged (g : Geometry) (shown : Option Image) (tables : List ℕ) (block : ℕ) : Type 0 where
  pub number : ℕ
  pub among : IsTrue (is_in number tables)
  pub bucket : IsDamagedBucket shown (extent_block g number) block

-- how many steps brought a job with so many tables to this stage
abbrev pub steps_to : ℕ → Stage → ℕ
steps_to count (scanning n kept loose) = n
steps_to count (planned shares) = count + 1
steps_to count (filling shares numbers filled) = count + 2 + filled

-- how many steps a job made that answered neither `Short` nor a fault
abbrev pub steps_made : JobView → ℕ
steps_made j = steps_to (length j.sources) j.stage

-- whether a step counts: one that answers `Short` does not
abbrev pub made_by : Stepped → ℕ
made_by steps.More = 1
made_by (steps.Planned wanted slack) = 1
made_by (steps.Short short) = 0
made_by steps.Ready = 1

-- the step made the job ready
abbrev pub is_ready : Stepped → Bool
is_ready steps.More = false
is_ready (steps.Planned wanted slack) = false
is_ready (steps.Short short) = false
is_ready steps.Ready = true
