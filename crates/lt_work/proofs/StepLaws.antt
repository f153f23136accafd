-- What one step of the job in flight keeps, and what giving it up rests on.
use Rattle.std.proofs.Common.{◌≡◌, ℕ, zero, suc, ◌+◌, ◌<◌, ◌≤◌, refl, sym, ap, subst, ◌∙◌, List, [], ◌∷◌, ◌++◌, length, Bool, true, false, not, cond, ◌&&◌, ◌||◌, Option, Some, None, arith, append-nil}
use Rattle.std.specs.Prelude.{◌==◌, IsFalse, IsTrue, nat_lt, drop}
use Rattle.std.specs.List.{AllByRecursion}
use Rattle.std.proofs.lemmas.Option.{none-some}
use Rattle.std.proofs.lemmas.Bool.{and_parts, eqb-true, leb-true, ltb-false, ltb-true, or_right, true≢false}
use Rattle.std.proofs.lemmas.List.{length-set}
use Rattle.std.proofs.lemmas.List.Sums.{sum_by-cons}
use Rattle.lt_terms.specs.Bytes.{Image, is_in}
use Rattle.lt_terms.specs.Items.{Item}
use Rattle.lt_terms.proofs.AmongLaws.{in_append, in_drop, in_take}
use Rattle.lt_alloc.specs.Extents.{AreTaken, Reserves, free_count, is_free}
use Rattle.lt_device.specs.Moments.{ShowsSameOutside}
use Rattle.lt_device.specs.State.{SameOutside, State}
use Rattle.lt_device.proofs.Steps.{same_some}
use Rattle.lt_device.proofs.Runs.{confined_widens}
use Rattle.lt_device.proofs.Shows.{shows-widens}
use Rattle.lt_format.specs.declared.geometry.Geometry.{Geometry}
use Rattle.lt_format.specs.declared.node_id.NodeId.{NodeId}
use Rattle.lt_format.specs.Snapshot.{Named}
use Rattle.lt_format.specs.Trie.{IsTrie, Node, Trie, is_last_level, is_node, named, node_at, same_node}
use Rattle.lt_format.proofs.Numbers.{times, absent-times, length-without, without, others-stay}
use Rattle.lt_format.proofs.TrieLaws.{same_node-same}
use Rattle.lt_image.specs.After.{SameExtents}
use Rattle.lt_image.specs.Needs.{has_slack, is_slack, node_items, waits}
use Rattle.lt_image.specs.Shares.{needed}
use Rattle.lt_image.specs.Versions.{free_extents}
use Rattle.lt_pace.specs.Candidates.{PassedOverWait}
use Rattle.lt_pace.specs.Marks.{is_marked, marked, most_nodes, place_of}
use Rattle.lt_pace.proofs.MarkLaws.{mark-one}
use Rattle.lt_compact.specs.declared.step.Stepped.{Stepped}
use Rattle.lt_compact.specs.declared.step.Stepped.TheVariants as steps
use Rattle.lt_compact.specs.Extents.{GoesWith}
use Rattle.lt_compact.specs.Filling.{FillsWithin}
use Rattle.lt_compact.specs.Jobs.{JobView, KeepsJob, IsShaped, Stage, scanning, planned, filling, is_shaped_stage, is_told_slack, is_whole, taken_in}
use Rattle.lt_compact.specs.Plans.{extents_for}
use Rattle.lt_compact.specs.Steps.{Advances, AdvancesFrom, FillsOne, InExtents, next_extents}
use Rattle.lt_compact.proofs.ExtentLaws.{apart-joined, not_in_part, others-same}
use Rattle.lt_compact.proofs.LocalLaws.{plan-slack, plan-waits, short-waits}
use Rattle.lt_work.specs.Advancing.{after_step, given_up, given_up_slackless, is_in_vain, needs_more, tells_no_slack}
use Rattle.lt_work.specs.Work.{IsCandidate, IsTrueOn, SuitsTrie, WorkView, may_begin, reserved_by}
use Rattle.lt_work.proofs.CandidateLaws.{IsListed, all-listed, job-node, node-of-five}
use Rattle.lt_work.proofs.OutlastLaws.{of_job, slackless-same, wait-same}

-- ---- what a step may write

-- the extent that is filled next is one that the job reserved
next_reserved : (stage : Stage) (x : ℕ) → is_in x (next_extents stage) ≡ true → is_in x (taken_in stage) ≡ true
next_reserved (scanning n kept loose) x there = there
next_reserved (planned shares) x there = there
next_reserved (filling shares numbers filled) x there = in_drop x filled numbers (in_take x 1 (drop filled numbers) there)

in_more : (g : Geometry) (few more : List ℕ) → ((x : ℕ) → is_in x few ≡ true → is_in x more ≡ true) → (k : ℕ) → InExtents g few k → InExtents g more k
in_more g few more within k inside = record { number = inside.number; among = within inside.number inside.among; from = inside.from; to = inside.to }

pub fills-reserved : (g : Geometry) (j : JobView) (v : WorkView) (old new : State) → v.job ≡ Some j → FillsWithin (InExtents g (next_extents j.stage)) old new → FillsWithin (InExtents g (reserved_by v)) old new
fills-reserved g j v old new is fills = record {
  confined = confined_widens fills.confined wide;
  others = shows-widens (InExtents g (next_extents j.stage)) (InExtents g (reserved_by v)) old.shown new.shown wide fills.others;
  no_sync = fills.no_sync;
}
  where
    wide : (k : ℕ) → InExtents g (next_extents j.stage) k → InExtents g (reserved_by v) k
    wide = in_more g (next_extents j.stage) (reserved_by v) (λ x there. ap (is_in x) (of_job v j is) ∙ next_reserved j.stage x there)

-- the extents that a trie names are as before
pub named-same : (m : Named) (before image : Image) (old new : Option Image) (levels : ℕ) (taken : List Bool) (j : JobView) → old ≡ Some before → new ≡ Some image
    → ShowsSameOutside (InExtents m.geometry (next_extents j.stage)) old new → GoesWith levels m.manifest.trie taken j → SameExtents m.geometry before image (named m.manifest.trie)
named-same m before image old new levels taken j was shown others goes =
    let after = others.each before was in
    let same : SameOutside (InExtents m.geometry (next_extents j.stage)) before image = subst (SameOutside (InExtents m.geometry (next_extents j.stage)) before) (same_some new after.0 image after.1 shown) after.2 in
    others-same m.geometry (next_extents j.stage) before image (named m.manifest.trie) same
    (λ x there. not_in_part x (next_extents j.stage) (taken_in j.stage) (next_reserved j.stage x) (apart-joined (named m.manifest.trie) (taken_in j.stage) goes.apart x there))

-- A STEP that keeps the job in flight keeps what is true
pub step-true : (m : Named) (before image : Image) (j k : JobView) (v : WorkView) → v.job ≡ Some j → SameExtents m.geometry before image (named m.manifest.trie) → (KeepsJob m before j → KeepsJob m image k) → IsTrueOn m before v → IsTrueOn m image (record v { job = Some k })
step-true m before image j k v is same keeps true_on = record {
  job = λ q at. subst (KeepsJob m image) (same_job at) (keeps (true_on.job j is));
  waiting = wait-same m before image v.passed_over m.manifest.trie same true_on.waiting;
  slackless = slackless-same m before image v.without_slack m.manifest.trie same true_on.slackless;
}
  where
    same_job : {a b : JobView} → Some a ≡ Some b → a ≡ b
    same_job e = cc

-- ---- a job that needs more than is free

-- where each extent that is taken is named
pub taken-named : (taken : List Bool) (k : ℕ) (xs : List ℕ) → ((i : ℕ) → i < length taken → is_free taken i ≡ false → 1 ≤ times (k + i) xs) → length taken ≤ length xs + free_count taken
taken-named [] k xs each = omega arith
taken-named (true ∷ taken) k xs each =
    let first : k + 0 ≡ k = omega arith in
    let here : 1 ≤ times k xs = subst (λ x. 1 ≤ times x xs) first (each 0 (omega arith) refl) in
    let rest = taken-named taken (k + 1) (without k xs) (λ i below is. later i (each (suc i) (omega arith) is)) in
    let sum = sum_by-cons (λ b. cond (not b) 1 0) true taken in
    omega (arith, here, rest, length-without k xs, sum)
  where
    later : (i : ℕ) → 1 ≤ times (k + suc i) xs → 1 ≤ times (k + 1 + i) (without k xs)
    later i there =
        let e : k + suc i ≡ k + 1 + i = omega arith in
        let more : 1 ≤ times (k + 1 + i) xs = subst (λ x. 1 ≤ times x xs) e there in
        let stay = others-stay k (k + 1 + i) xs (λ same. absurd (omega arith)) in
        omega (arith, more, stay)
taken-named (false ∷ taken) k xs each =
    let rest = taken-named taken (k + 1) xs (λ i below is. later i (each (suc i) (omega arith) is)) in
    let sum = sum_by-cons (λ b. cond (not b) 1 0) false taken in
    omega (arith, rest, sum)
  where
    later : (i : ℕ) → 1 ≤ times (k + suc i) xs → 1 ≤ times (k + 1 + i) xs
    later i there = let e : k + suc i ≡ k + 1 + i = omega arith in subst (λ x. 1 ≤ times x xs) e there

-- AT LEAST AS MANY extents are free as the manifest does not name, where nothing is reserved
pub free-unnamed : (m : Named) (taken : List Bool) → AreTaken m.manifest.header.extents (named m.manifest.trie) taken → free_extents m ≤ free_count taken
free-unnamed m taken are =
    let many = taken-named taken 0 (named m.manifest.trie) at in
    let size = are.len in
    omega (arith, many, size)
  where
    at : (i : ℕ) → i < length taken → is_free taken i ≡ false → 1 ≤ times (0 + i) (named m.manifest.trie)
    at i below is = decide (times (0 + i) (named m.manifest.trie)) refl
      where
        there : is_in i (named m.manifest.trie) ≡ true
        there = not_true (is_in i (named m.manifest.trie)) (sym (are.free i (let size = are.len in omega (arith, below, size))) ∙ is)
          where
            not_true : (b : Bool) → not b ≡ false → b ≡ true
            not_true true h = refl
            not_true false h = absurd (true≢false h)

        decide : (n : ℕ) → times (0 + i) (named m.manifest.trie) ≡ n → 1 ≤ times (0 + i) (named m.manifest.trie)
        decide zero none = let e : 0 + i ≡ i = omega arith in absurd (true≢false (sym there ∙ absent-times i (named m.manifest.trie) (ap (λ x. times x (named m.manifest.trie)) (sym e) ∙ none)))
        decide (suc n) some = omega (arith, some)

-- a job that plans has scanned all of its tables
scanned-all : (m : Named) (j : JobView) (n : ℕ) (kept : List Item) (loose : Bool) → j.stage ≡ scanning n kept loose → IsShaped m.geometry.levels m.manifest.trie j → nat_lt n (length j.sources) ≡ false → n ≡ length j.sources
scanned-all m j n kept loose is shaped none =
    let low : n ≤ length j.sources = leb-true n (length j.sources) (subst (λ (s : Stage). is_shaped_stage m.geometry.levels m.manifest.trie j.node j.sources s ≡ true) is shaped.stage) in
    let high : length j.sources ≤ n = ltb-false n (length j.sources) none in
    omega (arith, low, high)

-- a job with its node's whole pile that needs more than is free shows that the node waits
stage-waits : (m : Named) (before : Image) (g : Geometry) (old new : Option Image) (trie : Trie) (taken now : List Bool) (j k : JobView) (stage : Stage) (stepped : Stepped) → m.manifest.trie ≡ trie → j.stage ≡ stage → AdvancesFrom stage g old new trie taken now j k stepped
    → needs_more (free_count taken) stepped ≡ true → free_extents m ≤ free_count taken → IsShaped m.geometry.levels m.manifest.trie j → length j.sources ≡ length (node_at m.manifest.trie j.node).tables → KeepsJob m before j → waits m before (j.node, node_at m.manifest.trie j.node) ≡ true
stage-waits m before g old new trie taken now j k (scanning n kept loose) steps.More at is a more free shaped whole keeps = absurd (true≢false (sym more))
stage-waits m before g old new trie taken now j k (scanning n kept loose) (steps.Planned wanted slack) at is a more free shaped whole keeps =
    let all : n ≡ length j.sources = scanned-all m j n kept loose is shaped a.0.0 in
    let back : trie ≡ m.manifest.trie = sym at in
    let few : free_count taken < wanted = ltb-true (free_count taken) wanted more in
    let need : wanted ≡ needed m.geometry.levels m.manifest.trie j.node kept = a.0.1.wanted_is ∙ (λ i. needed (shaped.same i) (back i) j.node kept) in
    plan-waits m before j n kept loose shaped is all whole keeps (omega (arith, few, free, need))
stage-waits m before g old new trie taken now j k (scanning n kept loose) (steps.Short short) at is a more free shaped whole keeps = absurd a.0
stage-waits m before g old new trie taken now j k (scanning n kept loose) steps.Ready at is a more free shaped whole keeps = absurd a.0
stage-waits m before g old new trie taken now j k (planned shares) steps.More at is a more free shaped whole keeps = absurd (true≢false (sym more))
stage-waits m before g old new trie taken now j k (planned shares) (steps.Planned wanted slack) at is a more free shaped whole keeps = absurd a
stage-waits m before g old new trie taken now j k (planned shares) (steps.Short short) at is a more free shaped whole keeps =
    let few : free_count taken < short.needed = ltb-true (free_count taken) short.needed more in
    let need : short.needed ≡ extents_for m.geometry.levels shares = a.0 ∙ ap (λ l. extents_for l shares) shaped.same in
    short-waits m before j shares shaped is whole keeps (omega (arith, few, free, need))
stage-waits m before g old new trie taken now j k (planned shares) steps.Ready at is a more free shaped whole keeps = absurd (true≢false (sym more))
stage-waits m before g old new trie taken now j k (filling shares numbers filled) steps.More at is a more free shaped whole keeps = absurd (true≢false (sym more))
stage-waits m before g old new trie taken now j k (filling shares numbers filled) (steps.Planned wanted slack) at is a more free shaped whole keeps = absurd a.0
stage-waits m before g old new trie taken now j k (filling shares numbers filled) (steps.Short short) at is a more free shaped whole keeps = absurd a.0
stage-waits m before g old new trie taken now j k (filling shares numbers filled) steps.Ready at is a more free shaped whole keeps = absurd (true≢false (sym more))

-- what a step left that gives its job up: the extents that were taken, of which the job had reserved none
record IsBare (taken now : List Bool) (stage : Stage) : Type 0 where
  left : now ≡ taken
  none : taken_in stage ≡ []

stage-bare : (g : Geometry) (old new : Option Image) (trie : Trie) (taken now : List Bool) (j k : JobView) (stage : Stage) (stepped : Stepped) (free : ℕ) → AdvancesFrom stage g old new trie taken now j k stepped → (tells_no_slack stepped || needs_more free stepped) ≡ true → IsBare taken now stage
stage-bare g old new trie taken now j k (scanning n kept loose) stepped free a gives = record { left = a.1; none = refl }
stage-bare g old new trie taken now j k (planned shares) steps.More free a gives = absurd (true≢false (sym gives))
stage-bare g old new trie taken now j k (planned shares) (steps.Planned wanted slack) free a gives = absurd a
stage-bare g old new trie taken now j k (planned shares) (steps.Short short) free a gives = record { left = a.4; none = refl }
stage-bare g old new trie taken now j k (planned shares) steps.Ready free a gives = absurd (true≢false (sym gives))
stage-bare g old new trie taken now j k (filling shares numbers filled) steps.More free a gives = absurd (true≢false (sym gives))
stage-bare g old new trie taken now j k (filling shares numbers filled) (steps.Planned wanted slack) free a gives = absurd a.0
stage-bare g old new trie taken now j k (filling shares numbers filled) (steps.Short short) free a gives = absurd a.0
stage-bare g old new trie taken now j k (filling shares numbers filled) steps.Ready free a gives = absurd (true≢false (sym gives))

-- a step that tells no slack shows that its job's pile has none
stage-slackless : (m : Named) (before : Image) (g : Geometry) (old new : Option Image) (trie : Trie) (taken now : List Bool) (j k : JobView) (stage : Stage) (stepped : Stepped) → m.manifest.trie ≡ trie → j.stage ≡ stage → AdvancesFrom stage g old new trie taken now j k stepped
    → tells_no_slack stepped ≡ true → IsShaped m.geometry.levels m.manifest.trie j → KeepsJob m before j → is_slack m before (j.node, node_at m.manifest.trie j.node) ≡ false
stage-slackless m before g old new trie taken now j k (scanning n kept loose) steps.More at is a tells shaped keeps = absurd (true≢false (sym tells))
stage-slackless m before g old new trie taken now j k (scanning n kept loose) (steps.Planned wanted slack) at is a tells shaped keeps = by_level (is_last_level m.geometry.levels j.node) refl
  where
    pile : Node
    pile = node_at m.manifest.trie j.node

    -- what the plan told
    told : is_told_slack m.geometry.levels m.manifest.trie j.node kept loose ≡ false
    told = let back : m.geometry.levels ≡ j.levels = sym shaped.same in (λ i. is_told_slack (back i) (at i) j.node kept loose) ∙ sym a.0.1.slack_is ∙ not_true slack tells
      where
        not_true : (b : Bool) → not b ≡ true → b ≡ false
        not_true true h = absurd (true≢false (sym h))
        not_true false h = refl

    by_level : (b : Bool) → is_last_level m.geometry.levels j.node ≡ b → is_slack m before (j.node, pile) ≡ false
    by_level false inner = ap (λ b. b && has_slack m.geometry.levels m.manifest.trie j.node (node_items m before pile) (length pile.tables + length pile.groups)) inner
    by_level true last = plan-slack m before j n kept loose shaped is (scanned-all m j n kept loose is shaped a.0.0) (sym (shaped.whole last)) keeps ∙ told
stage-slackless m before g old new trie taken now j k (scanning n kept loose) (steps.Short short) at is a tells shaped keeps = absurd a.0
stage-slackless m before g old new trie taken now j k (scanning n kept loose) steps.Ready at is a tells shaped keeps = absurd a.0
stage-slackless m before g old new trie taken now j k (planned shares) steps.More at is a tells shaped keeps = absurd (true≢false (sym tells))
stage-slackless m before g old new trie taken now j k (planned shares) (steps.Planned wanted slack) at is a tells shaped keeps = absurd a
stage-slackless m before g old new trie taken now j k (planned shares) (steps.Short short) at is a tells shaped keeps = absurd (true≢false (sym tells))
stage-slackless m before g old new trie taken now j k (planned shares) steps.Ready at is a tells shaped keeps = absurd (true≢false (sym tells))
stage-slackless m before g old new trie taken now j k (filling shares numbers filled) stepped at is a tells shaped keeps = absurd (filled_tells stepped a.0 tells)
  where
    filled_tells : (s : Stepped) → FillsOne g old new j k shares numbers filled s → tells_no_slack s ≡ true → ⊥
    filled_tells steps.More f h = true≢false (sym h)
    filled_tells (steps.Planned wanted slack) f h = f
    filled_tells (steps.Short short) f h = f
    filled_tells steps.Ready f h = true≢false (sym h)

-- ---- marks

-- with one more node marked that passes a test, all that are marked pass it
one-more : (passes : NodeId × Node → Type 0) (trie : Trie) (marks : List Bool) (id : NodeId) (levels : ℕ) (es : Trie) → length marks ≡ most_nodes → levels ≤ 5 → is_node levels id ≡ true → passes (id, node_at trie id) → AllByRecursion (IsListed levels trie) es
    → AllByRecursion (λ e. IsTrue (is_marked marks e.0) → passes e) es → AllByRecursion (λ e. IsTrue (is_marked (marked marks id) e.0) → passes e) es
one-more passes trie marks id levels [] size few node pass listed all = tt
one-more passes trie marks id levels (e ∷ es) size few node pass listed all =
    ((λ is. by_node (same_node id e.0) refl (sym (mark-one marks id e.0 size (node-of-five levels id few node) (node-of-five levels e.0 few listed.0.node)) ∙ is)), one-more passes trie marks id levels es size few node pass listed.1 all.1)
  where
    by_node : (b : Bool) → same_node id e.0 ≡ b → (same_node id e.0 || is_marked marks e.0) ≡ true → passes e
    by_node true same either =
        let at : id ≡ e.0 = same_node-same id e.0 same in
        subst (λ n. passes (e.0, n)) listed.0.there (subst (λ q. passes (q, node_at trie q)) at pass)
    by_node false same either = all.0 (sym (ap (λ b. b || is_marked marks e.0) same) ∙ either)

-- A JOB GIVEN UP leaves what is true
pub given_up-true : (m : Named) (before image : Image) (levels : ℕ) (j k : JobView) (v : WorkView) → v.job ≡ Some j → SameExtents m.geometry before image (named m.manifest.trie) → levels ≤ 5 → IsTrie levels 65536 m.manifest.trie → is_node levels k.node ≡ true → length v.passed_over ≡ most_nodes
    → (is_whole m.manifest.trie k ≡ true → waits m before (k.node, node_at m.manifest.trie k.node) ≡ true) → IsTrueOn m before v → IsTrueOn m image (given_up m.manifest.trie k v)
given_up-true m before image levels j k v is same few t node size wait true_on = record {
  job = λ q at. absurd (none q at);
  waiting = by_whole (is_whole m.manifest.trie k) refl;
  slackless = slackless-same m before image v.without_slack m.manifest.trie same true_on.slackless;
}
  where
    none : (q : JobView) → None ≡ Some q → ⊥
    none q e = none-some q e

    by_whole : (b : Bool) → is_whole m.manifest.trie k ≡ b → PassedOverWait m image (cond b (marked v.passed_over k.node) v.passed_over)
    by_whole false part = wait-same m before image v.passed_over m.manifest.trie same true_on.waiting
    by_whole true whole = wait-same m before image (marked v.passed_over k.node) m.manifest.trie same (one-more (λ e. IsTrue (waits m before e)) m.manifest.trie v.passed_over k.node levels m.manifest.trie size few node (wait whole) (all-listed levels 65536 m.manifest.trie t) true_on.waiting)

-- A JOB GIVEN UP whose pile has no slack leaves what is true
given_up_slackless-true : (m : Named) (before image : Image) (levels : ℕ) (k : JobView) (v : WorkView) → SameExtents m.geometry before image (named m.manifest.trie) → levels ≤ 5 → IsTrie levels 65536 m.manifest.trie → is_node levels k.node ≡ true → length v.without_slack ≡ most_nodes
    → is_slack m before (k.node, node_at m.manifest.trie k.node) ≡ false → IsTrueOn m before v → IsTrueOn m image (given_up_slackless k v)
given_up_slackless-true m before image levels k v same few t node size none true_on = record {
  job = λ q at. absurd (none-some q at);
  waiting = wait-same m before image v.passed_over m.manifest.trie same true_on.waiting;
  slackless = slackless-same m before image (marked v.without_slack k.node) m.manifest.trie same
      (one-more (λ e. IsFalse (is_slack m before e)) m.manifest.trie v.without_slack k.node levels m.manifest.trie size few node none (all-listed levels 65536 m.manifest.trie t) true_on.slackless);
}

-- ---- after one step

along : (n : ℕ) (trie : Trie) (taken now : List Bool) (k : JobView) (numbers : List ℕ) → now ≡ taken → taken_in k.stage ≡ numbers → AreTaken n (named trie ++ numbers) taken → AreTaken n (named trie ++ taken_in k.stage) now
along n trie taken now k numbers same stage are = subst (λ flags. AreTaken n (named trie ++ taken_in k.stage) flags) (sym same) (subst (λ xs. AreTaken n (named trie ++ xs) taken) (sym stage) are)

-- what a step leaves of the job's name and its tables
record SameJob (j k : JobView) : Type 0 where
  node : k.node ≡ j.node
  sources : k.sources ≡ j.sources

in_stage : (j k : JobView) (stage : Stage) → k ≡ record j { stage = stage } → SameJob j k
in_stage j k stage is = record { node = ap (λ (x : JobView). x.node) is; sources = ap (λ (x : JobView). x.sources) is }

stage-same : (g : Geometry) (old new : Option Image) (trie : Trie) (taken now : List Bool) (j k : JobView) (stage : Stage) (stepped : Stepped) → AdvancesFrom stage g old new trie taken now j k stepped → SameJob j k
stage-same g old new trie taken now j k (scanning n kept loose) steps.More a = in_stage j k _ a.0.1.is
stage-same g old new trie taken now j k (scanning n kept loose) (steps.Planned wanted slack) a = in_stage j k _ a.0.1.is
stage-same g old new trie taken now j k (scanning n kept loose) (steps.Short short) a = absurd a.0
stage-same g old new trie taken now j k (scanning n kept loose) steps.Ready a = absurd a.0
stage-same g old new trie taken now j k (planned shares) steps.More a = in_stage j k _ a.0.is
stage-same g old new trie taken now j k (planned shares) (steps.Planned wanted slack) a = absurd a
stage-same g old new trie taken now j k (planned shares) (steps.Short short) a = record { node = ap (λ (x : JobView). x.node) a.3; sources = ap (λ (x : JobView). x.sources) a.3 }
stage-same g old new trie taken now j k (planned shares) steps.Ready a = in_stage j k _ a.0.is
stage-same g old new trie taken now j k (filling shares numbers filled) steps.More a = in_stage j k _ a.0.0.is
stage-same g old new trie taken now j k (filling shares numbers filled) (steps.Planned wanted slack) a = absurd a.0
stage-same g old new trie taken now j k (filling shares numbers filled) (steps.Short short) a = absurd a.0
stage-same g old new trie taken now j k (filling shares numbers filled) steps.Ready a = in_stage j k _ a.0.0.is

pub step-node : (g : Geometry) (old new : Option Image) (trie : Trie) (taken now : List Bool) (j k : JobView) (stepped : Stepped) → Advances g old new trie taken now j k stepped → k.node ≡ j.node
step-node g old new trie taken now j k stepped a = (stage-same g old new trie taken now j k j.stage stepped a).node

pub step-whole : (g : Geometry) (old new : Option Image) (trie nodes : Trie) (taken now : List Bool) (j k : JobView) (stepped : Stepped) → Advances g old new trie taken now j k stepped → is_whole nodes k ≡ is_whole nodes j
step-whole g old new trie nodes taken now j k stepped a = let s = stage-same g old new trie taken now j k j.stage stepped a in λ i. length (s.sources i) == length (node_at nodes (s.node i)).tables

-- WHERE A STEP TELLS that a job with its node's whole pile needs more than is free, the node waits
pub step-waits : (m : Named) (before : Image) (g : Geometry) (old new : Option Image) (trie : Trie) (taken now : List Bool) (j k : JobView) (v : WorkView) (stepped : Stepped) → m.manifest.trie ≡ trie → v.job ≡ Some j → Advances g old new trie taken now j k stepped → needs_more (free_count taken) stepped ≡ true
    → AreTaken m.manifest.header.extents (named trie ++ reserved_by v) taken → IsShaped m.geometry.levels m.manifest.trie j → KeepsJob m before j → is_whole m.manifest.trie k ≡ true → waits m before (k.node, node_at m.manifest.trie k.node) ≡ true
step-waits m before g old new trie taken now j k v stepped at is a more are shaped keeps whole =
    let same = stage-same g old new trie taken now j k j.stage stepped a in
    let bare : reserved_by v ≡ [] = of_job v j is ∙ (stage-bare g old new trie taken now j k j.stage stepped (free_count taken) a (or_right (tells_no_slack stepped) _ more)).none in
    let used : named trie ++ reserved_by v ≡ named m.manifest.trie = ap (λ xs. named trie ++ xs) bare ∙ append-nil (named trie) ∙ ap named (sym at) in
    let free = free-unnamed m taken (subst (λ xs. AreTaken m.manifest.header.extents xs taken) used are) in
    let pile : length j.sources ≡ length (node_at m.manifest.trie j.node).tables = eqb-true (length j.sources) (length (node_at m.manifest.trie j.node).tables) (sym (step-whole g old new trie m.manifest.trie taken now j k stepped a) ∙ whole) in
    ap (λ id. waits m before (id, node_at m.manifest.trie id)) same.node
    ∙ stage-waits m before g old new trie taken now j k j.stage stepped at refl a more free shaped pile keeps

-- ---- the extents that are in use

takes-in_use : (n count : ℕ) (trie : Trie) (taken now : List Bool) (numbers : List ℕ) → Reserves count taken now [] numbers → AreTaken n (named trie ++ []) taken → AreTaken n (named trie ++ numbers) now
takes-in_use n count trie taken now numbers r are = record {
  len = r.same_extents ∙ are.len;
  free = λ x below. r.others_stay x ∙ ap (λ b. b && not (is_in x r.numbers)) (are.free x below ∙ ap (λ xs. not (is_in x xs)) (append-nil (named trie))) ∙ apart (is_in x (named trie)) (is_in x r.numbers)
      ∙ ap (λ xs. not (is_in x (named trie) || is_in x xs)) (sym r.appended) ∙ ap not (sym (in_append x (named trie) numbers));
}
  where
    apart : (a b : Bool) → (not a && not b) ≡ not (a || b)
    apart true b = refl
    apart false b = refl

stage-in_use : (n : ℕ) (g : Geometry) (old new : Option Image) (trie : Trie) (taken now : List Bool) (j k : JobView) (stage : Stage) (stepped : Stepped) → j.stage ≡ stage → AdvancesFrom stage g old new trie taken now j k stepped → AreTaken n (named trie ++ taken_in stage) taken → AreTaken n (named trie ++ taken_in k.stage) now
stage-in_use n g old new trie taken now j k (scanning m kept loose) steps.More is a are = along n trie taken now k _ a.1 (ap (λ (x : JobView). taken_in x.stage) a.0.1.is) are
stage-in_use n g old new trie taken now j k (scanning m kept loose) (steps.Planned wanted slack) is a are = along n trie taken now k _ a.1 (ap (λ (x : JobView). taken_in x.stage) a.0.1.is) are
stage-in_use n g old new trie taken now j k (scanning m kept loose) (steps.Short short) is a are = absurd a.0
stage-in_use n g old new trie taken now j k (scanning m kept loose) steps.Ready is a are = absurd a.0
stage-in_use n g old new trie taken now j k (planned shares) steps.More is a are = subst (λ xs. AreTaken n (named trie ++ xs) now) (sym (ap (λ (x : JobView). taken_in x.stage) a.0.is)) (takes-in_use n (extents_for j.levels shares) trie taken now a.0.numbers a.0.reserved are)
stage-in_use n g old new trie taken now j k (planned shares) (steps.Planned wanted slack) is a are = absurd a
stage-in_use n g old new trie taken now j k (planned shares) (steps.Short short) is a are = along n trie taken now k [] a.4 (ap (λ (x : JobView). taken_in x.stage) a.3 ∙ ap taken_in is) are
stage-in_use n g old new trie taken now j k (planned shares) steps.Ready is a are = subst (λ xs. AreTaken n (named trie ++ xs) now) (sym (ap (λ (x : JobView). taken_in x.stage) a.0.is)) (takes-in_use n (extents_for j.levels shares) trie taken now a.0.numbers a.0.reserved are)
stage-in_use n g old new trie taken now j k (filling shares numbers filled) steps.More is a are = along n trie taken now k numbers a.1 (ap (λ (x : JobView). taken_in x.stage) a.0.0.is) are
stage-in_use n g old new trie taken now j k (filling shares numbers filled) (steps.Planned wanted slack) is a are = absurd a.0
stage-in_use n g old new trie taken now j k (filling shares numbers filled) (steps.Short short) is a are = absurd a.0
stage-in_use n g old new trie taken now j k (filling shares numbers filled) steps.Ready is a are = along n trie taken now k numbers a.1 (ap (λ (x : JobView). taken_in x.stage) a.0.0.is) are

pub step-in_use : (n : ℕ) (g : Geometry) (old new : Option Image) (trie : Trie) (taken now : List Bool) (j k : JobView) (v : WorkView) (stepped : Stepped) → v.job ≡ Some j → Advances g old new trie taken now j k stepped → AreTaken n (named trie ++ reserved_by v) taken → AreTaken n (named trie ++ taken_in k.stage) now
step-in_use n g old new trie taken now j k v stepped is a are = stage-in_use n g old new trie taken now j k j.stage stepped refl a (subst (λ xs. AreTaken n (named trie ++ xs) taken) (of_job v j is) are)

-- ---- what is left once the step was judged

-- as many extents are free before as after a step that tells what its job needs
stage-needs : (g : Geometry) (old new : Option Image) (trie : Trie) (taken now : List Bool) (j k : JobView) (stage : Stage) (stepped : Stepped) → AdvancesFrom stage g old new trie taken now j k stepped → needs_more (free_count now) stepped ≡ needs_more (free_count taken) stepped
stage-needs g old new trie taken now j k (scanning n kept loose) stepped a = ap (λ flags. needs_more (free_count flags) stepped) a.1
stage-needs g old new trie taken now j k (planned shares) steps.More a = refl
stage-needs g old new trie taken now j k (planned shares) (steps.Planned wanted slack) a = absurd a
stage-needs g old new trie taken now j k (planned shares) (steps.Short short) a = ap (λ flags. needs_more (free_count flags) (steps.Short short)) a.4
stage-needs g old new trie taken now j k (planned shares) steps.Ready a = refl
stage-needs g old new trie taken now j k (filling shares numbers filled) stepped a = ap (λ flags. needs_more (free_count flags) stepped) a.1

-- THE WORK IS JUDGED by the extents that were free before the step
pub judged-is : (g : Geometry) (old new : Option Image) (trie : Trie) (taken now : List Bool) (j k : JobView) (v : WorkView) (stepped : Stepped) → Advances g old new trie taken now j k stepped → after_step g.levels trie (free_count now) stepped k v ≡ after_step g.levels trie (free_count taken) stepped k v
judged-is g old new trie taken now j k v stepped a = ap (λ b. cond (is_in_vain g.levels trie k stepped) (given_up_slackless k v) (cond b (given_up trie k v) (record v { job = Some k }))) (stage-needs g old new trie taken now j k j.stage stepped a)

-- the three ways in which a step leaves the work
by-judgement : (P : WorkView → Type 0) (levels : ℕ) (trie : Trie) (free : ℕ) (stepped : Stepped) (k : JobView) (v : WorkView) → (is_in_vain levels trie k stepped ≡ true → P (given_up_slackless k v)) → (needs_more free stepped ≡ true → P (given_up trie k v)) → P (record v { job = Some k }) → P (after_step levels trie free stepped k v)
by-judgement P levels trie free stepped k v vain needs on = by_vain (is_in_vain levels trie k stepped) refl
  where
    by_needs : (b : Bool) → needs_more free stepped ≡ b → P (cond b (given_up trie k v) (record v { job = Some k }))
    by_needs true is = needs is
    by_needs false is = on

    by_vain : (b : Bool) → is_in_vain levels trie k stepped ≡ b → P (cond b (given_up_slackless k v) (cond (needs_more free stepped) (given_up trie k v) (record v { job = Some k })))
    by_vain true is = vain is
    by_vain false is = by_needs (needs_more free stepped) refl

-- WHAT SUITS suits after the step
pub judged-suits : (g : Geometry) (old new : Option Image) (trie : Trie) (taken now : List Bool) (j k : JobView) (v : WorkView) (stepped : Stepped) → v.job ≡ Some j → Advances g old new trie taken now j k stepped → GoesWith g.levels trie now k → SuitsTrie g.levels trie taken v
    → SuitsTrie g.levels trie now (after_step g.levels trie (free_count taken) stepped k v)
judged-suits g old new trie taken now j k v stepped is a goes suits =
    by-judgement (SuitsTrie g.levels trie now) g.levels trie (free_count taken) stepped k v
    (λ vain. record { job = λ q none. absurd (none-some q none); candidate = λ q none. absurd (none-some q none); passed_over = suits.passed_over; without_slack = length-set v.without_slack (place_of k.node) true ∙ suits.without_slack })
    (λ needs. record { job = λ q none. absurd (none-some q none); candidate = λ q none. absurd (none-some q none); passed_over = passed (is_whole trie k); without_slack = suits.without_slack })
    (record {
      job = λ q at. subst (GoesWith g.levels trie now) (same_job at) goes;
      candidate = λ q at. subst (IsCandidate g.levels trie v.passed_over v.without_slack) (same_job at) candidate;
      passed_over = suits.passed_over;
      without_slack = suits.without_slack;
    })
  where
    passed : (b : Bool) → length (cond b (marked v.passed_over k.node) v.passed_over) ≡ most_nodes
    passed true = length-set v.passed_over (place_of k.node) true ∙ suits.passed_over
    passed false = suits.passed_over

    same_job : {a b : JobView} → Some a ≡ Some b → a ≡ b
    same_job e = cc

    node : k.node ≡ j.node
    node = step-node g old new trie taken now j k stepped a

    candidate : IsCandidate g.levels trie v.passed_over v.without_slack k
    candidate = record {
      begins = ap (may_begin g.levels trie v.without_slack) node ∙ (suits.candidate j is).begins;
      unmarked = ap (is_marked v.passed_over) node ∙ (suits.candidate j is).unmarked;
    }

-- THE EXTENTS THAT ARE TAKEN are those that the trie names and the job has reserved
pub judged-in_use : (n : ℕ) (g : Geometry) (old new : Option Image) (trie : Trie) (taken now : List Bool) (j k : JobView) (v : WorkView) (stepped : Stepped) → v.job ≡ Some j → Advances g old new trie taken now j k stepped → AreTaken n (named trie ++ reserved_by v) taken
    → AreTaken n (named trie ++ reserved_by (after_step g.levels trie (free_count taken) stepped k v)) now
judged-in_use n g old new trie taken now j k v stepped is a are =
    by-judgement (λ w. AreTaken n (named trie ++ reserved_by w) now) g.levels trie (free_count taken) stepped k v
    (λ vain. given (ap (λ b. b || needs_more (free_count taken) stepped) (and_parts (tells_no_slack stepped) _ vain).0))
    (λ needs. given (or_right (tells_no_slack stepped) _ needs)) (step-in_use n g old new trie taken now j k v stepped is a are)
  where
    given : (tells_no_slack stepped || needs_more (free_count taken) stepped) ≡ true → AreTaken n (named trie ++ []) now
    given gives =
        let bare = stage-bare g old new trie taken now j k j.stage stepped (free_count taken) a gives in
        subst (AreTaken n (named trie ++ [])) (sym bare.left) (subst (λ xs. AreTaken n (named trie ++ xs) taken) (of_job v j is ∙ bare.none) are)

-- WHAT IS TRUE stays so
pub judged-true : (m : Named) (before image : Image) (g : Geometry) (old new : Option Image) (trie : Trie) (taken now : List Bool) (j k : JobView) (v : WorkView) (stepped : Stepped) → m.geometry ≡ g → m.manifest.trie ≡ trie → g.levels ≤ 5 → IsTrie g.levels 65536 trie → v.job ≡ Some j → Advances g old new trie taken now j k stepped
    → SuitsTrie g.levels trie taken v → AreTaken m.manifest.header.extents (named trie ++ reserved_by v) taken → old ≡ Some before → new ≡ Some image → ShowsSameOutside (InExtents g (next_extents j.stage)) old new → (KeepsJob m before j → KeepsJob m image k) → IsTrueOn m before v
    → IsTrueOn m image (after_step g.levels trie (free_count taken) stepped k v)
judged-true m before image g old new trie taken now j k v stepped geometry at few t is a suits are was shown others keeps true_on =
    by-judgement (IsTrueOn m image) g.levels trie (free_count taken) stepped k v
    (λ vain. given_up_slackless-true m before image g.levels k v same few t_now node suits.without_slack
    (ap (λ id. is_slack m before (id, node_at m.manifest.trie id)) names ∙ stage-slackless m before g old new trie taken now j k j.stage stepped at refl a (and_parts (tells_no_slack stepped) _ vain).0 shaped (true_on.job j is)) true_on)
    (λ needs. subst (λ nodes. IsTrueOn m image (given_up nodes k v)) at
    (given_up-true m before image g.levels j k v is same few t_now node suits.passed_over (λ whole. step-waits m before g old new trie taken now j k v stepped at is a needs are shaped (true_on.job j is) whole) true_on))
    (step-true m before image j k v is same keeps true_on)
  where
    goes : GoesWith g.levels m.manifest.trie taken j
    goes = subst (λ nodes. GoesWith g.levels nodes taken j) (sym at) (suits.job j is)

    shaped : IsShaped m.geometry.levels m.manifest.trie j
    shaped = subst (λ (h : Geometry). IsShaped h.levels m.manifest.trie j) (sym geometry) goes.shaped

    t_now : IsTrie g.levels 65536 m.manifest.trie
    t_now = subst (IsTrie g.levels 65536) (sym at) t

    names : k.node ≡ j.node
    names = step-node g old new trie taken now j k stepped a

    node : is_node g.levels k.node ≡ true
    node = ap (is_node g.levels) names ∙ job-node g.levels 65536 m.manifest.trie j t_now goes.shaped

    same : SameExtents m.geometry before image (named m.manifest.trie)
    same = named-same m before image old new g.levels taken j was shown (subst (λ (h : Geometry). ShowsSameOutside (InExtents h (next_extents j.stage)) old new) (sym geometry) others) goes
