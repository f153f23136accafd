-- Work comes to an end.
use Rattle.std.proofs.Common.{◌≡◌, ℕ, ◌+◌, ◌-◌, ◌*◌, ◌<◌, ◌≤◌, refl, sym, ap, subst, ◌∙◌, List, [], ◌∷◌, ◌++◌, append_assoc, length, Bool, true, false, not, cond, ◌&&◌, ◌||◌, Option, Some, None, arith}
use Rattle.std.specs.Prelude.{◌==◌, IsTrue, count_by}
use Rattle.std.specs.List.{AllByRecursion}
use Rattle.std.proofs.lemmas.Bool.{and_parts, eq-eqb, ltb-false, ltb-true, true≢false}
use Rattle.std.proofs.lemmas.List.Sums.{count_by-le-length, sum_by-set}
use Rattle.std.proofs.lemmas.List.{length-replicate}
use Rattle.lt_terms.specs.Bytes.{Image, is_in}
use Rattle.lt_alloc.specs.Extents.{Reserves, free_count}
use Rattle.lt_format.specs.declared.geometry.Geometry.{Geometry}
use Rattle.lt_format.specs.declared.node_id.NodeId.{NodeId}
use Rattle.lt_format.specs.Changes.{Change, ChildChange, after_change, deal, fits, new_extents, rewrite}
use Rattle.lt_format.specs.Snapshot.{Named}
use Rattle.lt_format.specs.Trie.{IsTrie, Trie, all_below, is_last_level, is_node, node_at}
use Rattle.lt_format.proofs.Numbers.{below-times, length-distinct, times-absent}
use Rattle.lt_image.specs.Needs.{is_exhausted, is_full, is_settled}
use Rattle.lt_image.specs.Work.{digit_base, number_of_digits, trie_digits}
use Rattle.lt_image.proofs.EndLaws.{deal-lowers, digits-decide, due-rewrite-lowers, other-rewrite-leaves}
use Rattle.lt_pace.specs.Candidates.{next_full, next_slack}
use Rattle.lt_pace.specs.Marks.{is_marked, marked, most_nodes, no_marks, place_of}
use Rattle.lt_pace.proofs.CandidateLaws.{none-exhausted, none-settled, none_either}
use Rattle.lt_pace.proofs.MarkLaws.{place-small}
use Rattle.lt_compact.specs.declared.step.Stepped.{Stepped}
use Rattle.lt_compact.specs.declared.step.Stepped.TheVariants as steps
use Rattle.lt_compact.specs.Extents.{GoesWith}
use Rattle.lt_compact.specs.Jobs.{JobView, Stage, filling, is_whole, planned, scanning}
use Rattle.lt_compact.specs.Steps.{AdvancesFrom}
use Rattle.lt_compact.specs.Plans.{all_given, change_for, rewriting}
use Rattle.lt_compact.proofs.CommitLaws.{IsReady, job-ready}
use Rattle.lt_compact.proofs.NeedLaws.{pile-few}
use Rattle.lt_compact.proofs.TakeLaws.{reserved-distinct, reserved-taken}
use Rattle.lt_work.specs.declared.advancing.Advanced.TheVariants as answers
use Rattle.lt_work.specs.declared.advancing.Wanted.{Wanted}
use Rattle.lt_work.specs.declared.advancing.Wanted.TheVariants as wants
use Rattle.lt_work.specs.Advancing.{Begins, StepsOn, Works, WorksFrom, given_up, given_up_slackless, is_in_vain, needs_more, next_wanted, tells_no_slack}
use Rattle.lt_work.specs.Committing.{CanCommit, committed_work, slackless_after}
use Rattle.lt_work.specs.Ending.{job_steps_left, nodes_left, slack_left, steps_left, turns_left, work_left}
use Rattle.lt_work.specs.Work.{IsTrueOn, SuitsTrie, WorkView, may_begin}
use Rattle.lt_work.proofs.CandidateLaws.{job-node, node-of-five}
use Rattle.lt_work.proofs.CommitLaws.{commit-below, commit-for, slackless-size}
use Rattle.lt_work.proofs.StepLaws.{step-node, step-whole}

-- WHERE NO CANDIDATE IS LEFT and what is remembered is true, the image is settled
pub settled-image : (m : Named) (image : Image) (extents : ℕ) (w : WorkView) → IsTrie m.geometry.levels extents m.manifest.trie → IsTrueOn m image w → next_full m.geometry.levels m.manifest.trie w.passed_over ≡ None → IsTrue (is_settled m image)
settled-image m image extents w t true_on none = none-settled m image extents w.passed_over t true_on.waiting none

-- WITH NO PILE LEFT that may have slack either it is exhausted
pub exhausted-image : (m : Named) (image : Image) (extents : ℕ) (w : WorkView) → IsTrie m.geometry.levels extents m.manifest.trie → IsTrueOn m image w → next_wanted wants.Slack m.geometry.levels m.manifest.trie w ≡ None → IsTrue (is_exhausted m image)
exhausted-image m image extents w t true_on none =
    let both = none_either (next_full m.geometry.levels m.manifest.trie w.passed_over) (next_slack m.geometry.levels m.manifest.trie w.passed_over w.without_slack) none in
    none-exhausted m image extents w.passed_over w.without_slack t true_on.waiting true_on.slackless both.0 both.1

-- ---- the digits behind the trie's

-- fewer nodes may have slack, whatever follows
less-slack : (levels : ℕ) (trie : Trie) (v w : WorkView) → slack_left w < slack_left v → nodes_left trie w < digit_base → job_steps_left w.job < digit_base → work_left levels trie w < work_left levels trie v
less-slack levels trie v w less nodes steps = digits-decide (trie_digits levels trie) (nodes_left trie w ∷ job_steps_left w.job ∷ []) (nodes_left trie v ∷ job_steps_left v.job ∷ []) (slack_left w) (slack_left v) less refl (nodes, (steps, tt))

-- as many nodes may have slack, and fewer are left, whatever steps the job has
fewer_nodes : (levels : ℕ) (trie : Trie) (v w : WorkView) → slack_left w ≡ slack_left v → nodes_left trie w < nodes_left trie v → job_steps_left w.job < digit_base → work_left levels trie w < work_left levels trie v
fewer_nodes levels trie v w slack less small =
    let front : List ℕ = trie_digits levels trie ++ slack_left v ∷ [] in
    let decided = digits-decide front (job_steps_left w.job ∷ []) (job_steps_left v.job ∷ []) (nodes_left trie w) (nodes_left trie v) less refl (small, tt) in
    let old : number_of_digits (front ++ nodes_left trie v ∷ job_steps_left v.job ∷ []) ≡ work_left levels trie v = ap number_of_digits (append_assoc (trie_digits levels trie) (slack_left v ∷ []) (nodes_left trie v ∷ job_steps_left v.job ∷ [])) in
    let new : number_of_digits (front ++ nodes_left trie w ∷ job_steps_left w.job ∷ []) ≡ work_left levels trie w =
    ap number_of_digits (append_assoc (trie_digits levels trie) (slack_left v ∷ []) (nodes_left trie w ∷ job_steps_left w.job ∷ [])) ∙ ap (λ n. number_of_digits (trie_digits levels trie ++ n ∷ nodes_left trie w ∷ job_steps_left w.job ∷ [])) (sym slack) in
    subst (λ n. n < work_left levels trie v) new (subst (λ n. number_of_digits (front ++ nodes_left trie w ∷ job_steps_left w.job ∷ []) < n) old decided)

-- as many nodes may have slack and are left, and the job has fewer steps
fewer_steps : (levels : ℕ) (trie : Trie) (v w : WorkView) → slack_left w ≡ slack_left v → nodes_left trie w ≡ nodes_left trie v → job_steps_left w.job < job_steps_left v.job → work_left levels trie w < work_left levels trie v
fewer_steps levels trie v w slack same less =
    let front : List ℕ = trie_digits levels trie ++ slack_left v ∷ nodes_left trie v ∷ [] in
    let slack_back : slack_left v ≡ slack_left w = sym slack in
    let same_back : nodes_left trie v ≡ nodes_left trie w = sym same in
    let decided = digits-decide front [] [] (job_steps_left w.job) (job_steps_left v.job) less refl tt in
    let old : number_of_digits (front ++ job_steps_left v.job ∷ []) ≡ work_left levels trie v = ap number_of_digits (append_assoc (trie_digits levels trie) (slack_left v ∷ nodes_left trie v ∷ []) (job_steps_left v.job ∷ [])) in
    let new : number_of_digits (front ++ job_steps_left w.job ∷ []) ≡ work_left levels trie w =
    ap number_of_digits (append_assoc (trie_digits levels trie) (slack_left v ∷ nodes_left trie v ∷ []) (job_steps_left w.job ∷ [])) ∙ (λ i. number_of_digits (trie_digits levels trie ++ slack_back i ∷ same_back i ∷ job_steps_left w.job ∷ [])) in
    subst (λ n. n < work_left levels trie v) new (subst (λ n. number_of_digits (front ++ job_steps_left w.job ∷ []) < n) old decided)

-- ---- a node that is passed over

-- what a mark counts
abbrev counts : Bool → ℕ
counts b = cond (not b) 1 0

-- with a mark more there is a node fewer that is not passed over
one-fewer : (marks : List Bool) (id : NodeId) → length marks ≡ most_nodes → is_node 5 id ≡ true → is_marked marks id ≡ false → count_by not (marked marks id) + 1 ≡ count_by not marks
one-fewer marks id size node clear =
    let within : place_of id < length marks = subst (λ n. place_of id < n) (sym size) (place-small id node) in
    let counted : count_by not (marked marks id) + counts (is_marked marks id) ≡ count_by not marks + 0 = sum_by-set counts marks (place_of id) true false within in
    let weight : counts (is_marked marks id) ≡ 1 = ap counts clear in
    omega (arith, counted, weight)

-- ---- a job begins

begins-less : (wanted : Wanted) (levels : ℕ) (trie : Trie) (v w : WorkView) → IsTrie levels 65536 trie → v.job ≡ None → Begins wanted levels trie v w → work_left levels trie w < work_left levels trie v
begins-less wanted levels trie v w t none b =
    let count : ℕ = length (node_at trie b.node).tables in
    let whole : (count == count) ≡ true = eq-eqb count count refl in
    let old : turns_left trie v.job ≡ 2 = ap (turns_left trie) none in
    let new : turns_left trie w.job ≡ 1 = ap (λ (x : WorkView). turns_left trie x.job) b.is ∙ ap (λ c. cond c 1 3) whole in
    let marks : count_by not w.passed_over ≡ count_by not v.passed_over = ap (λ (x : WorkView). count_by not x.passed_over) b.is in
    let few : count ≤ 65536 = pile-few levels trie b.node t in
    let steps : job_steps_left w.job ≡ (count - 0) + 65538 = ap (λ (x : WorkView). job_steps_left x.job) b.is in
    fewer_nodes levels trie v w (ap slack_left b.is) (omega (arith, old, new, marks)) (omega (arith, steps, few))

-- ---- a job steps on

-- extents that were reserved are at most as many as there are
reserved-few : (count : ℕ) (taken now : List Bool) (numbers : List ℕ) → Reserves count taken now [] numbers → length numbers ≤ length taken
reserved-few count taken now numbers r =
    let low = below-times (length now) numbers (λ x high. times-absent x numbers (absent x high (is_in x numbers) refl)) in
    let few = length-distinct (length now) numbers (reserved-distinct count taken now numbers r) low in
    let size = r.same_extents in
    omega (arith, few, size)
  where
    absent : (x : ℕ) → length now ≤ x → (b : Bool) → is_in x numbers ≡ b → is_in x numbers ≡ false
    absent x high false is = is
    absent x high true is = let below = (reserved-taken count taken now numbers r).below x is in absurd (omega (arith, below, high))

-- the steps that a job with its stage has left
abbrev left_of : JobView → ℕ
left_of j = steps_left (length j.sources) j.stage

stage-less : (g : Geometry) (old new : Option Image) (trie : Trie) (taken now : List Bool) (j k : JobView) (stage : Stage) (stepped : Stepped) → length taken ≤ 65536 → AdvancesFrom stage g old new trie taken now j k stepped → needs_more (free_count taken) stepped ≡ false → left_of k < steps_left (length j.sources) stage
stage-less g old new trie taken now j k (scanning n kept loose) steps.More small a fits =
    let left : n < length j.sources = ltb-true n (length j.sources) a.0.0 in
    let after : left_of k ≡ (length j.sources - (n + 1)) + 65538 = ap left_of a.0.1.is in
    omega (arith, left, after)
stage-less g old new trie taken now j k (scanning n kept loose) (steps.Planned wanted slack) small a fits =
    let after : left_of k ≡ 65537 = ap left_of a.0.1.is in
    omega (arith, after)
stage-less g old new trie taken now j k (scanning n kept loose) (steps.Short short) small a fits = absurd a.0
stage-less g old new trie taken now j k (scanning n kept loose) steps.Ready small a fits = absurd a.0
stage-less g old new trie taken now j k (planned shares) steps.More small a fits =
    let few = reserved-few _ taken now a.0.numbers a.0.reserved in
    let after : left_of k ≡ length a.0.numbers - 0 = ap left_of a.0.is in
    omega (arith, few, after, small)
stage-less g old new trie taken now j k (planned shares) (steps.Planned wanted slack) small a fits = absurd a
stage-less g old new trie taken now j k (planned shares) (steps.Short short) small a fits =
    let high : short.needed ≤ free_count taken = ltb-false (free_count taken) short.needed fits in
    let free : short.free ≡ free_count taken = a.1 in
    let low : short.free < short.needed = a.2 in
    absurd (omega (arith, high, free, low))
stage-less g old new trie taken now j k (planned shares) steps.Ready small a fits =
    let few = reserved-few _ taken now a.0.numbers a.0.reserved in
    let after : left_of k ≡ length a.0.numbers - 0 = ap left_of a.0.is in
    omega (arith, few, after, small)
stage-less g old new trie taken now j k (filling shares numbers filled) steps.More small a fits =
    let more : filled + 1 < length numbers = a.0.1 in
    let after : left_of k ≡ length numbers - (filled + 1) = ap left_of a.0.0.is in
    omega (arith, more, after)
stage-less g old new trie taken now j k (filling shares numbers filled) (steps.Planned wanted slack) small a fits = absurd a.0
stage-less g old new trie taken now j k (filling shares numbers filled) (steps.Short short) small a fits = absurd a.0
stage-less g old new trie taken now j k (filling shares numbers filled) steps.Ready small a fits =
    let last : filled + 1 ≡ length numbers = a.0.1 in
    let after : left_of k ≡ length numbers - (filled + 1) = ap left_of a.0.0.is in
    omega (arith, last, after)

-- a step that needs no more than is free leaves fewer steps
stepped-less : (levels : ℕ) (trie : Trie) (j k : JobView) (v w : WorkView) → v.job ≡ Some j → w ≡ record v { job = Some k } → is_whole trie k ≡ is_whole trie j → left_of k < left_of j → work_left levels trie w < work_left levels trie v
stepped-less levels trie j k v w at is whole less =
    let marks : count_by not w.passed_over ≡ count_by not v.passed_over = ap (λ (x : WorkView). count_by not x.passed_over) is in
    let turns : turns_left trie w.job ≡ turns_left trie v.job = ap (λ (x : WorkView). turns_left trie x.job) is ∙ ap (λ b. cond b 1 3) whole ∙ sym (ap (turns_left trie) at) in
    let old : job_steps_left v.job ≡ left_of j = ap job_steps_left at in
    let new : job_steps_left w.job ≡ left_of k = ap (λ (x : WorkView). job_steps_left x.job) is in
    fewer_steps levels trie v w (ap slack_left is) (omega (arith, marks, turns)) (omega (arith, old, new, less))

-- a job that is given up leaves fewer nodes: its own is passed over, or a whole pile is next
gives-less : (levels : ℕ) (trie : Trie) (j k : JobView) (v w : WorkView) → v.job ≡ Some j → w ≡ given_up trie k v → is_whole trie k ≡ is_whole trie j → length v.passed_over ≡ most_nodes → is_node 5 k.node ≡ true → is_marked v.passed_over k.node ≡ false
    → work_left levels trie w < work_left levels trie v
gives-less levels trie j k v w at is alike size node clear = fewer_nodes levels trie v w (ap slack_left is) (by_whole (is_whole trie k) refl) (omega (arith, none))
  where
    none : job_steps_left w.job ≡ 0
    none = ap (λ (x : WorkView). job_steps_left x.job) is

    after : turns_left trie w.job ≡ 2
    after = ap (λ (x : WorkView). turns_left trie x.job) is

    before : turns_left trie v.job ≡ cond (is_whole trie k) 1 3
    before = ap (turns_left trie) at ∙ ap (λ b. cond b 1 3) (sym alike)

    by_whole : (b : Bool) → is_whole trie k ≡ b → nodes_left trie w < nodes_left trie v
    by_whole true all =
        let marks : count_by not w.passed_over ≡ count_by not (marked v.passed_over k.node) = ap (λ (x : WorkView). count_by not x.passed_over) is ∙ ap (λ b. count_by not (cond b (marked v.passed_over k.node) v.passed_over)) all in
        let one = one-fewer v.passed_over k.node size node clear in
        let turns : turns_left trie v.job ≡ 1 = before ∙ ap (λ b. cond b 1 3) all in
        omega (arith, marks, one, turns, after)
    by_whole false part =
        let marks : count_by not w.passed_over ≡ count_by not v.passed_over = ap (λ (x : WorkView). count_by not x.passed_over) is ∙ ap (λ b. count_by not (cond b (marked v.passed_over k.node) v.passed_over)) part in
        let turns : turns_left trie v.job ≡ 3 = before ∙ ap (λ b. cond b 1 3) part in
        omega (arith, marks, turns, after)

-- no digit of the marks is too great
marks-few : (marks : List Bool) → length marks ≡ most_nodes → 4 * count_by not marks + 2 < digit_base
marks-few marks size = let most = count_by-le-length not marks in omega (arith, most, size)

-- a job that is given up for want of slack leaves fewer nodes that may have slack
vain-less : (levels : ℕ) (trie : Trie) (k : JobView) (v w : WorkView) → w ≡ given_up_slackless k v → length v.passed_over ≡ most_nodes → length v.without_slack ≡ most_nodes → is_node 5 k.node ≡ true → is_marked v.without_slack k.node ≡ false → work_left levels trie w < work_left levels trie v
vain-less levels trie k v w is passed size node clear =
    let none : job_steps_left w.job ≡ 0 = ap (λ (x : WorkView). job_steps_left x.job) is in
    let nodes : nodes_left trie w ≡ 4 * count_by not v.passed_over + 2 = ap (nodes_left trie) is in
    let few = marks-few v.passed_over passed in
    let marks : slack_left w ≡ count_by not (marked v.without_slack k.node) = ap slack_left is in
    let one = one-fewer v.without_slack k.node size node clear in
    less-slack levels trie v w (omega (arith, marks, one)) (omega (arith, nodes, few)) (omega (arith, none))

-- a pile that a job may have begun at and that is not full is not known to have no slack
not-known : (a b marked : Bool) → (a || (b && not marked)) ≡ true → a ≡ false → marked ≡ false
not-known true b marked begins part = absurd (true≢false part)
not-known false true true begins part = absurd (true≢false (sym begins))
not-known false true false begins part = refl
not-known false false marked begins part = absurd (true≢false (sym begins))

not-true : (b : Bool) → not b ≡ true → b ≡ false
not-true true h = absurd (true≢false (sym h))
not-true false h = refl

steps-less : (g : Geometry) (old new : Option Image) (trie : Trie) (taken now : List Bool) (j : JobView) (v w : WorkView) → g.levels ≤ 5 → IsTrie g.levels 65536 trie → length taken ≤ 65536 → SuitsTrie g.levels trie taken v → v.job ≡ Some j → StepsOn g old new trie taken now j v w → work_left g.levels trie w < work_left g.levels trie v
steps-less g old new trie taken now j v w few t small suits at s = by_vain (is_in_vain g.levels trie k s.stepped) refl
  where
    k : JobView
    k = s.after

    names : k.node ≡ j.node
    names = step-node g old new trie taken now j k s.stepped s.step

    whole : is_whole trie k ≡ is_whole trie j
    whole = step-whole g old new trie trie taken now j k s.stepped s.step

    node : is_node 5 k.node ≡ true
    node = ap (is_node 5) names ∙ node-of-five g.levels j.node few (job-node g.levels 65536 trie j t (suits.job j at).shaped)

    begins : may_begin g.levels trie v.without_slack k.node ≡ true
    begins = ap (may_begin g.levels trie v.without_slack) names ∙ (suits.candidate j at).begins

    passing : is_marked v.passed_over k.node ≡ false
    passing = ap (is_marked v.passed_over) names ∙ (suits.candidate j at).unmarked

    by_need : (b : Bool) → needs_more (free_count taken) s.stepped ≡ b → w ≡ cond b (given_up trie k v) (record v { job = Some k }) → work_left g.levels trie w < work_left g.levels trie v
    by_need false fits is = stepped-less g.levels trie j k v w at is whole (stage-less g old new trie taken now j k j.stage s.stepped small s.step fits)
    by_need true more is = gives-less g.levels trie j k v w at is whole suits.passed_over node passing

    by_vain : (b : Bool) → is_in_vain g.levels trie k s.stepped ≡ b → work_left g.levels trie w < work_left g.levels trie v
    by_vain true vain =
        let part = not-true (is_full g.levels (k.node, node_at trie k.node)) (and_parts (tells_no_slack s.stepped) _ vain).1 in
        vain-less g.levels trie k v w (s.is ∙ ap (λ b. cond b (given_up_slackless k v) (cond (needs_more (free_count taken) s.stepped) (given_up trie k v) (record v { job = Some k }))) vain) suits.passed_over suits.without_slack node
        (not-known (is_full g.levels (k.node, node_at trie k.node)) (is_last_level g.levels k.node) (is_marked v.without_slack k.node) begins part)
    by_vain false on = by_need (needs_more (free_count taken) s.stepped) refl
        (s.is ∙ ap (λ b. cond b (given_up_slackless k v) (cond (needs_more (free_count taken) s.stepped) (given_up trie k v) (record v { job = Some k }))) on)

-- EACH CALL that answers `More` lowers how much is left
pub advances-less : (wanted : Wanted) (g : Geometry) (old new : Option Image) (trie : Trie) (taken now : List Bool) (v w : WorkView) → g.levels ≤ 5 → IsTrie g.levels 65536 trie → length taken ≤ 65536 → SuitsTrie g.levels trie taken v → Works wanted g old new trie taken now v w answers.More
    → work_left g.levels trie w < work_left g.levels trie v
advances-less wanted g old new trie taken now v w few t small suits works = by_job v.job refl works
  where
    by_job : (o : Option JobView) → v.job ≡ o → WorksFrom o wanted g old new trie taken now v w answers.More → work_left g.levels trie w < work_left g.levels trie v
    by_job None at begins = begins-less wanted g.levels trie v w t at begins.0
    by_job (Some j) at stepped = steps-less g old new trie taken now j v w few t small suits at stepped.1

-- ---- a ready job's commit

-- EACH COMMIT lowers how much is left: a deal and a rewriting of a due pile lower the trie's digits, and another rewriting
-- leaves a node fewer that may have slack
pub commits-less : (m : Named) (taken : List Bool) (w : WorkView) (change : Change) → CanCommit m taken w change → work_left m.geometry.levels (after_change m.manifest.trie change) (committed_work change w) < work_left m.geometry.levels m.manifest.trie w
commits-less m taken w change c =
    by_change (is_last_level levels job.node) (all_given levels ready.shares ready.numbers) (ready.change_is ∙ ap (λ l. change_for l job.node (length job.sources) ready.shares ready.numbers) goes.shaped.same)
  where
    job : JobView
    job = c.ready.job

    ready : IsReady job.levels job.node job.sources job.stage change
    ready = job-ready job change c.ready.change_is

    goes : GoesWith m.geometry.levels m.manifest.trie taken job
    goes = c.suits.job job c.ready.in_flight

    levels : ℕ
    levels = m.geometry.levels

    trie : Trie
    trie = m.manifest.trie

    -- the digits behind the trie's
    after : Change → List ℕ
    after q = slack_left (committed_work q w) ∷ (4 * count_by not no_marks + 2) ∷ 0 ∷ []

    before : List ℕ
    before = slack_left w ∷ nodes_left m.manifest.trie w ∷ job_steps_left w.job ∷ []

    nodes_small : 4 * count_by not no_marks + 2 < digit_base
    nodes_small = marks-few no_marks (length-replicate most_nodes false)

    small : (q : Change) → AllByRecursion (λ d. d < digit_base) (after q)
    small q =
        let marks : List Bool = slackless_after q w.without_slack in
        let size : length marks ≡ most_nodes = slackless-size q w.without_slack ∙ c.suits.without_slack in
        (let few = count_by-le-length not marks in omega (arith, few, size), (nodes_small, (omega arith, tt)))

    Lowers : Change → Type 0
    Lowers q = number_of_digits (trie_digits levels (after_change trie q) ++ after q) < number_of_digits (trie_digits levels trie ++ before)

    lowered : (q : Change) → change ≡ q → Lowers q → Lowers change
    lowered q is less = subst Lowers (sym is) less

    fit : (q : Change) → change ≡ q → fits levels trie q ≡ true
    fit q is = ap (fits levels trie) (sym is) ∙ (commit-for m taken w change c).fit

    unmarked : is_full levels (job.node, node_at trie job.node) ≡ false → is_marked w.without_slack job.node ≡ false
    unmarked part = not-known (is_full levels (job.node, node_at trie job.node)) (is_last_level levels job.node) (is_marked w.without_slack job.node) (c.suits.candidate job c.ready.in_flight).begins part

    rewritten : (b : Bool) → is_full levels (job.node, node_at trie job.node) ≡ b → (tables groups : List ℕ) → change ≡ rewrite job.node tables groups → Lowers (rewrite job.node tables groups)
    rewritten true full tables groups is =
        due-rewrite-lowers levels m.manifest.header.extents trie job.node tables groups (after (rewrite job.node tables groups)) before c.trie_is (fit (rewrite job.node tables groups) is) full refl (small (rewrite job.node tables groups))
    rewritten false part tables groups is =
        let q : Change = rewrite job.node tables groups in
        let same : trie_digits levels (after_change trie q) ≡ trie_digits levels trie = other-rewrite-leaves levels m.manifest.header.extents trie job.node tables groups c.trie_is (fit q is) part in
        let node = node-of-five levels job.node c.most (job-node levels m.manifest.header.extents trie job c.trie_is goes.shaped) in
        let one = one-fewer w.without_slack job.node c.suits.without_slack node (unmarked part) in
        subst (λ ds. number_of_digits (ds ++ after q) < number_of_digits (trie_digits levels trie ++ before)) (sym same)
        (digits-decide (trie_digits levels trie) ((4 * count_by not no_marks + 2) ∷ 0 ∷ []) (nodes_left m.manifest.trie w ∷ job_steps_left w.job ∷ []) (slack_left (committed_work q w)) (slack_left w) (omega (arith, one)) refl (small q).1)

    by_change : (b : Bool) (given : List ChildChange) → change ≡ cond b (rewriting job.node given) (deal job.node (length job.sources) given) → Lowers change
    by_change true [] is = lowered (rewrite job.node [] []) is (rewritten (is_full levels (job.node, node_at trie job.node)) refl [] [] is)
    by_change true (x ∷ xs) is = lowered (rewrite job.node x.tables x.groups) is (rewritten (is_full levels (job.node, node_at trie job.node)) refl x.tables x.groups is)
    by_change false given is = lowered (deal job.node (length job.sources) given) is
        (deal-lowers levels m.manifest.header.extents trie job.node (length job.sources) given (after (deal job.node (length job.sources) given)) before c.few c.trie_is (fit (deal job.node (length job.sources) given) is)
        (ap (λ q. all_below m.manifest.header.extents (new_extents q)) (sym is) ∙ commit-below m taken w change c) refl (small (deal job.node (length job.sources) given)))
