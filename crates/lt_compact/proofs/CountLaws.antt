-- How many steps a job makes, and when it is ready.
use Rattle.std.proofs.Common.{◌≡◌, ℕ, ◌+◌, ◌<◌, refl, ap, ◌∙◌, List, length, Bool, true, false, Option, Result, Ok, Err, arith}
use Rattle.std.specs.Prelude.{◌==◌, IfOk}
use Rattle.std.proofs.lemmas.Bool.{eq-eqb, eqb-true, leb-true, ltb-false}
use Rattle.lt_terms.specs.Bytes.{Image}
use Rattle.lt_format.specs.declared.geometry.Geometry.{Geometry}
use Rattle.lt_format.specs.Trie.{Trie}
use Rattle.lt_compact.specs.declared.faults.JobFault.{JobFault}
use Rattle.lt_compact.specs.declared.step.Stepped.{Stepped}
use Rattle.lt_compact.specs.declared.step.Stepped.TheVariants as steps
use Rattle.lt_compact.specs.Jobs.{JobView, Stage, scanning, planned, filling, IsShaped, is_filled, is_shaped_stage}
use Rattle.lt_compact.specs.Steps.{Advances, AdvancesFrom, is_ready, made_by, steps_made, steps_to}

made : (j k : JobView) (stage : Stage) → k ≡ record j { stage = stage } → steps_made k ≡ steps_to (length j.sources) stage
made j k stage is = ap steps_made is

filled_at : (j k : JobView) (stage : Stage) → k ≡ record j { stage = stage } → is_filled k.stage ≡ is_filled stage
filled_at j k stage is = ap (λ (x : JobView). is_filled x.stage) is

not_equal : (a b : ℕ) → a < b → (a == b) ≡ false
not_equal a b less = decide (a == b) refl
  where
    decide : (t : Bool) → (a == b) ≡ t → t ≡ false
    decide true same = absurd (let e = eqb-true a b same in omega arith)
    decide false other = refl

-- from one stage
stage-counts : (levels : ℕ) (trie : Trie) (g : Geometry) (old new : Option Image) (taken now : List Bool) (j k : JobView) (stage : Stage) (stepped : Stepped) → steps_made j ≡ steps_to (length j.sources) stage → is_filled j.stage ≡ is_filled stage → is_shaped_stage levels trie j.node j.sources stage ≡ true
    → AdvancesFrom stage g old new trie taken now j k stepped → (steps_made k ≡ steps_made j + made_by stepped) × (is_filled k.stage ≡ is_ready stepped)
stage-counts levels trie g old new taken now j k (scanning n kept loose) steps.More at filled h a =
    let e = made j k _ a.0.1.is in (omega (arith, e, at), filled_at j k _ a.0.1.is)
stage-counts levels trie g old new taken now j k (scanning n kept loose) (steps.Planned wanted slack) at filled h a =
    let e = made j k _ a.0.1.is in (omega (arith, e, at, leb-true n (length j.sources) h, ltb-false n (length j.sources) a.0.0), filled_at j k _ a.0.1.is)
stage-counts levels trie g old new taken now j k (scanning n kept loose) (steps.Short short) at filled h a = absurd a.0
stage-counts levels trie g old new taken now j k (scanning n kept loose) steps.Ready at filled h a = absurd a.0
stage-counts levels trie g old new taken now j k (planned shares) steps.More at filled h a =
    let e = made j k _ a.0.is in
    let count : length a.0.numbers ≡ _ = ap length a.0.reserved.appended ∙ a.0.reserved.len in
    (omega (arith, e, at), filled_at j k _ a.0.is ∙ not_equal 0 (length a.0.numbers) (omega (arith, count, a.1)))
stage-counts levels trie g old new taken now j k (planned shares) steps.Ready at filled h a =
    let e = made j k _ a.0.is in
    let count : length a.0.numbers ≡ _ = ap length a.0.reserved.appended ∙ a.0.reserved.len in
    (omega (arith, e, at), filled_at j k _ a.0.is ∙ eq-eqb 0 (length a.0.numbers) (omega (arith, count, a.1)))
stage-counts levels trie g old new taken now j k (planned shares) (steps.Short short) at filled h a =
    let e = ap steps_made a.3 in (omega (arith, e), ap (λ (x : JobView). is_filled x.stage) a.3 ∙ filled)
stage-counts levels trie g old new taken now j k (planned shares) (steps.Planned wanted slack) at filled h a = absurd a
stage-counts levels trie g old new taken now j k (filling shares numbers k') steps.More at filled h a =
    let e = made j k _ a.0.0.is in (omega (arith, e, at), filled_at j k _ a.0.0.is ∙ not_equal (k' + 1) (length numbers) a.0.1)
stage-counts levels trie g old new taken now j k (filling shares numbers k') steps.Ready at filled h a =
    let e = made j k _ a.0.0.is in (omega (arith, e, at), filled_at j k _ a.0.0.is ∙ eq-eqb (k' + 1) (length numbers) a.0.1)
stage-counts levels trie g old new taken now j k (filling shares numbers k') (steps.Short short) at filled h a = absurd a.0
stage-counts levels trie g old new taken now j k (filling shares numbers k') (steps.Planned wanted slack) at filled h a = absurd a.0

pub step-counts : (g : Geometry) (old new : Option Image) (trie : Trie) (taken now : List Bool) (j k : JobView) (result : Result Stepped JobFault) → IfOk result (Advances g old new trie taken now j k) → IsShaped g.levels trie j
    → IfOk result (λ stepped. (steps_made k ≡ steps_made j + made_by stepped) × (is_filled k.stage ≡ is_ready stepped))
step-counts g old new trie taken now j k (Ok stepped) next s = stage-counts g.levels trie g old new taken now j k j.stage stepped refl refl s.stage next
step-counts g old new trie taken now j k (Err fault) next s = tt
