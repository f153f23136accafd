-- A step keeps the shape of a job, and what is true of it on an image.
use Rattle.std.proofs.Common.{◌≡◌, ℕ, ◌+◌, ◌<◌, ◌≤◌, refl, sym, ap, subst, ◌∙◌, List, [], ◌++◌, length, take, drop, Bool, true, Option, Some, Result, Ok, Err, arith, take-append-drop}
use Rattle.std.specs.Prelude.{◌==◌, ◌&&◌, nat_le, IfOk, OnErr}
use Rattle.std.proofs.lemmas.Bool.{and_parts, and_from, eq-eqb, eqb-true, le-leb, leb-true, ltb-false, ltb-true}
use Rattle.lt_terms.specs.Bytes.{Image}
use Rattle.lt_terms.specs.Items.{Item}
use Rattle.lt_terms.proofs.AmongLaws.{in_take, in_drop}
use Rattle.lt_device.specs.State.{SameOutside}
use Rattle.lt_device.specs.Moments.{ShowsSameOutside}
use Rattle.lt_device.proofs.Steps.{same_some}
use Rattle.lt_format.specs.declared.geometry.Geometry.{Geometry}
use Rattle.lt_format.specs.declared.node_id.NodeId.{NodeId}
use Rattle.lt_format.specs.Snapshot.{Named}
use Rattle.lt_format.specs.Trie.{Trie, all_distinct, named}
use Rattle.lt_image.specs.After.{SameExtent, SameExtents}
use Rattle.lt_image.specs.Shares.{Share, shares_of}
use Rattle.lt_image.proofs.KeptLaws.{pile_same}
use Rattle.lt_compact.specs.declared.faults.JobFault.{JobFault}
use Rattle.lt_compact.specs.declared.step.Stepped.{Stepped}
use Rattle.lt_compact.specs.declared.step.Stepped.TheVariants as steps
use Rattle.lt_compact.specs.Plans.{all_contents, are_shared, extents_for, group}
use Rattle.lt_compact.specs.Jobs.{JobView, Stage, scanning, planned, filling, taken_in, is_shaped_stage, IsShaped, KeepsJob, KeepsStage}
use Rattle.lt_compact.specs.Steps.{Advances, AdvancesFrom, Fills, InExtents, next_extents}
use Rattle.lt_compact.proofs.ExtentLaws.{apart-joined, distinct_behind, not_in_part, others-same}
use Rattle.lt_compact.proofs.FillLaws.{filled-keeps, front_same}
use Rattle.lt_compact.proofs.LocalLaws.{all_hold_same, behind_shared, same-keeps, sources_named}
use Rattle.lt_compact.proofs.PlanLaws.{length-all_contents}
use Rattle.lt_compact.proofs.StepLaws.{scanned, planned-keeps, planned-shaped}

-- ---- the shape

-- a job in another stage of the right shape
in_stage : (levels : ℕ) (trie : Trie) (j k : JobView) (stage : Stage) → IsShaped levels trie j → k ≡ record j { stage = stage } → is_shaped_stage levels trie j.node j.sources stage ≡ true → IsShaped levels trie k
in_stage levels trie j k stage s is shaped = subst (IsShaped levels trie) (sym is) (record {
  same = s.same;
  some = s.some;
  oldest = s.oldest;
  whole = s.whole;
  stage = shaped;
})

-- what a shaped filling stage is
pub record IsFilling (levels : ℕ) (trie : Trie) (id : NodeId) (shares : List Share) (numbers : List ℕ) (filled : ℕ) : Type 0 where
  pub shared : are_shared levels trie id shares ≡ true
  pub count : length numbers ≡ extents_for levels shares
  pub within : filled ≤ length numbers

pub filling-parts : (levels : ℕ) (trie : Trie) (id : NodeId) (sources : List ℕ) (shares : List Share) (numbers : List ℕ) (filled : ℕ) → is_shaped_stage levels trie id sources (filling shares numbers filled) ≡ true → IsFilling levels trie id shares numbers filled
filling-parts levels trie id sources shares numbers filled h =
    let a = and_parts (are_shared levels trie id shares && count_test) (nat_le filled (length numbers)) h in
    let b = and_parts (are_shared levels trie id shares) count_test a.0 in
    record { shared = b.0; count = eqb-true (length numbers) (extents_for levels shares) b.1; within = leb-true filled (length numbers) a.1 }
  where
    count_test : Bool
    count_test = length numbers == extents_for levels shares

filling-whole : (levels : ℕ) (trie : Trie) (id : NodeId) (sources : List ℕ) (shares : List Share) (numbers : List ℕ) (filled : ℕ) → IsFilling levels trie id shares numbers filled → is_shaped_stage levels trie id sources (filling shares numbers filled) ≡ true
filling-whole levels trie id sources shares numbers filled f =
    and_from _ _ (and_from _ _ f.shared (eq-eqb (length numbers) (extents_for levels shares) f.count)) (le-leb filled (length numbers) f.within)

planned-stage : (levels own : ℕ) (trie : Trie) (id : NodeId) (sources : List ℕ) (kept : List Item) → own ≡ levels → is_shaped_stage levels trie id sources (planned (shares_of own trie id kept)) ≡ true
planned-stage levels own trie id sources kept same = subst (λ n. is_shaped_stage levels trie id sources (planned (shares_of n trie id kept)) ≡ true) (sym same) (planned-shaped levels trie id kept)

taken-stage : (levels own : ℕ) (trie : Trie) (id : NodeId) (sources : List ℕ) (shares : List Share) (numbers : List ℕ) → own ≡ levels → are_shared levels trie id shares ≡ true → length numbers ≡ extents_for own shares → is_shaped_stage levels trie id sources (filling shares numbers 0) ≡ true
taken-stage levels own trie id sources shares numbers same shared count =
    filling-whole levels trie id sources shares numbers 0 (record { shared = shared; count = count ∙ ap (λ n. extents_for n shares) same; within = omega arith })

-- A STEP keeps the shape
stage-advances : (levels : ℕ) (trie : Trie) (g : Geometry) (old new : Option Image) (taken now : List Bool) (j k : JobView) (stage : Stage) (stepped : Stepped) → IsShaped levels trie j → is_shaped_stage levels trie j.node j.sources stage ≡ true
    → AdvancesFrom stage g old new trie taken now j k stepped → IsShaped levels trie k
stage-advances levels trie g old new taken now j k (scanning n kept loose) steps.More s h a =
    in_stage levels trie j k _ s a.0.1.is (le-leb (n + 1) (length j.sources) (let less = ltb-true n (length j.sources) a.0.0 in omega arith))
stage-advances levels trie g old new taken now j k (scanning n kept loose) (steps.Planned wanted slack) s h a =
    in_stage levels trie j k _ s a.0.1.is (planned-stage levels j.levels trie j.node j.sources kept s.same)
stage-advances levels trie g old new taken now j k (scanning n kept loose) (steps.Short short) s h a = absurd a.0
stage-advances levels trie g old new taken now j k (scanning n kept loose) steps.Ready s h a = absurd a.0
stage-advances levels trie g old new taken now j k (planned shares) steps.More s h a =
    in_stage levels trie j k _ s a.0.is (taken-stage levels j.levels trie j.node j.sources shares a.0.numbers s.same h (ap length a.0.reserved.appended ∙ a.0.reserved.len))
stage-advances levels trie g old new taken now j k (planned shares) steps.Ready s h a =
    in_stage levels trie j k _ s a.0.is (taken-stage levels j.levels trie j.node j.sources shares a.0.numbers s.same h (ap length a.0.reserved.appended ∙ a.0.reserved.len))
stage-advances levels trie g old new taken now j k (planned shares) (steps.Short short) s h a = subst (IsShaped levels trie) (sym a.3) s
stage-advances levels trie g old new taken now j k (planned shares) (steps.Planned wanted slack) s h a = absurd a
stage-advances levels trie g old new taken now j k (filling shares numbers filled) steps.More s h a =
    let f = filling-parts levels trie j.node j.sources shares numbers filled h in
    in_stage levels trie j k _ s a.0.0.is (filling-whole levels trie j.node j.sources shares numbers (filled + 1) (record { shared = f.shared; count = f.count; within = let less = a.0.1 in omega arith }))
stage-advances levels trie g old new taken now j k (filling shares numbers filled) steps.Ready s h a =
    let f = filling-parts levels trie j.node j.sources shares numbers filled h in
    in_stage levels trie j k _ s a.0.0.is (filling-whole levels trie j.node j.sources shares numbers (filled + 1) (record { shared = f.shared; count = f.count; within = let all = a.0.1 in omega arith }))
stage-advances levels trie g old new taken now j k (filling shares numbers filled) (steps.Short short) s h a = absurd a.0
stage-advances levels trie g old new taken now j k (filling shares numbers filled) (steps.Planned wanted slack) s h a = absurd a.0

pub advances-shaped : (levels : ℕ) (trie : Trie) (g : Geometry) (old new : Option Image) (taken now : List Bool) (j k : JobView) (stepped : Stepped) → IsShaped levels trie j → Advances g old new trie taken now j k stepped → IsShaped levels trie k
advances-shaped levels trie g old new taken now j k stepped s a = stage-advances levels trie g old new taken now j k j.stage stepped s s.stage a

-- ---- what is true on an image

-- on which nothing has changed
still : (m : Named) (before image : Image) (k : JobView) → SameOutside (InExtents m.geometry []) before image → IsShaped m.geometry.levels m.manifest.trie k → KeepsJob m before k → KeepsJob m image k
still m before image k same shaped keeps =
    same-keeps m before image k (others-same m.geometry [] before image (named m.manifest.trie) same (λ x there. refl)) (others-same m.geometry [] before image (taken_in k.stage) same (λ x there. refl)) shaped keeps

-- a job in another stage, which is true
in_kept : (m : Named) (image : Image) (j k : JobView) (stage : Stage) → k ≡ record j { stage = stage } → KeepsStage m image j.node j.sources stage → KeepsJob m image k
in_kept m image j k stage is keeps = subst (KeepsJob m image) (sym is) keeps

-- where only the extent that is filled next has changed, what was named and filled is as before
record SameFilled (g : Geometry) (before image : Image) (trie : Trie) (sources numbers : List ℕ) (filled : ℕ) : Type 0 where
  named_same : SameExtents g before image (named trie)
  sources_same : SameExtents g before image sources
  front : SameExtents g before image (take filled numbers)

filled-same : (g : Geometry) (before image : Image) (trie : Trie) (j : JobView) (numbers : List ℕ) (filled : ℕ) → IsShaped g.levels trie j → all_distinct (named trie ++ numbers) ≡ true → SameOutside (InExtents g (take 1 (drop filled numbers))) before image
    → SameFilled g before image trie j.sources numbers filled
filled-same g before image trie j numbers filled s apart same = record {
  named_same = names;
  sources_same = sources_named (SameExtent g before image) g.levels trie j s names;
  front = others-same g next before image (take filled numbers) same (λ x there. not_in_part x next (drop filled numbers) (in_take x 1 (drop filled numbers))
      (apart-joined (take filled numbers) (drop filled numbers) (subst (λ xs. all_distinct xs ≡ true) (sym (take-append-drop filled numbers)) (distinct_behind (named trie) numbers apart)) x there));
}
  where
    next : List ℕ
    next = take 1 (drop filled numbers)

    names : SameExtents g before image (named trie)
    names = others-same g next before image (named trie) same (λ x there. not_in_part x next numbers (λ t. in_drop x filled numbers (in_take x 1 (drop filled numbers) t)) (apart-joined (named trie) numbers apart x there))

-- no extent more is filled
unfilled : (m : Named) (before image : Image) (j : JobView) (shares : List Share) (numbers : List ℕ) (filled : ℕ) → are_shared m.geometry.levels m.manifest.trie j.node shares ≡ true → SameFilled m.geometry before image m.manifest.trie j.sources numbers filled
    → KeepsStage m before j.node j.sources (filling shares numbers filled) → KeepsStage m image j.node j.sources (filling shares numbers filled)
unfilled m before image j shares numbers filled shared same keeps = (
  keeps.0 ∙ ap (shares_of m.geometry.levels m.manifest.trie j.node) (sym (pile_same m.geometry before image j.sources same.sources_same)),
  all_hold_same m.geometry before image (take filled numbers) (take filled (all_contents m.geometry.levels shares numbers)) same.front
      (front_same m.geometry before image m.geometry.levels shares numbers filled (behind_shared m.geometry before image m.geometry.levels m.manifest.trie j.node shares same.named_same shared) same.front) keeps.1,
)

-- one extent more is filled
one-filled : (m : Named) (before image : Image) (old new : Option Image) (j k : JobView) (shares : List Share) (numbers : List ℕ) (filled : ℕ) → old ≡ Some before → new ≡ Some image → IsFilling m.geometry.levels m.manifest.trie j.node shares numbers filled → filled < length numbers
    → SameFilled m.geometry before image m.manifest.trie j.sources numbers filled → Fills m.geometry old new j k shares numbers filled → KeepsStage m before j.node j.sources (filling shares numbers filled) → KeepsJob m image k
one-filled m before image old new j k shares numbers filled was shown f less same fills keeps =
    let within : filled < length (all_contents m.geometry.levels shares numbers) = let count = length-all_contents m.geometry.levels shares numbers in let all = f.count in omega arith in
    in_kept m image j k _ fills.is (filled-keeps m before image j.node j.sources shares numbers filled (group []) f.shared same.named_same same.sources_same same.front less within (fills.holds before image (group []) was shown) keeps)

-- from one stage
stage-keeps : (m : Named) (before image : Image) (old new : Option Image) (taken now : List Bool) (j k : JobView) → old ≡ Some before → new ≡ Some image → IsShaped m.geometry.levels m.manifest.trie j → (stage : Stage) (stepped : Stepped) → IsShaped m.geometry.levels m.manifest.trie k → is_shaped_stage m.geometry.levels m.manifest.trie j.node j.sources stage ≡ true → all_distinct (named m.manifest.trie ++ taken_in stage) ≡ true
    → SameOutside (InExtents m.geometry (next_extents stage)) before image → AdvancesFrom stage m.geometry old new m.manifest.trie taken now j k stepped → KeepsStage m before j.node j.sources stage → KeepsJob m before j → KeepsJob m image k
stage-keeps m before image old new taken now j k was shown s (scanning n kept loose) steps.More t h apart same a keeps whole =
    still m before image k same t (in_kept m before j k _ a.0.1.is (scanned m before j.node j.sources n kept a.0.1.items loose (ltb-true n (length j.sources) a.0.0) (a.0.1.told before was) keeps))
stage-keeps m before image old new taken now j k was shown s (scanning n kept loose) (steps.Planned wanted slack) t h apart same a keeps whole =
    let most : n ≤ length j.sources = leb-true n (length j.sources) h in
    let least : length j.sources ≤ n = ltb-false n (length j.sources) a.0.0 in
    let all : n ≡ length j.sources = omega arith in
    still m before image k same t (in_kept m before j k _ a.0.1.is (subst (λ l. KeepsStage m before j.node j.sources (planned (shares_of l m.manifest.trie j.node kept))) (sym s.same) (planned-keeps m before j.node j.sources n kept loose all keeps)))
stage-keeps m before image old new taken now j k was shown s (scanning n kept loose) (steps.Short short) t h apart same a keeps whole = absurd a.0
stage-keeps m before image old new taken now j k was shown s (scanning n kept loose) steps.Ready t h apart same a keeps whole = absurd a.0
stage-keeps m before image old new taken now j k was shown s (planned shares) steps.More t h apart same a keeps whole = still m before image k same t (in_kept m before j k _ a.0.is (keeps, tt))
stage-keeps m before image old new taken now j k was shown s (planned shares) steps.Ready t h apart same a keeps whole = still m before image k same t (in_kept m before j k _ a.0.is (keeps, tt))
stage-keeps m before image old new taken now j k was shown s (planned shares) (steps.Short short) t h apart same a keeps whole = still m before image k same t (subst (KeepsJob m before) (sym a.3) whole)
stage-keeps m before image old new taken now j k was shown s (planned shares) (steps.Planned wanted slack) t h apart same a keeps whole = absurd a
stage-keeps m before image old new taken now j k was shown s (filling shares numbers filled) steps.More t h apart same a keeps whole =
    one-filled m before image old new j k shares numbers filled was shown (filling-parts _ _ j.node j.sources shares numbers filled h) (let less = a.0.1 in omega arith) (filled-same m.geometry before image m.manifest.trie j numbers filled s apart same) a.0.0 keeps
stage-keeps m before image old new taken now j k was shown s (filling shares numbers filled) steps.Ready t h apart same a keeps whole =
    one-filled m before image old new j k shares numbers filled was shown (filling-parts _ _ j.node j.sources shares numbers filled h) (let all = a.0.1 in omega arith) (filled-same m.geometry before image m.manifest.trie j numbers filled s apart same) a.0.0 keeps
stage-keeps m before image old new taken now j k was shown s (filling shares numbers filled) (steps.Short short) t h apart same a keeps whole = absurd a.0
stage-keeps m before image old new taken now j k was shown s (filling shares numbers filled) (steps.Planned wanted slack) t h apart same a keeps whole = absurd a.0

-- where the job is as before
stage-stays : (m : Named) (before image : Image) (j : JobView) (stage : Stage) → j.stage ≡ stage → IsShaped m.geometry.levels m.manifest.trie j → is_shaped_stage m.geometry.levels m.manifest.trie j.node j.sources stage ≡ true → all_distinct (named m.manifest.trie ++ taken_in stage) ≡ true
    → SameOutside (InExtents m.geometry (next_extents stage)) before image → KeepsStage m before j.node j.sources stage → KeepsJob m before j → KeepsJob m image j
stage-stays m before image j (scanning n kept loose) is s h apart same keeps whole = still m before image j same s whole
stage-stays m before image j (planned shares) is s h apart same keeps whole = still m before image j same s whole
stage-stays m before image j (filling shares numbers filled) is s h apart same keeps whole = subst (KeepsStage m image j.node j.sources) (sym is)
    (unfilled m before image j shares numbers filled (filling-parts _ _ j.node j.sources shares numbers filled h).shared (filled-same m.geometry before image m.manifest.trie j numbers filled s apart same) keeps)

-- ---- whatever a step answers

-- what a step leaves of a job: it advanced, or it is as before
pub record Leaves (g : Geometry) (old new : Option Image) (trie : Trie) (taken now : List Bool) (j k : JobView) (result : Result Stepped JobFault) : Type 0 where
  pub next : IfOk result (Advances g old new trie taken now j k)
  pub unchanged : OnErr result (k ≡ j)

pub step-shaped : (g : Geometry) (old new : Option Image) (trie : Trie) (taken now : List Bool) (j k : JobView) (result : Result Stepped JobFault) → Leaves g old new trie taken now j k result → IsShaped g.levels trie j → IsShaped g.levels trie k
step-shaped g old new trie taken now j k (Ok stepped) l s = advances-shaped g.levels trie g old new taken now j k stepped s l.next
step-shaped g old new trie taken now j k (Err fault) l s = subst (IsShaped g.levels trie) (sym l.unchanged) s

step-keeps-here : (m : Named) (before image : Image) (old new : Option Image) (taken now : List Bool) (j k : JobView) (result : Result Stepped JobFault) → old ≡ Some before → new ≡ Some image → Leaves m.geometry old new m.manifest.trie taken now j k result
    → IsShaped m.geometry.levels m.manifest.trie j → all_distinct (named m.manifest.trie ++ taken_in j.stage) ≡ true → SameOutside (InExtents m.geometry (next_extents j.stage)) before image → KeepsJob m before j → KeepsJob m image k
step-keeps-here m before image old new taken now j k (Ok stepped) was shown l s apart same keeps =
    stage-keeps m before image old new taken now j k was shown s j.stage stepped (advances-shaped m.geometry.levels m.manifest.trie m.geometry old new taken now j k stepped s l.next) s.stage apart same l.next keeps keeps
step-keeps-here m before image old new taken now j k (Err fault) was shown l s apart same keeps =
    subst (KeepsJob m image) (sym l.unchanged) (stage-stays m before image j j.stage refl s s.stage apart same keeps keeps)

-- A STEP keeps what is true of a job
abbrev pub Carries : Named → Image → Image → Option Image → Option Image → List Bool → List Bool → JobView → JobView → Result Stepped JobFault → Geometry → Trie → Type 0
Carries m before image old new taken now j k result g trie = Leaves g old new trie taken now j k result → IsShaped g.levels trie j → all_distinct (named trie ++ taken_in j.stage) ≡ true
    → SameOutside (InExtents g (next_extents j.stage)) before image → KeepsJob m before j → KeepsJob m image k

pub step-keeps : (m : Named) (before image : Image) (old new : Option Image) (taken now : List Bool) (j k : JobView) (result : Result Stepped JobFault) (g : Geometry) (trie : Trie) → m.geometry ≡ g → m.manifest.trie ≡ trie → old ≡ Some before → new ≡ Some image
    → ShowsSameOutside (InExtents g (next_extents j.stage)) old new → Leaves g old new trie taken now j k result → IsShaped g.levels trie j → all_distinct (named trie ++ taken_in j.stage) ≡ true → KeepsJob m before j → KeepsJob m image k
step-keeps m before image old new taken now j k result g trie geometry nodes was shown shows l s apart keeps =
    let after = shows.each before was in
    let carries : Carries m before image old new taken now j k result g trie =
    subst (λ (g : Geometry). Carries m before image old new taken now j k result g trie) geometry
    (subst (λ (t : Trie). Carries m before image old new taken now j k result m.geometry t) nodes
    (λ l s apart same keeps. step-keeps-here m before image old new taken now j k result was shown l s apart same keeps)) in
    carries l s apart (subst (λ i. SameOutside (InExtents g (next_extents j.stage)) before i) (same_some new after.0 image after.1 shown) after.2) keeps
