-- After a step the extents that are named, and those of the job, are taken, each once.
use Rattle.std.proofs.Common.{◌≡◌, ℕ, refl, sym, ap, subst, ◌∙◌, List, [], ◌∷◌, ◌++◌, length, Bool, true, false, not, ◌&&◌, Option, Result, Ok, Err, arith, append-nil, ⊎_elim}
use Rattle.std.specs.Prelude.{◌==◌, IfOk, OnErr}
use Rattle.std.proofs.lemmas.Bool.{and_from, and_parts, not-true, or_right, true≢false}
use Rattle.lt_terms.specs.Bytes.{Image, is_in}
use Rattle.lt_terms.proofs.AmongLaws.{in_either, in_first}
use Rattle.lt_alloc.specs.Extents.{Reserves}
use Rattle.lt_format.specs.declared.geometry.Geometry.{Geometry}
use Rattle.lt_format.specs.Trie.{Trie, all_distinct, named}
use Rattle.lt_image.specs.Shares.{Share}
use Rattle.lt_compact.specs.declared.faults.JobFault.{JobFault}
use Rattle.lt_compact.specs.declared.step.Stepped.{Stepped}
use Rattle.lt_compact.specs.declared.step.Stepped.TheVariants as steps
use Rattle.lt_compact.specs.Extents.{AllTaken}
use Rattle.lt_compact.specs.Jobs.{JobView, Stage, scanning, planned, filling, taken_in}
use Rattle.lt_compact.specs.Plans.{extents_for}
use Rattle.lt_compact.specs.Steps.{Advances, AdvancesFrom, Takes}
use Rattle.lt_compact.proofs.TakeLaws.{reserved-distinct, reserved-taken, was_free}

-- ---- lists side by side

join-distinct : (xs ys : List ℕ) → all_distinct xs ≡ true → all_distinct ys ≡ true → ((x : ℕ) → is_in x xs ≡ true → is_in x ys ≡ true → ⊥) → all_distinct (xs ++ ys) ≡ true
join-distinct [] ys front back apart = back
join-distinct (x ∷ xs) ys front back apart =
    let parts = and_parts (not (is_in x xs)) (all_distinct xs) front in
    and_from (not (is_in x (xs ++ ys))) (all_distinct (xs ++ ys)) (absent (is_in x (xs ++ ys)) refl)
    (join-distinct xs ys parts.1 back (λ z there. apart z (or_right (x == z) (is_in z xs) there)))
  where
    absent : (b : Bool) → is_in x (xs ++ ys) ≡ b → not (is_in x (xs ++ ys)) ≡ true
    absent true is = absurd (⊎_elim (λ here. true≢false (sym here ∙ not-true _ (and_parts (not (is_in x xs)) (all_distinct xs) front).0)) (λ there. apart x (in_first x xs) there) (in_either x xs ys is))
    absent false is = ap not is

-- ---- what is reserved

-- the extents that are named, and those of a job, are taken, each once
pub record AreReserved (trie : Trie) (taken : List Bool) (j : JobView) : Type 0 where
  pub taken_all : AllTaken taken (named trie ++ taken_in j.stage)
  pub apart : all_distinct (named trie ++ taken_in j.stage) ≡ true

along : (trie : Trie) (taken now : List Bool) (j k : JobView) → now ≡ taken → taken_in k.stage ≡ taken_in j.stage → AreReserved trie taken j → AreReserved trie now k
along trie taken now j k same stage r = record {
  taken_all = subst (λ (flags : List Bool). AllTaken flags (named trie ++ taken_in k.stage)) (sym same) (subst (λ xs. AllTaken taken (named trie ++ xs)) (sym stage) r.taken_all);
  apart = subst (λ xs. all_distinct (named trie ++ xs) ≡ true) (sym stage) r.apart;
}

stage_of : (k j : JobView) (stage : Stage) → k ≡ record j { stage = stage } → taken_in k.stage ≡ taken_in stage
stage_of k j stage is = ap (λ (x : JobView). taken_in x.stage) is

takes-reserved : (trie : Trie) (count : ℕ) (taken now : List Bool) (numbers : List ℕ) → AllTaken taken (named trie ++ []) → all_distinct (named trie ++ []) ≡ true → Reserves count taken now [] numbers
    → AllTaken now (named trie ++ numbers) × (all_distinct (named trie ++ numbers) ≡ true)
takes-reserved trie count taken now numbers all distinct r = (
  record {
    below = λ x there. ⊎_elim (λ here. let small = named_all.below x here in let size = r.same_extents in omega arith) (λ here. mine.below x here) (in_either x (named trie) numbers there);
    each = λ x there. ⊎_elim (λ here. r.others_stay x ∙ ap (λ b. b && not (is_in x r.numbers)) (named_all.each x here)) (λ here. mine.each x here) (in_either x (named trie) numbers there);
  },
  join-distinct (named trie) numbers (subst (λ xs. all_distinct xs ≡ true) (append-nil (named trie)) distinct) (reserved-distinct count taken now numbers r)
      (λ x here there. true≢false (sym (was_free count taken now numbers r x there) ∙ named_all.each x here)),
)
  where
    named_all : AllTaken taken (named trie)
    named_all = subst (AllTaken taken) (append-nil (named trie)) all

    mine : AllTaken now numbers
    mine = reserved-taken count taken now numbers r

taking : (trie : Trie) (taken now : List Bool) (j k : JobView) (shares : List Share) → taken_in j.stage ≡ [] → AreReserved trie taken j → Takes taken now j k shares → AreReserved trie now k
taking trie taken now j k shares is r t =
    let both = takes-reserved trie (extents_for j.levels shares) taken now t.numbers (subst (λ xs. AllTaken taken (named trie ++ xs)) is r.taken_all) (subst (λ xs. all_distinct (named trie ++ xs) ≡ true) is r.apart) t.reserved in
    let stage : taken_in k.stage ≡ t.numbers = stage_of k j (filling shares t.numbers 0) t.is in
    record {
      taken_all = subst (λ xs. AllTaken now (named trie ++ xs)) (sym stage) both.0;
      apart = subst (λ xs. all_distinct (named trie ++ xs) ≡ true) (sym stage) both.1;
    }

stage-reserved : (g : Geometry) (old new : Option Image) (trie : Trie) (taken now : List Bool) (j k : JobView) (stage : Stage) (stepped : Stepped) → taken_in j.stage ≡ taken_in stage → AreReserved trie taken j → AdvancesFrom stage g old new trie taken now j k stepped → AreReserved trie now k
stage-reserved g old new trie taken now j k (scanning n kept loose) steps.More is r a = along trie taken now j k a.1 (stage_of k j _ a.0.1.is ∙ sym is) r
stage-reserved g old new trie taken now j k (scanning n kept loose) (steps.Planned wanted slack) is r a = along trie taken now j k a.1 (stage_of k j _ a.0.1.is ∙ sym is) r
stage-reserved g old new trie taken now j k (scanning n kept loose) (steps.Short short) is r a = absurd a.0
stage-reserved g old new trie taken now j k (scanning n kept loose) steps.Ready is r a = absurd a.0
stage-reserved g old new trie taken now j k (planned shares) steps.More is r a = taking trie taken now j k shares is r a.0
stage-reserved g old new trie taken now j k (planned shares) steps.Ready is r a = taking trie taken now j k shares is r a.0
stage-reserved g old new trie taken now j k (planned shares) (steps.Short short) is r a = along trie taken now j k a.4 (ap (λ (x : JobView). taken_in x.stage) a.3) r
stage-reserved g old new trie taken now j k (planned shares) (steps.Planned wanted slack) is r a = absurd a
stage-reserved g old new trie taken now j k (filling shares numbers filled) steps.More is r a = along trie taken now j k a.1 (stage_of k j _ a.0.0.is ∙ sym is) r
stage-reserved g old new trie taken now j k (filling shares numbers filled) steps.Ready is r a = along trie taken now j k a.1 (stage_of k j _ a.0.0.is ∙ sym is) r
stage-reserved g old new trie taken now j k (filling shares numbers filled) (steps.Short short) is r a = absurd a.0
stage-reserved g old new trie taken now j k (filling shares numbers filled) (steps.Planned wanted slack) is r a = absurd a.0

-- A STEP leaves them so, whatever it answers
pub step-reserved : (g : Geometry) (old new : Option Image) (trie : Trie) (taken now : List Bool) (j k : JobView) (result : Result Stepped JobFault) → IfOk result (Advances g old new trie taken now j k) → OnErr result (k ≡ j) → OnErr result (now ≡ taken) → AreReserved trie taken j → AreReserved trie now k
step-reserved g old new trie taken now j k (Ok stepped) next unchanged extents r = stage-reserved g old new trie taken now j k j.stage stepped refl r next
step-reserved g old new trie taken now j k (Err fault) next unchanged extents r = along trie taken now j k extents (ap (λ (x : JobView). taken_in x.stage) unchanged) r

-- ---- how many extents there are

stage-length : (g : Geometry) (old new : Option Image) (trie : Trie) (taken now : List Bool) (j k : JobView) (stage : Stage) (stepped : Stepped) → AdvancesFrom stage g old new trie taken now j k stepped → length now ≡ length taken
stage-length g old new trie taken now j k (scanning n kept loose) stepped a = ap length a.1
stage-length g old new trie taken now j k (planned shares) steps.More a = a.0.reserved.same_extents
stage-length g old new trie taken now j k (planned shares) steps.Ready a = a.0.reserved.same_extents
stage-length g old new trie taken now j k (planned shares) (steps.Short short) a = ap length a.4
stage-length g old new trie taken now j k (planned shares) (steps.Planned wanted slack) a = absurd a
stage-length g old new trie taken now j k (filling shares numbers filled) stepped a = ap length a.1

pub step-length : (g : Geometry) (old new : Option Image) (trie : Trie) (taken now : List Bool) (j k : JobView) (result : Result Stepped JobFault) → IfOk result (Advances g old new trie taken now j k) → OnErr result (now ≡ taken) → length now ≡ length taken
step-length g old new trie taken now j k (Ok stepped) next extents = stage-length g old new trie taken now j k j.stage stepped next
step-length g old new trie taken now j k (Err fault) next extents = ap length extents
