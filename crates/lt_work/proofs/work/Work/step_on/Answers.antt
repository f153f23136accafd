use Rattle.std.proofs.Common.{◌≡◌, ◌∙◌, ◌≤◌, ◌++◌, sym, ap, subst, refl, Bool, true, false, cond, Some}
use Rattle.lt_alloc.specs.Extents.{AreTaken, free_count}
use Rattle.lt_device.specs.Moments.{ShowsSameOutside}
use Rattle.lt_format.specs.declared.geometry.Geometry.{Geometry}
use Rattle.lt_format.specs.Trie.{IsTrie, Trie, named}
use Rattle.lt_compact.specs.Extents.{GoesWith}
use Rattle.lt_compact.specs.Jobs.{is_filled}
use Rattle.lt_compact.specs.Steps.{InExtents, next_extents}
use Rattle.lt_work.specs.declared.advancing.Advanced.TheVariants as answers
use Rattle.lt_work.specs.Advancing.{WorksFrom, after_step, will_step}
use Rattle.lt_work.specs.Work.{IsTrueOn, SuitsTrie, WorkView, reserved_by}
use Rattle.lt_work.proofs.StepLaws.{fills-reserved, judged-in_use, judged-is, judged-suits, judged-true, named-same, step-true}
use Rattle.lt_work.proofs.work.Work.step_on.Given.{Over}
use Rattle.lt_work.proofs.work.Work.step_on.Goals as goal

pub step-requires-clause-goes : goal.step-requires-clause-goes
step-requires-clause-goes g c = c.requires.suits.job c.in-Some.job (sym (ap (λ (w : WorkView). w.job) c.self.view_is) ∙ c.in-Some.is)

pub returns-in_err-stepped-clause-touches : goal.returns-in_err-stepped-clause-touches
returns-in_err-stepped-clause-touches g c =
    fills-reserved c.args.geometry.now c.in-Some.job c.args.self.now (g.D.Device.state c.args.device.now) (g.D.Device.state c.step.new.device) (sym (ap (λ (w : WorkView). w.job) c.self.view_is) ∙ c.in-Some.is) c.step.ensures.touches

pub returns-in_err-stepped-clause-keeps : goal.returns-in_err-stepped-clause-keeps
returns-in_err-stepped-clause-keeps g c = λ m before image geometry trie are was shown true_on.
    let is = sym (ap (λ (w : WorkView). w.job) c.self.view_is) ∙ c.in-Some.is in
    let goes = subst (λ (t : Trie). GoesWith c.args.geometry.now.levels t c.args.extents.now c.in-Some.job) (sym trie) (c.requires.suits.job c.in-Some.job is) in
    let others = subst (λ (h : Geometry). ShowsSameOutside (InExtents h (next_extents c.in-Some.job.stage)) (g.D.Device.state c.args.device.now).shown (g.D.Device.state c.step.new.device).shown) (sym geometry) c.step.ensures.touches.others in
    step-true m before image c.in-Some.job c.step.new.self (record { job = c.self.inside.job; passed_over = c.self.inside.passed_over; without_slack = c.self.inside.without_slack }) c.in-Some.is
    (named-same m before image (g.D.Device.state c.args.device.now).shown (g.D.Device.state c.step.new.device).shown c.args.geometry.now.levels c.args.extents.now c.in-Some.job was shown others goes)
    (c.step.ensures.keeps m before image geometry trie was shown) (subst (IsTrueOn m before) (sym c.self.view_is) true_on)

-- the job in flight was the one that stepped
in-flight : (g : Over) (c : goal.After-judge g) → c.args.self.now.job ≡ Some c.in-Some.job
in-flight g c = sym (ap (λ (w : WorkView). w.job) c.self.view_is) ∙ c.in-Some.is

-- the work is what the judgement of the step left
judged : (g : Over) (c : goal.After-judge g) → c.judge.new.self ≡ after_step c.args.geometry.now.levels c.args.trie.now.nodes (free_count c.args.extents.now) c.in_ok-stepped.stepped c.step.new.self c.args.self.now
judged g c =
    c.judge.ensures c.step.new.self refl
    ∙ (λ i. after_step (c.requires.levels i) c.args.trie.now.nodes (c.free.ensures i) c.in_ok-stepped.stepped c.step.new.self (c.self.view_is i))
    ∙ judged-is c.args.geometry.now (g.D.Device.state c.args.device.now).shown (g.D.Device.state c.step.new.device).shown c.args.trie.now.nodes c.args.extents.now c.step.new.extents c.in-Some.job c.step.new.self c.args.self.now c.in_ok-stepped.stepped c.in_ok-stepped.ensures.next

pub returns-clause-touches : goal.returns-clause-touches
returns-clause-touches g c =
    fills-reserved c.args.geometry.now c.in-Some.job c.args.self.now (g.D.Device.state c.args.device.now) (g.D.Device.state c.step.new.device) (in-flight g c) c.step.ensures.touches

not_filled : (b : Bool) → cond b false true ≡ true → b ≡ false
not_filled true h = sym h
not_filled false h = refl

pub returns-clause-works : goal.returns-clause-works
returns-clause-works g c = λ wanted.
    subst (λ o. WorksFrom o wanted c.args.geometry.now (g.D.Device.state c.args.device.now).shown (g.D.Device.state c.step.new.device).shown c.args.trie.now.nodes c.args.extents.now c.step.new.extents c.args.self.now c.judge.new.self answers.More) (sym (in-flight g c)) (
      not_filled (is_filled c.in-Some.job.stage) (ap will_step (sym (in-flight g c)) ∙ c.requires.steps),
      record { after = c.step.new.self; stepped = c.in_ok-stepped.stepped; step = c.in_ok-stepped.ensures.next; is = judged g c },
    )

pub returns-clause-suits : goal.returns-clause-suits
returns-clause-suits g c =
    subst (SuitsTrie c.args.geometry.now.levels c.args.trie.now.nodes c.step.new.extents) (sym (judged g c))
    (judged-suits c.args.geometry.now (g.D.Device.state c.args.device.now).shown (g.D.Device.state c.step.new.device).shown c.args.trie.now.nodes c.args.extents.now c.step.new.extents c.in-Some.job c.step.new.self c.args.self.now c.in_ok-stepped.stepped
    (in-flight g c) c.in_ok-stepped.ensures.next c.step.ensures.goes c.requires.suits)

pub returns-clause-in_use : goal.returns-clause-in_use
returns-clause-in_use g c = λ n are.
    subst (λ (w : WorkView). AreTaken n (named c.args.trie.now.nodes ++ reserved_by w) c.step.new.extents) (sym (judged g c))
    (judged-in_use n c.args.geometry.now (g.D.Device.state c.args.device.now).shown (g.D.Device.state c.step.new.device).shown c.args.trie.now.nodes c.args.extents.now c.step.new.extents c.in-Some.job c.step.new.self c.args.self.now c.in_ok-stepped.stepped
    (in-flight g c) c.in_ok-stepped.ensures.next are)

pub returns-clause-keeps : goal.returns-clause-keeps
returns-clause-keeps g c = λ m before image geometry trie are was shown true_on.
    let view = c.levels.ensures.trie in
    let few : c.args.geometry.now.levels ≤ 5 = subst (λ n. n ≤ 5) c.requires.levels view.most in
    let t = subst (λ n. IsTrie n 65536 c.args.trie.now.nodes) c.requires.levels view.trie in
    subst (IsTrueOn m image) (sym (judged g c))
    (judged-true m before image c.args.geometry.now (g.D.Device.state c.args.device.now).shown (g.D.Device.state c.step.new.device).shown c.args.trie.now.nodes c.args.extents.now c.step.new.extents c.in-Some.job c.step.new.self c.args.self.now c.in_ok-stepped.stepped
    geometry trie few t (in-flight g c) c.in_ok-stepped.ensures.next c.requires.suits are was shown c.step.ensures.touches.others (c.step.ensures.keeps m before image geometry trie was shown) true_on)
