use Rattle.std.proofs.Common.{◌≡◌, ◌<◌, ◌^◌, ◌∙◌, refl, sym, ap, subst, List, [], length, get_or}
use Rattle.lt_image.specs.Shares.{Share}
use Rattle.lt_compact.specs.Inside.{built_in, job_in, reserved_in, stage_in}
use Rattle.lt_compact.specs.Jobs.{JobView, change_in, filling, taken_in}
use Rattle.lt_compact.specs.Plans.{all_contents, filters_of, group}
use Rattle.lt_compact.proofs.JobLaws.{built-more, next-confined, next-others}
use Rattle.lt_compact.proofs.PlanLaws.{length-all_contents}
use Rattle.lt_compact.proofs.job.Job.fill_extent.Goals as goal

pub returns-in_err-built-clause-touches : goal.returns-in_err-built-clause-touches
returns-in_err-built-clause-touches g c =
    let stage : c.args.self.now.stage ≡ filling c.in-Filling.shares.items c.in-Filling.numbers.items c.in-Filling.filled = ap (λ (j : JobView). j.stage) (sym c.self.view_is) ∙ ap stage_in c.in-Filling.is in
    record {
      confined = next-confined c.args.geometry.now c.args.self.now.stage c.in-Filling.shares.items c.in-Filling.numbers.items c.deref-2.result.now c.in-Filling.filled stage c.deref-2.ensures.value (c.requires.next.left c.in-Filling.shares.items c.in-Filling.numbers.items c.in-Filling.filled stage) _ _ c.fill.ensures.touches.confined;
      others = next-others c.args.geometry.now c.args.self.now.stage c.in-Filling.shares.items c.in-Filling.numbers.items c.deref-2.result.now c.in-Filling.filled stage c.deref-2.ensures.value (c.requires.next.left c.in-Filling.shares.items c.in-Filling.numbers.items c.in-Filling.filled stage) _ _ c.fill.ensures.touches.others;
      no_sync = c.fill.ensures.touches.no_sync;
    }

pub returns-clause-touches : goal.returns-clause-touches
returns-clause-touches g c =
    let stage : c.args.self.now.stage ≡ filling c.in-Filling.shares.items c.in-Filling.numbers.items c.in-Filling.filled = ap (λ (j : JobView). j.stage) (sym c.self.view_is) ∙ ap stage_in c.in-Filling.is in
    record {
      confined = next-confined c.args.geometry.now c.args.self.now.stage c.in-Filling.shares.items c.in-Filling.numbers.items c.deref-2.result.now c.in-Filling.filled stage c.deref-2.ensures.value (c.requires.next.left c.in-Filling.shares.items c.in-Filling.numbers.items c.in-Filling.filled stage) _ _ c.fill.ensures.touches.confined;
      others = next-others c.args.geometry.now c.args.self.now.stage c.in-Filling.shares.items c.in-Filling.numbers.items c.deref-2.result.now c.in-Filling.filled stage c.deref-2.ensures.value (c.requires.next.left c.in-Filling.shares.items c.in-Filling.numbers.items c.in-Filling.filled stage) _ _ c.fill.ensures.touches.others;
      no_sync = c.fill.ensures.touches.no_sync;
    }

pub invariant_of-self-2 : goal.invariant_of-self-2
invariant_of-self-2 g c =
    let stage : c.args.self.now.stage ≡ filling c.in-Filling.shares.items c.in-Filling.numbers.items c.in-Filling.filled = ap (λ (j : JobView). j.stage) (sym c.self.view_is) ∙ ap stage_in c.in-Filling.is in
    let count = subst (λ s. length (taken_in (stage_in s)) ≡ reserved_in c.self.inside.levels (stage_in s)) c.in-Filling.is c.self.invariant.reserved in
    let same : c.args.geometry.now.levels ≡ c.self.inside.levels = sym c.requires.levels ∙ sym (ap (λ (j : JobView). j.levels) c.self.view_is) in
    let less : c.in-Filling.filled < length c.in-Filling.numbers.items = c.requires.next.left c.in-Filling.shares.items c.in-Filling.numbers.items c.in-Filling.filled stage in
    let within : c.in-Filling.filled < length (all_contents c.self.inside.levels c.in-Filling.shares.items c.in-Filling.numbers.items) =
    subst (λ n. c.in-Filling.filled < n) (count ∙ sym (length-all_contents c.self.inside.levels c.in-Filling.shares.items c.in-Filling.numbers.items)) less in
    let built : c.in_ok-built.built ≡ filters_of (get_or (all_contents c.args.geometry.now.levels c.in-Filling.shares.items c.in-Filling.numbers.items) c.in-Filling.filled (group [])) =
    subst (λ (ss : List Share). c.in_ok-built.built ≡ filters_of (get_or (all_contents c.args.geometry.now.levels ss c.in-Filling.numbers.items) c.in-Filling.filled (group []))) c.deref.ensures.value
    (subst (λ xs. c.in_ok-built.built ≡ filters_of (get_or (all_contents c.args.geometry.now.levels c.deref.result.now xs) c.in-Filling.filled (group []))) c.deref-2.ensures.value (c.in_ok-built.ensures.filters (group []))) in
    record {
      few = c.self.invariant.few;
      needed = refl;
      change = c.self.invariant.change ∙ ap (λ s. change_in c.self.inside.levels c.self.inside.node c.self.inside.sources.items (stage_in s)) c.in-Filling.is;
      reserved = count;
      counted = subst (λ s. length (taken_in (stage_in s)) < 2 ^ 32) c.in-Filling.is c.self.invariant.counted;
      filters = built-more c.self.inside.levels c.args.geometry.now.levels c.self.inside.node c.in-Filling.shares.items c.in-Filling.numbers.items c.in-Filling.filled c.reserve.new.self.items c.keep.new.filters.items c.in_ok-built.built (group []) same within built c.keep.ensures
          (c.reserve.ensures.items ∙ c.self.invariant.filters ∙ ap (λ s. built_in (job_in c.self.inside) (stage_in s)) c.in-Filling.is);
    }
