use Rattle.std.proofs.Common.{◌≡◌, ◌≤◌, ◌∙◌, ap, [], length, arith}
use Rattle.lt_format.specs.Layout.{blocks_needed}
use Rattle.lt_compact.specs.Jobs.{JobView, taken_in}
use Rattle.compact_tests.proofs.RigLaws.{nothing-reserved}
use Rattle.compact_tests.proofs.rig.Rig.widen.Goals as goal

pub invariant_of-self : goal.invariant_of-self
invariant_of-self c =
    let none : taken_in c.self.inside.job.stage ≡ [] = ap (λ (j : JobView). taken_in j.stage) c.self.view_is ∙ c.step.ensures.waits c.in-Ok-Short.field-0-0 (cc (c.in-Ok-Short.is, c.in-Ok-Short.field-0-is)) in
    let fits : blocks_needed (record { levels = 2; slots = 1 }) c.args.count ≤ length c.self.inside.device.shown = omega (arith, c.needed-needed.ensures, c.blocks-blocks.ensures.value) in
    nothing-reserved c.self.inside.trie c.args.count c.as_slice-named.result.now c.in_ok-self-inside.field-0 c.self.inside.device.shown c.self.inside.job c.referenced.ensures.trie c.self.invariant.levels c.self.invariant.goes.shaped none
    (c.as_slice-named.ensures.value ∙ c.in_ok-named.ensures.named) c.in_ok-self-inside.ensures (c.is_below-fits.ensures c.if-not-fits.false) fits
