use Rattle.std.proofs.Common.{◌≡◌, ◌≤◌, ◌∙◌, ap, length, arith}
use Rattle.lt_format.specs.Layout.{blocks_needed}
use Rattle.lt_format.specs.Trie.{node_at}
use Rattle.compact_tests.proofs.RigLaws.{begun-may}
use Rattle.compact_tests.proofs.rig.Rig.begin.Goals as goal

pub invariant_of-result : goal.invariant_of-result
invariant_of-result c =
    let levels : c.args.trie.levels ≡ 2 = omega arith in
    let pile = ap length c.pile-tables.ensures in
    let some : 1 ≤ length (node_at c.args.trie.nodes c.args.node).tables = omega (arith, pile, c.if-tables-lt1.false) in
    let fits : blocks_needed (record { levels = 2; slots = 1 }) c.args.count ≤ length c.args.device.shown = omega (arith, c.needed-needed.ensures, c.blocks-blocks.ensures.value) in
    begun-may c.args.trie c.args.count c.as_slice-named.result.now c.in_ok-extents.extents c.args.device.shown c.args.node c.in_ok-job.job c.levels-levels.ensures.trie levels some c.in_ok-job.ensures
    (c.as_slice-named.ensures.value ∙ c.in_ok-named.ensures.named) c.in_ok-extents.ensures (c.is_below-fits.ensures c.if-not-fits.false) fits
