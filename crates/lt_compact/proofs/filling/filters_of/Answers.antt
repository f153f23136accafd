use Rattle.std.proofs.Common.{arith}
use Rattle.lt_compact.proofs.filling.filters_of.Goals as goal
use Rattle.lt_terms.proofs.AmongLaws.{in_at}

pub read_filters-requires : goal.read_filters-requires
read_filters-requires g c =
    omega (arith, c.requires.within.each _ (in_at c.args.tables.now c.loop-number.number-index 0 c.loop-number-test.true), c.extent.ensures, c.loop-number.invariant.calls.size)
