use Rattle.std.proofs.Common.{arith}
use Rattle.lt_store.proofs.GiveLaws.{still-taken}
use Rattle.lt_store.proofs.flushing.give_back.Goals as goal
use Rattle.lt_terms.proofs.AmongLaws.{in_at}

pub give-requires-clause-within : goal.give-requires-clause-within
give-requires-clause-within c =
    let below = c.requires.below _ (in_at c.args.numbers.now c.loop-number.number-index 0 c.loop-number-test.true) in
    let len = c.loop-number.invariant.len in
    omega (arith, below, len)

pub give-requires-clause-taken : goal.give-requires-clause-taken
give-requires-clause-taken c =
    let there = in_at c.args.numbers.now c.loop-number.number-index 0 c.loop-number-test.true in
    still-taken c.args.extents.now c.loop-number.extents c.args.numbers.now c.loop-number.number-index c.loop-number.invariant c.loop-number-test.true c.requires.distinct (c.requires.below _ there) (c.requires.taken _ there)
