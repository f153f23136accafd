use Rattle.std.proofs.Common.{refl, arith}
use Rattle.lt_compact.proofs.GiveLaws.{next, given-more, given-all}
use Rattle.lt_compact.proofs.giving.give_back.Goals as goal

pub loop-number-init : goal.loop-number-init
loop-number-init c = record {
  len = refl;
  apart = c.requires.distinct;
  below = c.requires.taken.below;
  taken = c.requires.taken.each;
  free = λ x. refl;
}

pub give-requires-clause-within : goal.give-requires-clause-within
give-requires-clause-within c = (next c.args.extents.now c.loop-number.extents c.args.numbers.now c.loop-number.number-index _ c.loop-number-test.true refl c.loop-number.invariant).below

pub give-requires-clause-taken : goal.give-requires-clause-taken
give-requires-clause-taken c = (next c.args.extents.now c.loop-number.extents c.args.numbers.now c.loop-number.number-index _ c.loop-number-test.true refl c.loop-number.invariant).taken

pub loop-number-preserved : goal.loop-number-preserved
loop-number-preserved c = given-more c.args.extents.now c.loop-number.extents c.give.new.self c.args.numbers.now c.loop-number.number-index _ c.loop-number-test.true refl c.give.ensures c.loop-number.invariant

pub returns-clause-free : goal.returns-clause-free
returns-clause-free c = given-all c.args.extents.now c.loop-number.extents c.args.numbers.now c.loop-number.number-index (omega arith) c.loop-number.invariant
