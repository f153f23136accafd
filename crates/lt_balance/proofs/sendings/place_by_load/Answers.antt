use Rattle.std.proofs.Common.{length, arith}
use Rattle.lt_balance.proofs.SendingLaws.{insert-by_load}
use Rattle.lt_balance.proofs.sendings.place_by_load.Goals as goal

pub returns-then-columns-other-clause-place : goal.returns-then-columns-other-clause-place
returns-then-columns-other-clause-place c = λ es are. insert-by_load es c.args.columns.now c.args.order.now c.args.column c.loop-at.at are c.requires.column c.requires.order (omega arith) c.loop-at.invariant (λ h. c.if-columns-other.true)

pub returns-clause-place : goal.returns-clause-place
returns-clause-place c = λ es are. insert-by_load es c.args.columns.now c.args.order.now c.args.column (length c.args.order.now) are c.requires.column c.requires.order (omega arith) (λ k h. c.loop-at.invariant k (omega arith)) (λ h. absurd (omega arith))
