use Rattle.std.proofs.Common.{◌≡◌, subst, arith}
use Rattle.lt_balance.proofs.SendingLaws.{IsBest, IsBest-takes, IsBest-keeps, IsBest-whole}
use Rattle.lt_balance.proofs.sendings.receiver.Goals as goal

pub loop-column-preserved-then-columns-column-le-CAPACITY : goal.loop-column-preserved-then-columns-column-le-CAPACITY
loop-column-preserved-then-columns-column-le-CAPACITY c = IsBest-takes c.args.columns.now c.args.rooms.now c.loop-column.column c.loop-column.found c.roomier.result c.loop-column.invariant (omega arith) c.loop-column.auto.column c.if-columns-column-le-CAPACITY.true c.roomier.ensures.column c.roomier.ensures.better

pub loop-column-preserved : goal.loop-column-preserved
loop-column-preserved c = IsBest-keeps c.args.columns.now c.args.rooms.now c.loop-column.column c.loop-column.found c.loop-column.invariant (omega arith) c.loop-column.auto.column c.if-columns-column-le-CAPACITY.false

pub returns-clause-best : goal.returns-clause-best
returns-clause-best c = λ es made are have. IsBest-whole es made c.args.columns.now c.args.rooms.now c.loop-column.found (subst (λ n. IsBest c.args.columns.now c.args.rooms.now n c.loop-column.found) (let done : c.loop-column.column ≡ 0 = omega arith in done) c.loop-column.invariant) are have
