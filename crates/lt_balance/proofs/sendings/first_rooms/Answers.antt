use Rattle.std.proofs.Common.{arith}
use Rattle.lt_balance.proofs.SendingLaws.{AreRooms-start}
use Rattle.lt_balance.proofs.sendings.first_rooms.Goals as goal

pub returns-clause-rooms : goal.returns-clause-rooms
returns-clause-rooms c = λ es are. AreRooms-start es c.args.columns.now c.loop-c.rooms are c.loop-c.invariant.0 (λ k small. c.loop-c.invariant.1 k (omega arith))
