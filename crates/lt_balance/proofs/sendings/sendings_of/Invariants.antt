use Rattle.lt_balance.proofs.SendingLaws.{IsDealt}
use Rattle.lt_balance.proofs.sendings.sendings_of.Given as goal

abbrev pub invariant-loop-from : goal.invariant-loop-from
invariant-loop-from l = IsDealt l.columns l.from-items l.from-index l.made.items l.rooms
