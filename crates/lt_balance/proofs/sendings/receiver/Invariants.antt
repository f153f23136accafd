use Rattle.lt_balance.proofs.SendingLaws.{IsBest}
use Rattle.lt_balance.proofs.sendings.receiver.Given as goal

abbrev pub invariant-loop-column : goal.invariant-loop-column
invariant-loop-column l = IsBest l.columns l.rooms l.column l.found
