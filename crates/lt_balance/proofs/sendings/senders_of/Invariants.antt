use Rattle.lt_balance.proofs.SendingLaws.{IsOrder}
use Rattle.lt_balance.proofs.sendings.senders_of.Given as goal

abbrev pub invariant-loop-column : goal.invariant-loop-column
invariant-loop-column l = IsOrder l.columns l.column l.order.items
