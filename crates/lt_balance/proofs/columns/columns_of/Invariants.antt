use Rattle.std.proofs.Common.{take}
use Rattle.lt_balance.specs.Columns.{AreColumns}
use Rattle.lt_balance.proofs.columns.columns_of.Given as goal

abbrev pub invariant-loop-entry : goal.invariant-loop-entry
invariant-loop-entry l = AreColumns (take l.entry-index l.entries) l.columns
