use Rattle.lt_balance.proofs.ColumnLaws.{AreColumns-nil, AreColumns-next, sums-fit}
use Rattle.lt_balance.proofs.columns.columns_of.Goals as goal

pub loop-entry-init : goal.loop-entry-init
loop-entry-init c = AreColumns-nil

pub with-requires-clause-load : goal.with-requires-clause-load
with-requires-clause-load c = (sums-fit c.args.entries.now c.loop-entry.entry-index _ c.loop-entry.columns c.requires c.loop-entry-test.true c.loop-entry.invariant).load

pub with-requires-clause-sent : goal.with-requires-clause-sent
with-requires-clause-sent c = (sums-fit c.args.entries.now c.loop-entry.entry-index _ c.loop-entry.columns c.requires c.loop-entry-test.true c.loop-entry.invariant).sent

pub loop-entry-preserved : goal.loop-entry-preserved
loop-entry-preserved c = AreColumns-next c.args.entries.now c.loop-entry.entry-index _ c.loop-entry.columns c.with.result c.requires c.loop-entry-test.true c.loop-entry.invariant c.with.ensures
