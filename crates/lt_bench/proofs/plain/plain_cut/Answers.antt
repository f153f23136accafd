use Rattle.std.proofs.Common.{List, subst, sym}
use Rattle.lt_tables.specs.declared.Entry.{Entry}
use Rattle.lt_balance.specs.Entries.{AreEntries}
use Rattle.lt_balance.proofs.EntryLaws.{AreEntries-drop}
use Rattle.lt_bench.proofs.plain.plain_cut.Goals as goal

pub loop-rest-preserved : goal.loop-rest-preserved
loop-rest-preserved c = subst (λ (es : List Entry). AreEntries es) (sym c.split_at.ensures.back) (AreEntries-drop _ _ c.loop-rest.invariant)
