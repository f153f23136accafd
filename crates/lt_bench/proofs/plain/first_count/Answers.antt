use Rattle.std.proofs.Common.{List, subst, sym}
use Rattle.lt_tables.specs.declared.Entry.{Entry}
use Rattle.lt_balance.specs.Entries.{AreEntries}
use Rattle.lt_balance.proofs.EntryLaws.{AreEntries-take}
use Rattle.lt_bench.proofs.plain.first_count.Goals as goal

pub place-requires : goal.place-requires
place-requires c = subst (λ (es : List Entry). AreEntries es) (sym c.split_at.ensures.front) (AreEntries-take _ _ c.requires.entries)
