use Rattle.lt_balance.proofs.EntryLaws.{AreEntries-take, AreEntries-drop}
use Rattle.lt_balance.proofs.entries.parts_are_entries.Goals as goal

pub returns : goal.returns
returns c = λ n es entries. (AreEntries-take n es entries, AreEntries-drop n es entries)
