use Rattle.std.proofs.Common.{◌≡◌, map, take, true}
use Rattle.std.specs.List.{list_all}
use Rattle.lt_terms.specs.Items.{is_valid}
use Rattle.lt_tables.specs.Placement.{entry_of}
use Rattle.lt_compact.specs.Choosing.{chosen}
use Rattle.lt_compact.proofs.choosing.entries_of.Given as goal

-- the entries of the chosen items so far, which are valid
abbrev pub invariant-loop-item : goal.invariant-loop-item
invariant-loop-item l = record {
  entries : l.entries.items ≡ map entry_of (chosen l.choice (take l.item-index l.items));
  valid : list_all is_valid (take l.item-index l.items) ≡ true;
}
