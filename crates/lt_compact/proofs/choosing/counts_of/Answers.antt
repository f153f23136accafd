use Rattle.std.proofs.Common.{◌<◌, ◌∙◌, List, length, sym, subst, arith}
use Rattle.lt_terms.specs.Items.{Item}
use Rattle.lt_balance.specs.Entries.{AreEntries}
use Rattle.lt_htable.proofs.EntryLaws.{few-are_entries}
use Rattle.lt_compact.specs.Choosing.{chosen, is_chosen}
use Rattle.lt_compact.proofs.NeedLaws.{filter-ranked, valid-filter}
use Rattle.lt_compact.proofs.choosing.counts_of.Goals as goal
use Rattle.lt_tables.proofs.ListLaws.{filter_few}

pub cut-requires : goal.cut-requires
cut-requires c =
    let items : List Item = chosen c.args.choice c.args.items.now in
    let ranked = filter-ranked (is_chosen c.args.choice) c.args.items.now c.requires.items.ranked in
    let few : length items < 4294967296 = omega (arith, filter_few (is_chosen c.args.choice) c.args.items.now, c.requires.items.few) in
    subst AreEntries (sym (c.deref.ensures.value ∙ c.in_ok-entries.ensures.entries)) (few-are_entries items ranked (valid-filter (is_chosen c.args.choice) c.args.items.now c.in_ok-entries.ensures.valid) few)
