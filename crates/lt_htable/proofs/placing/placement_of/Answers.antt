use Rattle.std.proofs.Common.{◌≡◌, subst, sym, ap, ◌∙◌, map, Some}
use Rattle.lt_tables.specs.Placement.{entry_of, placement, placement_of}
use Rattle.lt_balance.specs.Entries.{AreEntries}
use Rattle.lt_htable.proofs.EntryLaws.{items-are_entries, buckets-fit}
use Rattle.lt_htable.proofs.placing.placement_of.Goals as goal

pub place-requires : goal.place-requires
place-requires c =
    let entries = c.deref.ensures.value ∙ c.in_ok-entries.ensures.entries in
    subst AreEntries (sym entries) (items-are_entries c.args.items.now c.requires.ranked c.in_ok-entries.ensures.valid c.requires.placed)

pub returns-clause-fits : goal.returns-clause-fits
returns-clause-fits c = λ k small.
    let entries : c.deref.result.now ≡ map entry_of c.args.items.now = c.deref.ensures.value ∙ c.in_ok-entries.ensures.entries in
    let placed : placement_of c.args.items.now ≡ Some c.unwrap.result = ap placement (sym entries) ∙ sym c.in_ok-found.ensures ∙ c.unwrap.ensures in
    buckets-fit c.args.items.now c.unwrap.result placed c.requires.ranked c.in_ok-entries.ensures.valid k small
