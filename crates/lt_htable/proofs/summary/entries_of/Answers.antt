use Rattle.std.proofs.Common.{◌≡◌, List, length, map, take, true, sym, ap, subst, ◌∙◌, arith}
use Rattle.std.proofs.Math.Seq.{take-length}
use Rattle.std.specs.List.{list_all}
use Rattle.lt_terms.specs.Items.{Item, is_valid}
use Rattle.lt_tables.specs.Placement.{entry_of}
use Rattle.lt_balance.specs.Entries.{AreEntries}
use Rattle.lt_htable.proofs.EntryLaws.{few-are_entries}
use Rattle.lt_htable.proofs.summary.entries_of.Goals as goal

pub returns-clause-entries_are : goal.returns-clause-entries_are
returns-clause-entries_are c = λ ranked few.
    let items : List Item = c.args.items.now in
    let all : c.loop-item.item-index ≡ length items = omega arith in
    let whole : take c.loop-item.item-index items ≡ items = ap (λ n. take n items) all ∙ take-length items in
    let entries : c.loop-item.entries.items ≡ map entry_of items = c.loop-item.invariant.entries ∙ ap (map entry_of) whole in
    let valid : list_all is_valid items ≡ true = sym (ap (list_all is_valid) whole) ∙ c.loop-item.invariant.valid in
    subst AreEntries (sym entries) (few-are_entries items ranked valid few)
