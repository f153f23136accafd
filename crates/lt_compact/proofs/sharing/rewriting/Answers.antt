use Rattle.std.proofs.Common.{◌≡◌, ◌∙◌, ◌<◌, ℕ, [], map, length, sym, ap, List, arith, subst, Global, Vec}
use Rattle.std.specs.Prelude.{IsTrue}
use Rattle.std.specs.List.{list_all}
use Rattle.lt_bucket.specs.declared.owned.Item as owned
use Rattle.lt_terms.specs.Items.{Item, is_valid}
use Rattle.lt_tables.specs.Table.{is_put, newest, without_deletes}
use Rattle.lt_tables.specs.Cut.{cut_counts}
use Rattle.lt_tables.specs.Placement.{entry_of}
use Rattle.lt_tables.proofs.ListLaws.{filter_few}
use Rattle.lt_compact.specs.Sharing.{IsCut}
use Rattle.lt_compact.proofs.NeedLaws.{filter-ranked, valid-filter}
use Rattle.lt_compact.proofs.sharing.rewriting.Goals as goal

-- the puts among items in rank order, and the counts of their cut
puts-cut : (items seen puts : List Item) (behind counts : List ℕ) → puts ≡ without_deletes items → seen ≡ items → newest items ≡ items → IsTrue (list_all is_valid seen) → length items < 4294967296 → behind ≡ [] → counts ≡ cut_counts (map entry_of (without_deletes seen)) → IsCut behind puts counts
puts-cut items seen puts behind counts is same ranked valid few none counts_are =
    subst (λ xs. IsCut behind xs counts) (sym is) (record {
      ranked = filter-ranked is_put items ranked;
      valid = valid-filter is_put items (subst (λ xs. IsTrue (list_all is_valid xs)) same valid);
      counts_are = counts_are ∙ ap (λ xs. cut_counts (map entry_of (without_deletes xs))) same;
      few = omega (arith, filter_few is_put items);
      pile = omega (arith, ap length none);
    })

pub of-requires : goal.of-requires
of-requires c =
    let puts : c.without_deletes-items.result.items ≡ without_deletes c.args.kept.now.items = c.without_deletes-items.ensures ∙ ap (λ (v : Vec owned.Item Global). without_deletes v.items) c.replace.ensures.value in
    puts-cut c.args.kept.now.items c.deref.result.now c.without_deletes-items.result.items c.new-2.result.items c.in_ok-counts.counts.items puts c.deref.ensures.value c.requires.items.ranked c.in_ok-counts.ensures.valid c.requires.items.few c.new-2.ensures.items c.in_ok-counts.ensures.counts
