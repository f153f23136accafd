use Rattle.std.proofs.Common.{◌+◌, ◌≤◌, sym, subst, ◌∙◌, eq-eqb, arith}
use Rattle.lt_terms.specs.Items.{Item, item_cost, total_cost}
use Rattle.lt_tables.specs.Bucket.{capacity}
use Rattle.lt_bucket.specs.Added.{added}
use Rattle.lt_htable.proofs.FillLaws.{room-for}
use Rattle.lt_htable.proofs.filling.fill_bucket.Goals as goal

pub add-requires-clause-fits : goal.add-requires-clause-fits
add-requires-clause-fits c =
    subst (λ (item : Item). total_cost (added c.loop-item.builder) + item_cost item ≤ capacity) (sym c.view.ensures.item)
    (room-for c.args.placement.now c.args.items.now (added c.loop-item.builder) c.args.column c.loop-item.item-index c.item-item.result c.requires.ranked c.requires.fits (omega arith) c.item-item.is
    (eq-eqb _ _ (sym c.place_of.ensures ∙ c.if-place_of-column.true)) c.loop-item.invariant.added)
