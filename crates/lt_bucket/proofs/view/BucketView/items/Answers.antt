use Rattle.std.proofs.Common.{◌≤◌, List, length, sym, subst}
use Rattle.lt_terms.specs.Items.{Item}
use Rattle.lt_bucket.proofs.FewLaws.{few_items}
use Rattle.lt_bucket.proofs.view.BucketView.items.Goals as goal

pub returns-clause-few : goal.returns-clause-few
returns-clause-few c = subst (λ (items : List Item). length items ≤ 816) (sym c.again.ensures.same) (few_items _ _ _ c.self.invariant)
