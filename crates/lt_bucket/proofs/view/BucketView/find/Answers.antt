use Rattle.std.proofs.Common.{◌∙◌, sym, ap}
use Rattle.lt_tables.specs.Bucket.{items_on, look_on}
use Rattle.lt_bucket.proofs.Lookups.{looks_here}
use Rattle.lt_bucket.proofs.view.BucketView.find.Goals as goal

pub returns-in-Some : goal.returns-in-Some
returns-in-Some c =
    ap (λ page. look_on page c.args.key.now) (sym c.self.view_is)
    ∙ looks_here _ _ _ _ _ _ c.self.invariant (c.items.ensures.items ∙ ap items_on (sym c.self.view_is)) c.in-Some.ensures
