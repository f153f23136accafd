use Rattle.std.proofs.Common.{◌∙◌, sym, ap, refl, take}
use Rattle.lt_line.proofs.FeedLaws.{unbroken_where_none, unbroken_before, ends_there}
use Rattle.lt_line.proofs.lines.Lines.feed.Goals as goal

pub returns-in-None-clause-goes_on : goal.returns-in-None-clause-goes_on
returns-in-None-clause-goes_on c =
    λ going. (refl, record { unbroken = unbroken_where_none c.args.piece.now (sym c.in-None.ensures.place); kept_is = c.keep.ensures.kept })

pub returns-in-Some-clause-ends : goal.returns-in-Some-clause-ends
returns-in-Some-clause-ends c =
    let found = sym c.in-Some.ensures.place in
    λ ended. record {
      chunk = take c.in-Some.at c.args.piece.now;
      unbroken = unbroken_before c.args.piece.now c.in-Some.at found;
      taken_is = ends_there c.args.piece.now c.in-Some.at found;
      kept_is = ap (λ held. held.kept) c.self.view_is ∙ c.keep-in-Some.ensures.kept;
    }
