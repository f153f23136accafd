use Rattle.std.proofs.Common.{◌++◌, ◌∙◌, sym, ap}
use Rattle.std.proofs.lemmas.List.{append-nil}
use Rattle.lt_mem.proofs.ByRank.{items_ranked, items_ranked-newest}
use Rattle.lt_mem.proofs.ranking.newest_items.Goals as goal

pub returns : goal.returns
returns c =
    sym (append-nil c.loop-rank.batch.items)
    ∙ ap (λ left. c.loop-rank.batch.items ++ items_ranked left) (sym c.in-None.ensures.steps.0)
    ∙ sym c.loop-rank.invariant.copied
    ∙ ap items_ranked (c.into_iter-rank-iterator.ensures.into_iter_gives ∙ c.iter-rank-items.ensures.rest)
    ∙ items_ranked-newest c.in_ok-newest.newest.entries c.args.items c.in_ok-newest.ensures.newest
