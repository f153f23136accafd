use Rattle.lt_mem.proofs.ByRank.{ranked_onto-insert, AreRanked-inserted}
use Rattle.lt_mem.proofs.ranking.by_rank.Goals as goal

pub loop-item-preserved : goal.loop-item-preserved
loop-item-preserved c =
    let kept = AreRanked-inserted _ _ _ _ _ _ c.in_ok-insert.ensures.entries c.of.ensures c.loop-item.invariant.ranks c.in-Some.ensures.steps c.loop-item.invariant.valid in
    record {
      so_far = ranked_onto-insert _ _ _ _ _ _ _ c.in_ok-insert.ensures.entries c.of.ensures c.in-Some.ensures.steps c.loop-item.invariant.so_far;
      ranks = kept.0;
      valid = kept.1;
    }
