use Rattle.std.proofs.Common.{◌≡◌, ◌++◌}
use Rattle.lt_mem.specs.Ranking.{AreRanked}
use Rattle.lt_mem.proofs.ByRank.{items_ranked}
use Rattle.lt_mem.proofs.ranking.newest_items.Given as goal

abbrev pub invariant-loop-rank : goal.invariant-loop-rank
invariant-loop-rank l = record {
  copied : items_ranked l.initial.rank-iterator ≡ l.batch.items ++ items_ranked l.rank-iterator;
  ranks : AreRanked l.rank-iterator;
}
