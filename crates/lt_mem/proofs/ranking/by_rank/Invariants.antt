use Rattle.std.proofs.Common.{◌≡◌, true}
use Rattle.std.specs.List.{fold, list_all}
use Rattle.std.specs.FinMap.{put}
use Rattle.lt_terms.specs.Hashes.{rank_cmp}
use Rattle.lt_terms.specs.Items.{Item, is_valid}
use Rattle.lt_tables.specs.Table.{ranked}
use Rattle.lt_mem.specs.Ranking.{ranked_entries, AreRanked}
use Rattle.lt_mem.proofs.ranking.by_rank.Given as goal

abbrev pub invariant-loop-item : goal.invariant-loop-item
invariant-loop-item l = record {
  so_far : fold (λ es (v : Item). put rank_cmp v.key v es) (ranked_entries l.newest.entries) l.item-iterator ≡ ranked l.fn.items;
  ranks : AreRanked l.newest.entries;
  valid : list_all is_valid l.item-iterator ≡ true;
}
