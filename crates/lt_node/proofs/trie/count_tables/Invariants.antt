use Rattle.lt_node.proofs.TotalLaws.{Counts}
use Rattle.lt_node.proofs.trie.count_tables.Given as goal

abbrev pub invariant-loop-entry : goal.invariant-loop-entry
invariant-loop-entry l = Counts l.nodes l.entry-index l.count
