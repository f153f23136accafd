use Rattle.std.proofs.Common.{◌≡◌, refl, ap, length, arith}
use Rattle.lt_node.proofs.TotalLaws.{pile_few, total_few}
use Rattle.lt_compact.proofs.job.begin.Goals as goal

pub invariant_of-result : goal.invariant_of-result
invariant_of-result c = record {
  few =
      let trie = c.levels.ensures.trie.trie in
      let same : length c.in_ok-from_slice.field-0.items ≡ length c.pile.result.now = ap length c.in_ok-from_slice.ensures.items in
      let pile = ap length c.pile.ensures in
      omega (arith, same, pile, pile_few c.args.trie.now.levels c.args.trie.now.nodes c.args.node trie, total_few c.args.trie.now.levels c.args.trie.now.nodes trie);
  needed = refl;
  change = refl;
  reserved = refl;
  counted = omega arith;
  filters = c.new.ensures.items;
}
