use Rattle.std.proofs.Common.{length, arith, ap}
use Rattle.lt_compact.proofs.NeedLaws.{groups-few, pile-few}
use Rattle.lt_compact.proofs.planning.extents_of.Goals as goal

pub overflow_cast-result : goal.overflow_cast-result
overflow_cast-result c =
    let v = c.levels.ensures.trie in
    omega (arith, ap length c.pile.ensures, ap length c.groups.ensures, pile-few c.args.trie.now.levels c.args.trie.now.nodes c.args.node v.trie, groups-few c.args.trie.now.levels c.args.trie.now.nodes c.args.node v.trie)
