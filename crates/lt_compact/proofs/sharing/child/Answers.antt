use Rattle.std.proofs.Common.{arith}
use Rattle.lt_compact.proofs.NeedLaws.{inner-small}
use Rattle.lt_compact.proofs.sharing.child.Goals as goal

pub overflow_mul-result : goal.overflow_mul-result
overflow_mul-result c = let small = inner-small c.args.trie.now.levels c.args.node c.levels.ensures.trie.most c.requires.inner.node c.requires.inner.inner in omega (arith, small.number)

pub overflow_add-result-2 : goal.overflow_add-result-2
overflow_add-result-2 c = let small = inner-small c.args.trie.now.levels c.args.node c.levels.ensures.trie.most c.requires.inner.node c.requires.inner.inner in omega (arith, small.number, c.requires.digit)
