use Rattle.lt_format.specs.Trie.{named}
use Rattle.lt_format.proofs.Numbers.{length-distinct}
use Rattle.lt_format.proofs.trie_laws.extents_suffice.Goals as goal

pub returns : goal.returns
returns c = λ levels extents trie t. length-distinct extents (named trie) t.distinct t.below
