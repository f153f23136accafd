use Rattle.lt_format.proofs.KeepLaws.{set-trie}
use Rattle.lt_format.proofs.trie_laws.nodes_may_be_set.Goals as goal

pub returns : goal.returns
returns c = set-trie
