use Rattle.lt_format.proofs.KeepLaws.{after_change-trie}
use Rattle.lt_format.proofs.trie_laws.changes_keep_tries.Goals as goal

pub returns : goal.returns
returns c = after_change-trie
