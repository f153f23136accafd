use Rattle.std.specs.Prelude.{◌≡◌, take}
use Rattle.lt_format.specs.Trie.{named}
use Rattle.lt_node.proofs.trie.named.Given as goal

abbrev pub invariant-loop-entry : goal.invariant-loop-entry
invariant-loop-entry l = l.extents.items ≡ named (take l.entry-index l.nodes)
