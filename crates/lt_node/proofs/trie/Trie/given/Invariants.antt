use Rattle.std.specs.Prelude.{◌≡◌, take, map}
use Rattle.lt_node.specs.Changing.{dealt_entry, child_of}
use Rattle.lt_node.proofs.trie.Trie.given.Given as goal

abbrev pub invariant-loop-child : goal.invariant-loop-child
invariant-loop-child l = l.entries.items ≡ map (dealt_entry l.self.nodes) (map child_of (take l.child-index l.children))
