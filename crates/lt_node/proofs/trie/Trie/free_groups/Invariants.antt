use Rattle.std.specs.Prelude.{◌≡◌, ◌++◌, take, map}
use Rattle.std.specs.List.{flat_map}
use Rattle.lt_node.specs.Changing.{child_of, freed_groups}
use Rattle.lt_node.proofs.trie.Trie.free_groups.Given as goal

abbrev pub invariant-loop-child : goal.invariant-loop-child
invariant-loop-child l = l.extents.items ≡ l.fn.extents.items ++ flat_map (freed_groups l.self.nodes) (map child_of (take l.child-index l.children))
