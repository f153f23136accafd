use Rattle.std.specs.Prelude.{◌≡◌, ◌*◌, map, drop}
use Rattle.lt_format.specs.Changes.{children_fit}
use Rattle.lt_node.specs.Changing.{child_of}
use Rattle.lt_node.proofs.fitting.children_fit.Given as goal

-- the children so far fit, and the others are to begin from here
abbrev pub invariant-loop-child : goal.invariant-loop-child
invariant-loop-child l = children_fit l.trie.levels l.trie.nodes l.node (8 * l.node.number) (map child_of l.children) ≡ children_fit l.trie.levels l.trie.nodes l.node l.from (map child_of (drop l.child-index l.children))
