-- The changes as values of the program, and the nodes that they set.
use Rattle.std.specs.Prelude.{ℕ, Bool, ◌||◌, List, [], ◌∷◌, ◌++◌, length, map, drop}
use Rattle.std.specs.List.{list_any}
use Rattle.lt_format.specs.declared.node_id.NodeId.{NodeId}
use Rattle.lt_format.specs.Trie.{Node, Trie, root, same_node, node_at, with_node}
use Rattle.lt_format.specs.Changes as format
use Rattle.lt_node.specs.declared.change.Change.{Change}
use Rattle.lt_node.specs.declared.change.Change.TheVariants.{Flush, Deal, Rewrite}
use Rattle.lt_node.specs.declared.change.ChildChange.{ChildChange}

-- what a deal gives a child
abbrev pub child_of : ChildChange → format.ChildChange
child_of c = record { node = c.node; tables = c.tables; kept_groups = c.kept_groups; groups = c.groups }

-- a change of the trie
abbrev pub change_of : Change → format.Change
change_of (Flush tables) = format.flush tables
change_of (Deal node dropped children) = format.deal node dropped (map child_of children)
change_of (Rewrite node tables groups) = format.rewrite node tables groups

-- a trie with an entry set
abbrev pub with_entry : Trie → NodeId × Node → Trie
with_entry trie e = with_node trie e.0 e.1

-- a child with what a deal gives it
abbrev pub dealt_entry : Trie → format.ChildChange → NodeId × Node
dealt_entry trie c = (c.node, format.child_after (node_at trie c.node) c)

-- the groups of a child that a deal does not keep
abbrev pub freed_groups : Trie → format.ChildChange → List ℕ
freed_groups trie c = drop c.kept_groups (node_at trie c.node).groups

-- the nodes that a change sets, each as it is then
abbrev pub changed : Trie → format.Change → Trie
changed trie (format.flush tables) = (root, format.appended (node_at trie root) tables) ∷ []
changed trie (format.deal node dropped children) =
    map (dealt_entry trie) children ++ (node, format.without_oldest (node_at trie node) dropped) ∷ []
changed trie (format.rewrite node tables groups) =
    (node, record { base = length tables; tables = tables; groups = groups }) ∷ []

-- whether the change sets the node
abbrev pub sets : format.Change → NodeId → Bool
sets (format.flush tables) id = same_node id root
sets (format.deal node dropped children) id =
    same_node id node || list_any (λ (c : format.ChildChange). same_node id c.node) children
sets (format.rewrite node tables groups) id = same_node id node
