-- What a commit changes of the trie.
use Rattle.std.specs.Prelude.{ℕ, ◌+◌, ◌*◌, ◌/◌, Bool, true, not, ◌&&◌, List, [], ◌∷◌, ◌++◌, length, take, drop}
use Rattle.std.specs.Prelude.{nat_le, nat_lt, ◌==◌, if◌then◌else◌}
use Rattle.std.specs.List.{flat_map, list_all, fold}
use Rattle.lt_terms.specs.Bytes.{is_in}
use Rattle.lt_format.specs.declared.node_id.NodeId.{NodeId}
use Rattle.lt_format.specs.Trie.{Node, Trie, root, node_at, node_extents, with_node, named, is_node, is_last_level}
use Rattle.lt_format.specs.Trie.{groups_for, all_distinct, all_below}

-- what a deal gives a child: new tables, and at the last level how many groups stay and which follow them
pub record ChildChange : Type 0 where
  pub node : NodeId
  pub tables : List ℕ
  pub kept_groups : ℕ
  pub groups : List ℕ

-- A flush appends tables to the root's pile; a deal takes the oldest tables of a pile and gives tables to children;
-- a rewriting replaces a last-level pile and its groups.
pub data Change : Type 0 where
  flush : List ℕ → Change
  deal : NodeId → ℕ → List ChildChange → Change
  rewrite : NodeId → List ℕ → List ℕ → Change

-- the extents that a deal newly names
abbrev pub given_extents : List ChildChange → List ℕ
given_extents children = flat_map (λ (c : ChildChange). c.tables ++ c.groups) children

-- the extents that a change newly names
abbrev pub new_extents : Change → List ℕ
new_extents (flush tables) = tables
new_extents (deal node dropped children) = given_extents children
new_extents (rewrite node tables groups) = tables ++ groups

-- k new tables behind t tables: the full groups stay, and the others are new
abbrev pub groups_fit : Bool → ℕ → ChildChange → Bool
groups_fit last t c =
    if last then c.kept_groups == t / 64 && c.kept_groups + length c.groups == groups_for (t + length c.tables)
    else c.kept_groups == 0 && length c.groups == 0

-- a child of the node that gets a table, and whose number is at least `from`
abbrev pub child_fits : ℕ → Trie → NodeId → ℕ → ChildChange → Bool
child_fits levels trie node from c =
    c.node.level == node.level + 1 && nat_le from c.node.number && nat_lt c.node.number (8 * node.number + 8)
    && nat_le 1 (length c.tables) && groups_fit (is_last_level levels c.node) (length (node_at trie c.node).tables) c

-- children of the node whose numbers are at least `from`, in rising number, each with a table
abbrev pub children_fit : ℕ → Trie → NodeId → ℕ → List ChildChange → Bool
children_fit levels trie node from [] = true
children_fit levels trie node from (c ∷ cs) =
    child_fits levels trie node from c && children_fit levels trie node (c.node.number + 1) cs

-- the change is one that the trie can take, whatever its new extents are
abbrev pub shape_fits : ℕ → Trie → Change → Bool
shape_fits levels trie (flush tables) = nat_le 1 (length tables)
shape_fits levels trie (deal node dropped children) =
    is_node levels node && not (is_last_level levels node)
    && nat_le 1 dropped && nat_le dropped (length (node_at trie node).tables)
    && children_fit levels trie node (8 * node.number) children
shape_fits levels trie (rewrite node tables groups) =
    is_last_level levels node && nat_le 1 (length (node_at trie node).tables)
    && length groups == groups_for (length tables)

-- new extents are distinct, below a limit, and not named before
abbrev pub are_new : ℕ → Trie → List ℕ → Bool
are_new limit trie xs = all_distinct xs && all_below limit xs && list_all (λ x. not (is_in x (named trie))) xs

-- the change fits the trie
unfoldable pub fits : ℕ → Trie → Change → Bool
fits levels trie change = are_new 65536 trie (new_extents change) && shape_fits levels trie change

-- the node with these tables behind its pile
abbrev pub appended : Node → List ℕ → Node
appended n tables = record n { tables = n.tables ++ tables }

-- a child with its new tables, and with the groups that stay and the new ones
abbrev pub child_after : Node → ChildChange → Node
child_after n c = record n { tables = n.tables ++ c.tables; groups = take c.kept_groups n.groups ++ c.groups }

-- the trie after a child's change
abbrev pub after_child : Trie → ChildChange → Trie
after_child trie c = with_node trie c.node (child_after (node_at trie c.node) c)

-- without its oldest tables
abbrev pub without_oldest : Node → ℕ → Node
without_oldest n dropped = record n { tables = drop dropped n.tables }

-- the trie after the change
unfoldable pub after_change : Trie → Change → Trie
after_change trie (flush tables) = with_node trie root (appended (node_at trie root) tables)
after_change trie (deal node dropped children) =
    with_node (fold after_child trie children) node (without_oldest (node_at trie node) dropped)
after_change trie (rewrite node tables groups) =
    with_node trie node (record { base = length tables; tables = tables; groups = groups })

-- the extents that a change no longer names: the oldest tables that were dealt, and the groups of children that do
-- not stay; of a rewriting all that its node had
abbrev pub freed : Trie → Change → List ℕ
freed trie (flush tables) = []
freed trie (deal node dropped children) =
    take dropped (node_at trie node).tables
    ++ flat_map (λ (c : ChildChange). drop c.kept_groups (node_at trie c.node).groups) children
freed trie (rewrite node tables groups) = node_extents (node_at trie node)
