-- The trie of piles as a value: its nodes that are not empty, by level and number.
use Rattle.std.specs.Prelude.{ℕ, zero, suc, ◌+◌, ◌*◌, ◌/◌, ◌^◌, Bool, true, not, ◌&&◌, List, [], ◌∷◌, ◌++◌, length}
use Rattle.std.specs.Prelude.{nat_le, nat_lt, ◌==◌, if◌then◌else◌, IsTrue}
use Rattle.std.specs.declared.cmp.Ordering.{Ordering}
use Rattle.std.specs.Ordering.{ordering_then, nat_cmp, eq_by_cmp}
use Rattle.std.specs.FinMap.{find, put, is_sorted}
use Rattle.std.specs.FinMap.Entries.{where_key}
use Rattle.std.specs.List.{flat_map, list_all, sum_by}
use Rattle.std.specs.Option.{unwrap_or}
use Rattle.lt_terms.specs.Hashes.{key_digit}
use Rattle.lt_terms.specs.Bytes.{is_in}
use Rattle.lt_format.specs.declared.node_id.NodeId.{NodeId}

-- a node's pile, the oldest table first, its groups in order, and how many tables its last rewriting gave
pub record Node : Type 0 where
  pub base : ℕ
  pub tables : List ℕ
  pub groups : List ℕ

-- each node under its name, by level and number
abbrev pub Trie : Type 0
Trie = List (NodeId × Node)

-- the one node of level 0
abbrev pub root : NodeId
root = record { level = 0; number = 0 }

-- the child for a digit
abbrev pub child : NodeId → ℕ → NodeId
child id d = record { level = id.level + 1; number = 8 * id.number + d }

-- the number of a key's node at a level: its first digits, read as an octal numeral
unfoldable pub path_number : List ℕ → ℕ → ℕ
path_number key zero = 0
path_number key (suc level) = 8 * path_number key level + key_digit key level

-- the node of a key at a level
abbrev pub path : List ℕ → ℕ → NodeId
path key level = record { level = level; number = path_number key level }

-- by level, then by number
abbrev pub node_cmp : NodeId → NodeId → Ordering
node_cmp a b = ordering_then (nat_cmp a.level b.level) (nat_cmp a.number b.number)

-- the two names are equal
abbrev pub same_node : NodeId → NodeId → Bool
same_node a b = eq_by_cmp node_cmp a b

-- a node of the last level
abbrev pub is_last_level : ℕ → NodeId → Bool
is_last_level levels id = id.level + 1 == levels

-- a node of a trie with these levels
abbrev pub is_node : ℕ → NodeId → Bool
is_node levels id = nat_lt id.level levels && nat_lt id.number (8 ^ id.level)

-- a node that a trie does not have
abbrev pub empty_node : Node
empty_node = record { base = 0; tables = []; groups = [] }

-- the node under this name, or the empty one
unfoldable pub node_at : Trie → NodeId → Node
node_at trie id = unwrap_or (find node_cmp id trie) empty_node

-- the trie with this node under this name; a node without tables leaves it
unfoldable pub with_node : Trie → NodeId → Node → Trie
with_node trie id node =
    if length node.tables == 0 then where_key node_cmp (λ x. not (same_node id x)) trie
    else put node_cmp id node trie

-- the extents that a node names
abbrev pub node_extents : Node → List ℕ
node_extents n = n.tables ++ n.groups

-- the extents that a trie names
abbrev pub named : Trie → List ℕ
named trie = flat_map (λ (e : NodeId × Node). node_extents e.1) trie

-- how many tables a trie has
abbrev pub table_total : Trie → ℕ
table_total trie = sum_by (λ (e : NodeId × Node). length e.1.tables) trie

-- how many groups this many tables have: 64 tables to a group
abbrev pub groups_for : ℕ → ℕ
groups_for tables = (tables + 63) / 64

-- no number stands twice
abbrev pub all_distinct : List ℕ → Bool
all_distinct [] = true
all_distinct (x ∷ xs) = not (is_in x xs) && all_distinct xs

-- each number is below the limit
abbrev pub all_below : ℕ → List ℕ → Bool
all_below limit xs = list_all (λ x. nat_lt x limit) xs

-- how many groups a node has, and how great its base may be
abbrev pub is_shaped : ℕ → ℕ → NodeId → Node → Bool
is_shaped levels extents id n =
    if is_last_level levels id
    then nat_le n.base extents && length n.groups == groups_for (length n.tables)
    else n.base == 0 && length n.groups == 0

-- what a trie with these levels in a store of these extents is
pub record IsTrie (levels extents : ℕ) (trie : Trie) : Type 0 where
  pub rising : IsTrue (is_sorted node_cmp trie)
  pub nodes : IsTrue (list_all (λ (e : NodeId × Node). is_node levels e.0 && nat_le 1 (length e.1.tables)
      && is_shaped levels extents e.0 e.1) trie)
  pub distinct : IsTrue (all_distinct (named trie))
  pub below : IsTrue (all_below extents (named trie))
