-- What the proofs speak of beside the definitions: items that belong to a node, and what the piles on a path have.
use Rattle.std.specs.Prelude.{ℕ, zero, suc, List, Option, None, IsTrue}
use Rattle.std.specs.List.{flat_map, AllByRecursion}
use Rattle.std.specs.Option.{option_or}
use Rattle.std.specs.FinMap.{is_sorted}
use Rattle.lt_terms.specs.Items.{Item}
use Rattle.lt_tables.specs.Table.{newest_of}
use Rattle.lt_format.specs.declared.node_id.NodeId.{NodeId}
use Rattle.lt_format.specs.Trie.{Node, Trie, path, same_node, node_cmp, node_at}

-- the key of each item leads to the node
abbrev pub Belongs : NodeId → List Item → Type 0
Belongs id items = AllByRecursion (λ (v : Item). IsTrue (same_node (path v.key id.level) id)) items

abbrev pub PileBelongs : (ℕ → List Item) → NodeId × Node → Type 0
PileBelongs held e = AllByRecursion (λ x. Belongs e.0 (held x)) e.1.tables

-- the nodes rise, and each table holds only items that lead to its node
pub record IsSorted (held : ℕ → List Item) (trie : Trie) : Type 0 where
  pub rising : IsTrue (is_sorted node_cmp trie)
  pub belong : AllByRecursion (PileBelongs held) trie

-- what the pile on the key's path at this level has of the key
abbrev pub on_level : (ℕ → List Item) → Trie → List ℕ → ℕ → Option Item
on_level held trie key level = newest_of key (flat_map held (node_at trie (path key level)).tables)

-- what the piles on the key's path have: that nearest to the root rules
abbrev pub on_path : (ℕ → Option Item) → ℕ → Option Item
on_path at zero = None
on_path at (suc level) = option_or (on_path at level) (at level)
