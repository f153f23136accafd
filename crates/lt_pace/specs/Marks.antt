-- Marks of nodes: a flag for each node that a trie of at most five levels may have, level after level.
use Rattle.std.specs.Prelude.{ℕ, zero, suc, ◌+◌, ◌*◌, Bool, true, false, List, replicate}
use Rattle.std.specs.Prelude.{slice_index_or, slice_set}
use Rattle.lt_format.specs.declared.node_id.NodeId.{NodeId}

-- how many nodes five levels have: 1, 8, 64, 512 and 4,096
abbrev pub most_nodes : ℕ
most_nodes = 4681

-- where the flags of a level begin: behind those of the levels above it
abbrev pub first_place : ℕ → ℕ
first_place zero = 0
first_place (suc level) = 8 * first_place level + 1

-- the place of a node's flag
abbrev pub place_of : NodeId → ℕ
place_of id = first_place id.level + id.number

-- the node is marked
abbrev pub is_marked : List Bool → NodeId → Bool
is_marked marks id = slice_index_or marks (place_of id) false

-- the marks with this node's among them
abbrev pub marked : List Bool → NodeId → List Bool
marked marks id = slice_set marks (place_of id) true

-- the marks without this node's
abbrev pub unmarked : List Bool → NodeId → List Bool
unmarked marks id = slice_set marks (place_of id) false

-- no node is marked
abbrev pub no_marks : List Bool
no_marks = replicate most_nodes false
