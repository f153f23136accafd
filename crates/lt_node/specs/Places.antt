-- What a place among nodes in order says of the nodes.
use Rattle.std.specs.Prelude.{◌≡◌, ℕ, ◌<◌, ◌≤◌, not, Result, Ok, Err, Option, Some, None, length, slice_set}
use Rattle.std.specs.Prelude.{slice_index_or}
use denote.Ref.{Bor}
use Rattle.std.specs.FinMap.{find, put}
use Rattle.std.specs.FinMap.Entries.{where_key}
use Rattle.std.specs.List.{insert, remove}
use Rattle.lt_format.specs.declared.node_id.NodeId.{NodeId}
use Rattle.lt_format.specs.Trie.{Node, Trie, node_cmp, same_node}

-- the node stands here
pub record StandsAt (nodes : Trie) (id : NodeId) (i : ℕ) : Type 0 where
  pub within : i < length nodes
  pub found : (d : NodeId × Node) → find node_cmp id nodes ≡ Some (slice_index_or nodes i d).1
  pub put : (n : Node) → put node_cmp id n nodes ≡ slice_set nodes i (id, n)
  pub gone : where_key node_cmp (λ q. not (same_node id q)) nodes ≡ remove nodes i

-- the node does not stand there, and would stand here
pub record WouldStandAt (nodes : Trie) (id : NodeId) (i : ℕ) : Type 0 where
  pub within : i ≤ length nodes
  pub missing : find node_cmp id nodes ≡ None
  pub put : (n : Node) → put node_cmp id n nodes ≡ insert nodes i (id, n)
  pub gone : where_key node_cmp (λ q. not (same_node id q)) nodes ≡ nodes

-- the node stands at the place, where that is Ok, and would stand at it else
abbrev pub IsPlace : Trie → NodeId → Result ℕ ℕ → Type 0
IsPlace nodes id (Ok i) = StandsAt nodes id i
IsPlace nodes id (Err i) = WouldStandAt nodes id i

-- the entry of the node, where the nodes have it
abbrev pub IsFound : Trie → NodeId → Option (Bor (NodeId × Node)) → Type 0
IsFound nodes id None = find node_cmp id nodes ≡ None
IsFound nodes id (Some e) = find node_cmp id nodes ≡ Some e.now.1
