-- How the items of a node's tables are shared out: which node gets which tables, and how many extents that takes.
use Rattle.std.specs.Prelude.{ℕ, ◌+◌, ◌-◌, ◌/◌, Bool, List, [], ◌∷◌, map, length, nat_le, if◌then◌else◌}
use Rattle.std.specs.List.{filter, range_with_len, sum_by}
use Rattle.lt_terms.specs.Items.{Item}
use Rattle.lt_tables.specs.Cut.{cut}
use Rattle.lt_tables.specs.Table.{newest, with_digit, without_deletes}
use Rattle.lt_format.specs.declared.node_id.NodeId.{NodeId}
use Rattle.lt_format.specs.Trie.{Trie, child, node_at, is_last_level, groups_for}

-- what a node gets: tables of these items, behind these tables of it
pub record Share : Type 0 where
  pub node : NodeId
  pub behind : List ℕ
  pub parts : List (List Item)

-- the child for a digit gets the tables of its digit's items, behind its pile
abbrev pub child_share : Trie → NodeId → List Item → ℕ → Share
child_share trie id items d =
    record {
      node = child id d;
      behind = (node_at trie (child id d)).tables;
      parts = cut (with_digit id.level d items);
    }

-- the share has a table
abbrev pub has_tables : Share → Bool
has_tables s = nat_le 1 (length s.parts)

-- a deal of these items: the newest of each key, deletes included, go to the children that their digits name
abbrev pub deal_shares : Trie → NodeId → List Item → List Share
deal_shares trie id items = filter has_tables (map (child_share trie id (newest items)) (range_with_len 0 8))

-- a rewriting of these items: the newest of each key without deletes go to the node itself, behind nothing
abbrev pub rewrite_share : NodeId → List Item → Share
rewrite_share id items = record { node = id; behind = []; parts = cut (without_deletes (newest items)) }

-- an inner node is dealt, a last-level node is rewritten
abbrev pub shares_of : ℕ → Trie → NodeId → List Item → List Share
shares_of levels trie id items =
    if is_last_level levels id then rewrite_share id items ∷ [] else deal_shares trie id items

-- how many groups of the node of a share stay: the full ones
abbrev pub kept_groups : ℕ → Share → ℕ
kept_groups levels s = if is_last_level levels s.node then length s.behind / 64 else 0

-- how many groups of the node of a share are new: those behind its full groups
abbrev pub new_groups : ℕ → Share → ℕ
new_groups levels s =
    if is_last_level levels s.node then groups_for (length s.behind + length s.parts) - length s.behind / 64 else 0

-- the extents of a share: its tables and its new groups
abbrev pub share_extents : ℕ → Share → ℕ
share_extents levels s = length s.parts + new_groups levels s

-- the extents that a deal or a rewriting of these items needs
unfoldable pub needed : ℕ → Trie → NodeId → List Item → ℕ
needed levels trie id items = sum_by (share_extents levels) (shares_of levels trie id items)
