-- Where the shares of a job go: its extents, in the order in which the change names them, and what each of
-- them is to hold.
use Rattle.std.specs.Prelude.{◌≡◌, ℕ, ◌+◌, ◌*◌, ◌≤◌, Option, Some, None, IsTrue, Bool, true, false, ◌&&◌, List, []}
use Rattle.std.specs.Prelude.{◌∷◌, ◌++◌, map, length, take, drop, nat_le, nat_lt, ◌==◌, if◌then◌else◌, slice_range}
use Rattle.std.specs.List.{AllByRecursion, range_with_len, sum_by}
use Rattle.lt_terms.specs.Bytes.{Image, is_in, same_bytes}
use Rattle.lt_terms.specs.Items.{Item}
use Rattle.lt_tables.specs.Filter.{IsGroup, filter_block}
use Rattle.lt_tables.specs.Table.{IsPlaced}
use Rattle.lt_format.specs.declared.geometry.Geometry.{Geometry}
use Rattle.lt_format.specs.declared.node_id.NodeId.{NodeId}
use Rattle.lt_format.specs.Changes.{Change, ChildChange, deal, rewrite}
use Rattle.lt_format.specs.Layout.{extent_block}
use Rattle.lt_format.specs.Trie.{Trie, all_distinct, node_at, is_last_level, same_node}
use Rattle.lt_image.specs.Shares.{Share, kept_groups, new_groups, share_extents}
use Rattle.lt_image.specs.Standing.{filter_blocks}
use Rattle.lt_image.specs.Versions.{extent_in}

-- what an extent is to hold: the table of these items, or the transpose of these tables' filter blocks
pub data Content : Type 0 where
  table : List Item → Content
  group : List ℕ → Content

-- the extent holds this content
abbrev pub Holds : Geometry → Image → ℕ → Content → Type 0
Holds g image x (table items) = IsPlaced items (extent_in g image x)
Holds g image x (group tables) = IsGroup (filter_blocks g image tables) (extent_in g image x)

-- the extents that shares take together
abbrev pub extents_for : ℕ → List Share → ℕ
extents_for levels shares = sum_by (share_extents levels) shares

-- what the node of a share gets with these extents: first its tables, then its new groups
abbrev pub given_by : ℕ → Share → List ℕ → ChildChange
given_by levels s numbers = record {
  node = s.node;
  tables = take (length s.parts) numbers;
  kept_groups =
      kept_groups levels s;
  groups = drop (length s.parts) numbers;
}

-- what the nodes of all shares get with these extents, one share after another
abbrev pub all_given : ℕ → List Share → List ℕ → List ChildChange
all_given levels [] numbers = []
all_given levels (s ∷ shares) numbers =
    given_by levels s (take (share_extents levels s) numbers)
    ∷ all_given levels shares (drop (share_extents levels s) numbers)

-- what the extents of a share are to hold
abbrev pub contents : ℕ → Share → List ℕ → List Content
contents levels s numbers =
    let pile = s.behind ++ take (length s.parts) numbers in
    map table s.parts
    ++ map (λ j. group (slice_range pile (64 * j) (64 * j + 64)))
    (range_with_len (kept_groups levels s) (new_groups levels s))

-- what the extents of all shares are to hold, one share after another
abbrev pub all_contents : ℕ → List Share → List ℕ → List Content
all_contents levels [] numbers = []
all_contents levels (s ∷ shares) numbers = contents levels s (take (share_extents levels s) numbers)
    ++ all_contents levels shares (drop (share_extents levels s) numbers)

-- a rewriting by what its node gets
abbrev pub rewriting : NodeId → List ChildChange → Change
rewriting id [] = rewrite id [] []
rewriting id (c ∷ cs) = rewrite id c.tables c.groups

-- the change of a node whose so many oldest tables were shared out to these extents
abbrev pub change_for : ℕ → NodeId → ℕ → List Share → List ℕ → Change
change_for levels id dropped shares numbers =
    if is_last_level levels id then rewriting id (all_given levels shares numbers)
    else deal id dropped (all_given levels shares numbers)

-- shares of the node's children whose numbers are at least `from`, in rising number, each with a table and
-- behind its pile
abbrev pub children_shared : Trie → NodeId → ℕ → List Share → Bool
children_shared trie id from [] = true
children_shared trie id from (s ∷ shares) =
    s.node.level == id.level + 1 && nat_le from s.node.number && nat_lt s.node.number (8 * id.number + 8)
    && nat_le 1 (length s.parts) && same_bytes s.behind (node_at trie s.node).tables
    && children_shared trie id (s.node.number + 1) shares

-- one share, of the node itself and behind nothing
abbrev pub is_own : NodeId → List Share → Bool
is_own id [] = false
is_own id (s ∷ []) = same_node s.node id && length s.behind == 0
is_own id (s ∷ t ∷ shares) = false

-- shares as a node's tables may be shared out
abbrev pub are_shared : ℕ → Trie → NodeId → List Share → Bool
are_shared levels trie id shares = if is_last_level levels id then is_own id shares
    else children_shared trie id (8 * id.number) shares

-- the filters of a table; a group has none of its own
abbrev pub filters_of : Content → Option (List ℕ)
filters_of (table items) = Some (filter_block items)
filters_of (group tables) = None

-- Shares may be written to these extents: as many as they take, each once and none of a table that a share lies
-- behind, and all of them lie on a device with so many blocks.
pub record MayFill (g : Geometry) (blocks : ℕ) (shares : List Share) (numbers : List ℕ) : Type 0 where
  pub count : length numbers ≡ extents_for g.levels shares
  pub distinct : IsTrue (all_distinct numbers)
  pub apart : AllByRecursion (λ (s : Share). (x : ℕ) → IsTrue (is_in x s.behind) → is_in x numbers ≡ false) shares
  pub within : (x : ℕ) → IsTrue (is_in x numbers) → extent_block g x + 65 ≤ blocks
  pub behind : AllByRecursion
      (λ (s : Share). (x : ℕ) → IsTrue (is_in x s.behind) → extent_block g x + 65 ≤ blocks) shares
