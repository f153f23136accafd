-- Which piles want a deal or a rewriting, and when none fits.
use Rattle.std.specs.Prelude.{ℕ, ◌+◌, ◌*◌, Bool, not, ◌&&◌, ◌||◌, List, length, nat_le, nat_lt, if◌then◌else◌}
use Rattle.std.specs.List.{list_all, list_any}
use Rattle.lt_terms.specs.Bytes.{Image}
use Rattle.lt_terms.specs.Items.{Item}
use Rattle.lt_tables.specs.Table.{is_put, has_two_versions}
use Rattle.lt_format.specs.declared.node_id.NodeId.{NodeId}
use Rattle.lt_format.specs.Snapshot.{Named}
use Rattle.lt_format.specs.Trie.{Node, Trie, is_last_level}
use Rattle.lt_image.specs.Versions.{pile_items, free_extents}
use Rattle.lt_image.specs.Shares.{needed}

-- how many tables make a pile full, or due at the last level: 8 at an inner level; at the last one 8 more than twice
-- as many as the pile's last rewriting gave
abbrev pub full_at : ℕ → NodeId → Node → ℕ
full_at levels id n = if is_last_level levels id then 2 * n.base + 8 else 8

-- a full inner pile, or a due last-level pile
abbrev pub is_full : ℕ → NodeId × Node → Bool
is_full levels e = nat_le (full_at levels e.0 e.1) (length e.1.tables)

-- a pile with twice as many tables as make it full: a write does not leave one whose deal or rewriting fits
abbrev pub is_twice_full : ℕ → NodeId × Node → Bool
is_twice_full levels e = nat_le (2 * full_at levels e.0 e.1) (length e.1.tables)

-- the versions in a node's tables
abbrev pub node_items : Named → Image → Node → List Item
node_items m image n = pile_items m.geometry image n.tables

-- the versions of a pile with so many extents have slack: there is a delete, or two versions of one key, or a
-- rewriting of them needs fewer extents
abbrev pub has_slack : ℕ → Trie → NodeId → List Item → ℕ → Bool
has_slack levels trie id items extents =
    list_any (λ v. not (is_put v)) items || has_two_versions items || nat_lt (needed levels trie id items) extents

-- a last-level pile with slack
abbrev pub is_slack : Named → Image → NodeId × Node → Bool
is_slack m image e =
    is_last_level m.geometry.levels e.0
    && has_slack m.geometry.levels m.manifest.trie e.0 (node_items m image e.1) (length e.1.tables + length e.1.groups)

-- the deal or the rewriting of the node needs more extents than are free
abbrev pub waits : Named → Image → NodeId × Node → Bool
waits m image e = nat_lt (free_extents m) (needed m.geometry.levels m.manifest.trie e.0 (node_items m image e.1))

-- each node that passes the test waits
abbrev pub all_wait : (NodeId × Node → Bool) → Named → Image → Bool
all_wait test m image = list_all (λ e. not (test e) || waits m image e) m.manifest.trie

-- settled: each full inner pile and each due last-level pile waits
unfoldable pub is_settled : Named → Image → Bool
is_settled m image = all_wait (is_full m.geometry.levels) m image

-- paced: each pile with twice as many tables as make it full waits
unfoldable pub is_paced : Named → Image → Bool
is_paced m image = all_wait (is_twice_full m.geometry.levels) m image

-- exhausted: settled, and each last-level pile with slack waits
unfoldable pub is_exhausted : Named → Image → Bool
is_exhausted m image = is_settled m image && all_wait (is_slack m image) m image
