-- Which node is to be dealt or rewritten next.
use Rattle.std.specs.Prelude.{ℕ, zero, suc, ◌-◌, Bool, not, ◌||◌, List, [], ◌++◌, Option, IsTrue, IsFalse}
use Rattle.std.specs.List.{AllByRecursion, filter, find}
use Rattle.std.specs.Option.{option_map}
use Rattle.lt_terms.specs.Bytes.{Image}
use Rattle.lt_format.specs.declared.node_id.NodeId.{NodeId}
use Rattle.lt_format.specs.Snapshot.{Named}
use Rattle.lt_format.specs.Trie.{Node, Trie}
use Rattle.lt_image.specs.Needs.{is_full, is_slack, waits}
use Rattle.lt_image.specs.Versions.{level_nodes}
use Rattle.lt_pace.specs.Marks.{is_marked}

-- the full piles of so many levels from the root down: the deepest level first, then by number
unfoldable pub full_nodes : ℕ → Trie → ℕ → Trie
full_nodes levels trie zero = []
full_nodes levels trie (suc n) = filter (is_full levels) (level_nodes trie n) ++ full_nodes levels trie n

-- the first full pile that is not passed over: a due last-level pile by number, then a full inner pile of the deepest
-- level
abbrev pub next_full : ℕ → Trie → List Bool → Option (NodeId × Node)
next_full levels trie passed_over = find (λ e. not (is_marked passed_over e.0)) (full_nodes levels trie levels)

-- the first last-level pile by number that is neither passed over nor known to have no slack
abbrev pub next_slack : ℕ → Trie → List Bool → List Bool → Option (NodeId × Node)
next_slack levels trie passed_over without_slack =
    find (λ e. not (is_marked passed_over e.0 || is_marked without_slack e.0)) (level_nodes trie (levels - 1))

-- the name of a node, if there is one
abbrev pub name_of : Option (NodeId × Node) → Option NodeId
name_of e = option_map (λ e. e.0) e

-- on the image each node that is passed over waits
abbrev pub PassedOverWait : Named → Image → List Bool → Type 0
PassedOverWait m image passed_over =
    AllByRecursion (λ e. IsTrue (is_marked passed_over e.0) → IsTrue (waits m image e)) m.manifest.trie

-- on the image no node that is marked as without slack has slack
abbrev pub AreSlackless : Named → Image → List Bool → Type 0
AreSlackless m image without_slack =
    AllByRecursion (λ e. IsTrue (is_marked without_slack e.0) → IsFalse (is_slack m image e)) m.manifest.trie
