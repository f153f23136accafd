-- A rig's job as it begins, and as it waits for extents.
use Rattle.std.proofs.Common.{◌≡◌, ℕ, ◌<◌, ◌≤◌, refl, sym, ap, subst, ◌∙◌, List, [], length, Bool, arith}
use Rattle.std.specs.Prelude.{All}
use Rattle.lt_terms.specs.Bytes.{Image}
use Rattle.lt_alloc.specs.Extents.{AreTaken}
use Rattle.lt_format.specs.declared.node_id.NodeId.{NodeId}
use Rattle.lt_format.specs.Layout.{blocks_needed}
use Rattle.lt_format.specs.Trie.{all_distinct, named, node_at}
use Rattle.lt_node.specs.View.{IsView, TrieView}
use Rattle.lt_compact.specs.Extents.{AllTaken, GoesWith}
use Rattle.lt_compact.specs.Jobs.{IsShaped, JobView, begun, taken_in}
use Rattle.lt_compact.proofs.BeginLaws.{all-taken, begun-goes, goes-unreserved}
use Rattle.compact_tests.specs.Rigs.{MayStep}

-- the facts of a job that has reserved nothing
pub nothing-reserved : (trie : TrieView) (count : ℕ) (used : List ℕ) (extents : List Bool) (shown : Image) (j : JobView) → IsView trie → trie.levels ≡ 2 → IsShaped 2 trie.nodes j → taken_in j.stage ≡ [] → used ≡ named trie.nodes → AreTaken count used extents → All (λ n. n < count) used
    → blocks_needed (record { levels = 2; slots = 1 }) count ≤ length shown → MayStep trie extents shown j
nothing-reserved trie count used extents shown j view levels shaped none are_used are below fits = record {
  levels = levels;
  goes = goes-unreserved 2 trie.nodes extents j shaped none (subst (AllTaken extents) are_used (all-taken count used extents are below)) view.trie.distinct;
  within = let size = are.len in omega arith;
}

pub begun-may : (trie : TrieView) (count : ℕ) (used : List ℕ) (extents : List Bool) (shown : Image) (id : NodeId) (j : JobView) → IsView trie → trie.levels ≡ 2 → 1 ≤ length (node_at trie.nodes id).tables → j ≡ begun trie.levels trie.nodes id → used ≡ named trie.nodes → AreTaken count used extents → All (λ n. n < count) used
    → blocks_needed (record { levels = 2; slots = 1 }) count ≤ length shown → MayStep trie extents shown j
begun-may trie count used extents shown id j view levels some is are_used are below fits =
    let begins = begun-goes trie.levels trie.nodes extents id some (subst (AllTaken extents) are_used (all-taken count used extents are below)) view.trie.distinct in
    nothing-reserved trie count used extents shown j view levels
    (subst (λ n. IsShaped n trie.nodes j) levels (subst (IsShaped trie.levels trie.nodes) (sym is) begins.shaped)) (ap (λ (x : JobView). taken_in x.stage) is) are_used are below fits
