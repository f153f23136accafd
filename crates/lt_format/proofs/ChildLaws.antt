-- What a deal's children are, and which nodes they leave alone.
use Rattle.std.proofs.Common.{◌≡◌, ℕ, ◌+◌, ◌*◌, ◌<◌, ◌≤◌, refl, ap, ◌∙◌, List, [], ◌∷◌, length, true, false, cond}
use Rattle.std.specs.Prelude.{◌==◌, nat_le, nat_lt}
use Rattle.std.specs.List.{fold}
use Rattle.std.proofs.lemmas.Bool.{and_parts, eqb-true, leb-true, ltb-true, false_from_ne_true}
use Rattle.lt_format.specs.declared.node_id.NodeId.{NodeId}
use Rattle.lt_format.specs.Trie.{Node, Trie, same_node, node_at, is_last_level}
use Rattle.lt_format.specs.Changes.{ChildChange, child_after, after_child, children_fit, groups_fit}
use Rattle.lt_format.proofs.TrieLaws.{same_node-same, node_at-with_node, if_any}

-- the first of children that fit
pub record IsFirstChild (levels : ℕ) (trie : Trie) (node : NodeId) (from : ℕ) (c : ChildChange) (cs : List ChildChange) : Type 0 where
  pub level : c.node.level ≡ node.level + 1
  pub low : from ≤ c.node.number
  pub high : c.node.number < 8 * node.number + 8
  pub tables : 1 ≤ length c.tables
  pub groups : groups_fit (is_last_level levels c.node) (length (node_at trie c.node).tables) c ≡ true
  pub rest : children_fit levels trie node (c.node.number + 1) cs ≡ true

pub children_fit-first : (levels : ℕ) (trie : Trie) (node : NodeId) (from : ℕ) (c : ChildChange) (cs : List ChildChange) → children_fit levels trie node from (c ∷ cs) ≡ true → IsFirstChild levels trie node from c cs
children_fit-first levels trie node from c cs h =
    let f = and_parts _ (children_fit levels trie node (c.node.number + 1) cs) h in
    let e = and_parts _ (groups_fit (is_last_level levels c.node) (length (node_at trie c.node).tables) c) f.0 in
    let d = and_parts _ (nat_le 1 (length c.tables)) e.0 in
    let b = and_parts _ (nat_lt c.node.number (8 * node.number + 8)) d.0 in
    let a = and_parts (c.node.level == node.level + 1) (nat_le from c.node.number) b.0 in
    record { level = eqb-true _ _ a.0; low = leb-true _ _ a.1; high = ltb-true _ _ b.1; tables = leb-true _ _ d.1; groups = e.1; rest = f.1 }

pub not_same : (q id : NodeId) → (q ≡ id → ⊥) → same_node q id ≡ false
not_same q id apart = false_from_ne_true (same_node q id) (λ e. apart (same_node-same q id e))

pub child-elsewhere : (trie : Trie) (c : ChildChange) (q : NodeId) → (q ≡ c.node → ⊥) → node_at (after_child trie c) q ≡ node_at trie q
child-elsewhere trie c q apart =
    let after : Node = child_after (node_at trie c.node) c in
    node_at-with_node trie c.node after q ∙ ap (λ b. cond b (if_any after) (node_at trie q)) (not_same q c.node apart)

-- a node of another level is as before
pub children-elsewhere : (levels : ℕ) (trie now : Trie) (node : NodeId) (from : ℕ) (cs : List ChildChange) (q : NodeId) → (q.level ≡ node.level + 1 → ⊥) → children_fit levels trie node from cs ≡ true → node_at (fold after_child now cs) q ≡ node_at now q
children-elsewhere levels trie now node from [] q apart h = refl
children-elsewhere levels trie now node from (c ∷ cs) q apart h =
    let first = children_fit-first levels trie node from c cs h in
    children-elsewhere levels trie (after_child now c) node (c.node.number + 1) cs q apart first.rest
    ∙ child-elsewhere now c q (λ same. apart (ap (λ (id : NodeId). id.level) same ∙ first.level))
