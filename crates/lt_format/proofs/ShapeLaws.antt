-- The nodes of a trie are shaped as their level wants, after each change too.
use Rattle.std.proofs.Common.{◌≡◌, ℕ, ◌≤◌, refl, sym, ap, subst, [], ◌∷◌, length, Bool, true, false, not, cond, ◌&&◌, Option, Some, None, arith}
use Rattle.std.specs.Prelude.{◌==◌, nat_le}
use Rattle.std.specs.Option.{unwrap_or}
use Rattle.std.specs.declared.cmp.Ordering.{Ordering}
use Rattle.std.specs.declared.cmp.Ordering.TheVariants.{Less, Equal, Greater}
use Rattle.std.specs.FinMap.{find, put}
use Rattle.std.specs.FinMap.Entries.{where_key, by_order}
use Rattle.std.specs.List.{filter, list_all}
use Rattle.std.proofs.lemmas.Bool.{and_parts, and_from, eqb-true, eqb-false, leb-true, le-leb, eq-eqb}
use Rattle.std.proofs.lemmas.Option.{none-some}
use Rattle.lt_format.specs.declared.node_id.NodeId.{NodeId}
use Rattle.lt_format.specs.Trie.{Node, Trie, node_cmp, same_node, node_at, with_node, empty_node, is_node, is_last_level, is_shaped, groups_for}
use Rattle.lt_format.proofs.TrieLaws.{same_node-same, node_exact}

-- what is said of each node of a trie
abbrev pub is_fine : ℕ → ℕ → NodeId × Node → Bool
is_fine levels extents e = is_node levels e.0 && nat_le 1 (length e.1.tables) && is_shaped levels extents e.0 e.1

-- ---- a test of all nodes

put-all : (test : NodeId × Node → Bool) (id : NodeId) (node : Node) (es : Trie) → test (id, node) ≡ true → list_all test es ≡ true → list_all test (put node_cmp id node es) ≡ true
put-all test id node [] here h = and_from _ _ here h
put-all test id node (e ∷ es) here h = by_head (node_cmp id e.0) refl (put-all test id node es here parts.1)
  where
    parts : (test e ≡ true) × (list_all test es ≡ true)
    parts = and_parts (test e) (list_all test es) h

    by_head : (o : Ordering) → node_cmp id e.0 ≡ o → list_all test (put node_cmp id node es) ≡ true → list_all test (by_order o ((id, node) ∷ e ∷ es) ((e.0, node) ∷ es) (e ∷ put node_cmp id node es)) ≡ true
    by_head Less before rest = and_from _ _ here h
    by_head Equal same rest = and_from (test (e.0, node)) (list_all test es) (subst (λ q. test (q, node) ≡ true) (node_exact id e.0 same) here) parts.1
    by_head Greater after rest = and_from (test e) _ parts.0 rest

filter-all : (test keep : NodeId × Node → Bool) (es : Trie) → list_all test es ≡ true → list_all test (filter keep es) ≡ true
filter-all test keep [] h = refl
filter-all test keep (e ∷ es) h = by_head (keep e) (filter-all test keep es parts.1)
  where
    parts : (test e ≡ true) × (list_all test es ≡ true)
    parts = and_parts (test e) (list_all test es) h

    by_head : (b : Bool) → list_all test (filter keep es) ≡ true → list_all test (cond b (e ∷ filter keep es) (filter keep es)) ≡ true
    by_head true rest = and_from (test e) _ parts.0 rest
    by_head false rest = rest

found-passes : (test : NodeId × Node → Bool) (id : NodeId) (node : Node) (es : Trie) → list_all test es ≡ true → find node_cmp id es ≡ Some node → test (id, node) ≡ true
found-passes test id node [] h found = absurd (none-some node found)
found-passes test id node (e ∷ es) h found = by_head (same_node id e.0) refl (found-passes test id node es parts.1) found
  where
    parts : (test e ≡ true) × (list_all test es ≡ true)
    parts = and_parts (test e) (list_all test es) h

    by_head : (b : Bool) → same_node id e.0 ≡ b → (find node_cmp id es ≡ Some node → test (id, node) ≡ true) → cond b (Some e.1) (find node_cmp id es) ≡ Some node → test (id, node) ≡ true
    by_head true same rest found =
        let named : id ≡ e.0 = same_node-same id e.0 same in
        let value : e.1 ≡ node = ap (λ o. unwrap_or o node) found in
        subst (λ n. test (id, n) ≡ true) value (subst (λ q. test (q, e.1) ≡ true) (sym named) parts.0)
    by_head false other rest found = rest found

-- ---- shapes by level

pub inner-shaped : (levels extents : ℕ) (id : NodeId) (n : Node) → is_last_level levels id ≡ false → n.base ≡ 0 → length n.groups ≡ 0 → is_shaped levels extents id n ≡ true
inner-shaped levels extents id n inner base groups = rw inner (and_from _ _ (eq-eqb n.base 0 base) (eq-eqb (length n.groups) 0 groups))

pub shaped-inner : (levels extents : ℕ) (id : NodeId) (n : Node) → is_last_level levels id ≡ false → is_shaped levels extents id n ≡ true → (n.base ≡ 0) × (length n.groups ≡ 0)
shaped-inner levels extents id n inner h =
    let parts = and_parts (n.base == 0) (length n.groups == 0) (rw inner at h) in
    (eqb-true n.base 0 parts.0, eqb-true (length n.groups) 0 parts.1)

pub last-shaped : (levels extents : ℕ) (id : NodeId) (n : Node) → is_last_level levels id ≡ true → n.base ≤ extents → length n.groups ≡ groups_for (length n.tables) → is_shaped levels extents id n ≡ true
last-shaped levels extents id n last base groups = rw last (and_from _ _ (le-leb n.base extents base) (eq-eqb (length n.groups) (groups_for (length n.tables)) groups))

pub shaped-last : (levels extents : ℕ) (id : NodeId) (n : Node) → is_last_level levels id ≡ true → is_shaped levels extents id n ≡ true → (n.base ≤ extents) × (length n.groups ≡ groups_for (length n.tables))
shaped-last levels extents id n last h =
    let parts = and_parts (nat_le n.base extents) (length n.groups == groups_for (length n.tables)) (rw last at h) in
    (leb-true n.base extents parts.0, eqb-true (length n.groups) _ parts.1)

empty-shaped : (levels extents : ℕ) (id : NodeId) → is_shaped levels extents id empty_node ≡ true
empty-shaped levels extents id = by_level (is_last_level levels id) refl
  where
    by_level : (b : Bool) → is_last_level levels id ≡ b → is_shaped levels extents id empty_node ≡ true
    by_level true e = last-shaped levels extents id empty_node e (omega arith) refl
    by_level false e = inner-shaped levels extents id empty_node e refl refl

-- ---- one node

-- the node that a trie has is shaped, and so is the empty one
pub node_at-shaped : (levels extents : ℕ) (trie : Trie) (id : NodeId) → list_all (is_fine levels extents) trie ≡ true → is_shaped levels extents id (node_at trie id) ≡ true
unfolding node_at
node_at-shaped levels extents trie id h = by_found (find node_cmp id trie) refl
  where
    by_found : (o : Option Node) → find node_cmp id trie ≡ o → is_shaped levels extents id (unwrap_or o empty_node) ≡ true
    by_found None e = empty-shaped levels extents id
    by_found (Some n) e = (and_parts _ (is_shaped levels extents id n) (found-passes (is_fine levels extents) id n trie h e)).1

pub node_at-node : (levels extents : ℕ) (trie : Trie) (id : NodeId) → list_all (is_fine levels extents) trie ≡ true → 1 ≤ length (node_at trie id).tables → is_node levels id ≡ true
unfolding node_at
node_at-node levels extents trie id h there = by_found (find node_cmp id trie) refl there
  where
    by_found : (o : Option Node) → find node_cmp id trie ≡ o → 1 ≤ length (unwrap_or o empty_node).tables → is_node levels id ≡ true
    by_found None e there = absurd (omega arith)
    by_found (Some n) e there = (and_parts (is_node levels id) (nat_le 1 (length n.tables)) (and_parts _ (is_shaped levels extents id n) (found-passes (is_fine levels extents) id n trie h e)).0).0

pub with_node-fine : (levels extents : ℕ) (trie : Trie) (id : NodeId) (node : Node) → list_all (is_fine levels extents) trie ≡ true → is_node levels id ≡ true → is_shaped levels extents id node ≡ true → list_all (is_fine levels extents) (with_node trie id node) ≡ true
unfolding with_node
with_node-fine levels extents trie id node h named shaped = by_tables (length node.tables == 0) refl
  where
    by_tables : (none : Bool) → (length node.tables == 0) ≡ none → list_all (is_fine levels extents) (cond none (where_key node_cmp (λ q. not (same_node id q)) trie) (put node_cmp id node trie)) ≡ true
    by_tables true e = filter-all (is_fine levels extents) (λ e. not (same_node id e.0)) trie h
    by_tables false e =
        let some : 1 ≤ length node.tables = omega (arith, eqb-false (length node.tables) 0 e) in
        put-all (is_fine levels extents) id node trie (and_from _ _ (and_from _ _ named (le-leb 1 (length node.tables) some)) shaped) h
