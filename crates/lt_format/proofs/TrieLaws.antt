-- The node that a trie has after one was changed, and that its nodes keep rising.
use Rattle.std.proofs.Common.{◌≡◌, refl, sym, ap, subst, ◌∙◌, Bool, true, false, not, cond, ◌&&◌, Option, Some, None, List, [], ◌∷◌, length, suc, arith, ℕ}
use Rattle.std.specs.Prelude.{T, ◌==◌}
use Rattle.std.specs.Option.{unwrap_or}
use Rattle.std.specs.declared.cmp.Ordering.{Ordering}
use Rattle.std.specs.declared.cmp.Ordering.TheVariants.{Less, Equal, Greater}
use Rattle.std.specs.Ordering.{nat_cmp, ordering_then, is_eq, is_lt}
use Rattle.std.specs.Cmp.{IsTotalOrder, nat_cmp_total, alike_right}
use Rattle.std.proofs.lemmas.Cmp.{on_total, then_total, eq_by_cmp_equiv, tied_itself}
use Rattle.std.specs.FinMap.{find, put, is_sorted, nat_cmp-IsAntisymmetric}
use Rattle.std.specs.FinMap.Entries.{where_key, below_all, find-put, find-where_key, is_sorted-put, is_sorted-where_key}
use Rattle.std.proofs.lemmas.Bool.{and_parts, ne_eqb, true≢false}
use Rattle.lt_format.specs.declared.node_id.NodeId.{NodeId}
use Rattle.lt_format.specs.Trie.{Node, Trie, node_cmp, same_node, empty_node, node_at, with_node}
use Rattle.lt_tables.proofs.RankLaws.{is_equal}

-- ---- names

pub node_total : IsTotalOrder node_cmp
node_total = then_total (on_total (λ (id : NodeId). id.level) nat_cmp_total) (on_total (λ (id : NodeId). id.number) nat_cmp_total)

pub is_less : (o : Ordering) → is_lt o ≡ true → o ≡ Less
is_less Less e = refl
is_less Equal e = absurd (true≢false (sym e))
is_less Greater e = absurd (true≢false (sym e))

ties : (x y : Ordering) → ordering_then x y ≡ Equal → (x ≡ Equal) × (y ≡ Equal)
ties Equal y e = (refl, e)
ties Less y e = absurd (true≢false (sym (ap is_eq e)))
ties Greater y e = absurd (true≢false (sym (ap is_eq e)))

pub node_exact : (a b : NodeId) → node_cmp a b ≡ Equal → a ≡ b
node_exact a b tie =
    let both = ties (nat_cmp a.level b.level) (nat_cmp a.number b.number) tie in
    let levels : a.level ≡ b.level = nat_cmp-IsAntisymmetric a.level b.level both.0 in
    let numbers : a.number ≡ b.number = nat_cmp-IsAntisymmetric a.number b.number both.1 in
    λ i. record { level = levels i; number = numbers i }

pub same_node-same : (a b : NodeId) → same_node a b ≡ true → a ≡ b
same_node-same a b e = node_exact a b (is_equal (node_cmp a b) e)

-- ---- the node that is found

pub same_node-itself : (id : NodeId) → same_node id id ≡ true
same_node-itself id = ap is_eq (tied_itself node_total id)

-- a node without tables is none
abbrev pub if_any : Node → Node
if_any node = cond (length node.tables == 0) empty_node node

pub if_any-tables : (n : Node) → (if_any n).tables ≡ n.tables
if_any-tables n = by_tables n.tables refl
  where
    by_tables : (ts : List ℕ) → n.tables ≡ ts → (cond (length ts == 0) empty_node n).tables ≡ n.tables
    by_tables [] is = sym is
    by_tables (t ∷ ts) is = ap (λ b. (cond b empty_node n).tables) (ne_eqb (suc (length ts)) 0 (λ e. omega arith))

choose_put : (b : Bool) (node : Node) (before : Option Node) → unwrap_or (cond b (Some node) before) empty_node ≡ cond b node (unwrap_or before empty_node)
choose_put true node before = refl
choose_put false node before = refl

choose_gone : (b : Bool) (before : Option Node) → unwrap_or (cond (not b) before None) empty_node ≡ cond b empty_node (unwrap_or before empty_node)
choose_gone true before = refl
choose_gone false before = refl

by_tables : (none : Bool) (trie : Trie) (id : NodeId) (node : Node) (q : NodeId)
    → unwrap_or (find node_cmp q (cond none (where_key node_cmp (λ x. not (same_node id x)) trie) (put node_cmp id node trie))) empty_node
    ≡ cond (same_node q id) (cond none empty_node node) (unwrap_or (find node_cmp q trie) empty_node)
by_tables true trie id node q =
    ap (λ o. unwrap_or o empty_node) (find-where_key node_cmp (λ x. not (same_node id x)) q (λ x t. ap (λ r. not (is_eq r)) (sym (alike_right node_total q x id t))) trie)
    ∙ choose_gone (same_node id q) (find node_cmp q trie)
    ∙ ap (λ b. cond b empty_node (unwrap_or (find node_cmp q trie) empty_node)) ((eq_by_cmp_equiv node_total).symm id q)
by_tables false trie id node q =
    ap (λ o. unwrap_or o empty_node) (find-put node_cmp node_total q id node trie)
    ∙ choose_put (same_node q id) node (find node_cmp q trie)

-- the changed node has its new value, and each other node the one before
pub node_at-with_node : (trie : Trie) (id : NodeId) (node : Node) (q : NodeId) → node_at (with_node trie id node) q ≡ cond (same_node q id) (if_any node) (node_at trie q)
unfolding node_at with_node
node_at-with_node trie id node q = by_tables (length node.tables == 0) trie id node q

-- ---- nodes rise

from_T : (b : Bool) → T b → b ≡ true
from_T true t = refl
from_T false t = absurd t

to_T : (b : Bool) → b ≡ true → T b
to_T b e = subst T (sym e) tt

sorted_by : (none : Bool) (trie : Trie) (id : NodeId) (node : Node) → T (is_sorted node_cmp trie) → T (is_sorted node_cmp (cond none (where_key node_cmp (λ x. not (same_node id x)) trie) (put node_cmp id node trie)))
sorted_by true trie id node h = is_sorted-where_key node_cmp (λ x. not (same_node id x)) trie h
sorted_by false trie id node h = is_sorted-put node_cmp node_total id node trie h

-- a change keeps them so
pub with_node-rising : (trie : Trie) (id : NodeId) (node : Node) → is_sorted node_cmp trie ≡ true → is_sorted node_cmp (with_node trie id node) ≡ true
unfolding with_node
with_node-rising trie id node h = from_T _ (sorted_by (length node.tables == 0) trie id node (to_T _ h))

-- a name that comes before all names is not found
pub find-below : (id : NodeId) (es : Trie) → below_all node_cmp id es ≡ true → find node_cmp id es ≡ None
find-below id [] h = refl
find-below id (e ∷ es) h =
    let parts = and_parts (is_lt (node_cmp id e.0)) (below_all node_cmp id es) h in
    let before : node_cmp id e.0 ≡ Less = is_less (node_cmp id e.0) parts.0 in
    ap (λ r. cond (is_eq r) (Some e.1) (find node_cmp id es)) before ∙ find-below id es parts.1

pub below-less : (id q : NodeId) (es : Trie) → node_cmp id q ≡ Less → below_all node_cmp q es ≡ true → below_all node_cmp id es ≡ true
below-less id q [] before h = refl
below-less id q (e ∷ es) before h =
    let parts = and_parts (is_lt (node_cmp q e.0)) (below_all node_cmp q es) h in
    let less : node_cmp id e.0 ≡ Less = node_total.trans id q e.0 before (is_less (node_cmp q e.0) parts.0) in
    ap (λ r. is_lt r && below_all node_cmp id es) less ∙ below-less id q es before parts.1

-- and leaving it out changes nothing
pub where_key-below : (id : NodeId) (es : Trie) → below_all node_cmp id es ≡ true → where_key node_cmp (λ x. not (same_node id x)) es ≡ es
where_key-below id [] h = refl
where_key-below id (e ∷ es) h =
    let parts = and_parts (is_lt (node_cmp id e.0)) (below_all node_cmp id es) h in
    let before : node_cmp id e.0 ≡ Less = is_less (node_cmp id e.0) parts.0 in
    ap (λ r. cond (not (is_eq r)) (e ∷ where_key node_cmp (λ x. not (same_node id x)) es) (where_key node_cmp (λ x. not (same_node id x)) es)) before
    ∙ ap (λ rest. e ∷ rest) (where_key-below id es parts.1)
