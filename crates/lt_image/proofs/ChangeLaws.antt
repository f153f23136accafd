-- The piles of the trie after a change, and what stays true of its nodes.
use Rattle.std.proofs.Common.{◌≡◌, ℕ, refl, ap, subst, ◌∙◌, List, [], ◌∷◌, ◌++◌, length, Bool, true, false, not, cond}
use Rattle.std.specs.Prelude.{◌==◌}
use Rattle.std.specs.declared.cmp.Ordering.TheVariants.{Less, Equal, Greater}
use Rattle.std.specs.FinMap.{put}
use Rattle.std.specs.FinMap.Entries.{where_key, by_order}
use Rattle.std.specs.List.{AllByRecursion}
use Rattle.lt_format.specs.declared.node_id.NodeId.{NodeId}
use Rattle.lt_format.specs.Trie.{Node, Trie, root, path, path_number, node_cmp, same_node, node_at, with_node}
use Rattle.lt_format.specs.Changes.{flush, appended, after_change}
use Rattle.lt_format.proofs.TrieLaws.{node_exact, if_any, node_at-with_node, if_any-tables}
use Rattle.lt_tables.proofs.ListLaws.{all_filter}

-- ---- a fact of all nodes

put_all : (P : NodeId × Node → Type 0) (id : NodeId) (node : Node) (es : Trie) → P (id, node) → AllByRecursion P es → AllByRecursion P (put node_cmp id node es)
put_all P id node [] p all = (p, tt)
put_all P id node (e ∷ es) p all =
    elim (node_cmp id e.0) as (λ r. node_cmp id e.0 ≡ r → AllByRecursion P (by_order r ((id, node) ∷ e ∷ es) ((e.0, node) ∷ es) (e ∷ put node_cmp id node es))) [
      | Less ↦ λ t. (p, all)
      | Equal ↦ λ t. (subst (λ q. P (q, node)) (node_exact id e.0 t) p, all.1)
      | Greater ↦ λ t. (all.0, put_all P id node es p all.1)
    ] refl

with_all : (P : NodeId × Node → Type 0) (id : NodeId) (node : Node) (es : Trie) (none : Bool) → P (id, node) → AllByRecursion P es → AllByRecursion P (cond none (where_key node_cmp (λ x. not (same_node id x)) es) (put node_cmp id node es))
with_all P id node es true p all = all_filter P (λ e. not (same_node id e.0)) es all
with_all P id node es false p all = put_all P id node es p all

-- what holds of all nodes and of a new one holds of all nodes after it is put
pub with_node-all : (P : NodeId × Node → Type 0) (trie : Trie) (id : NodeId) (node : Node) → P (id, node) → AllByRecursion P trie → AllByRecursion P (with_node trie id node)
unfolding with_node
with_node-all P trie id node p all = with_all P id node trie (length node.tables == 0) p all

-- ---- the piles after a change

cond_tables : (b : Bool) (m n : Node) → (cond b m n).tables ≡ cond b m.tables n.tables
cond_tables true m n = refl
cond_tables false m n = refl

-- the tables of each node after one was changed
pub tables-with_node : (trie : Trie) (id : NodeId) (node : Node) (q : NodeId) → (node_at (with_node trie id node) q).tables ≡ cond (same_node q id) node.tables (node_at trie q).tables
tables-with_node trie id node q =
    ap (λ (n : Node). n.tables) (node_at-with_node trie id node q)
    ∙ cond_tables (same_node q id) (if_any node) (node_at trie q)
    ∙ ap (λ (xs : List ℕ). cond (same_node q id) xs (node_at trie q).tables) (if_any-tables node)

pub tables-flush : (trie : Trie) (tables : List ℕ) (q : NodeId) → (node_at (after_change trie (flush tables)) q).tables ≡ cond (same_node q root) ((node_at trie root).tables ++ tables) (node_at trie q).tables
unfolding after_change
tables-flush trie tables q = tables-with_node trie root (appended (node_at trie root) tables) q

-- ---- paths

pub path-root : (key : List ℕ) → path key 0 ≡ root
unfolding path_number
path-root key = refl
