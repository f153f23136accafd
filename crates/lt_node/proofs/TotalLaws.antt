-- How many tables a trie has.
use Rattle.std.proofs.Common.{◌≡◌, ℕ, suc, ◌+◌, ◌<◌, ◌≤◌, refl, sym, ap, subst, ◌∙◌, Bool, true, false, not, cond, Option, Some, None, List, [], ◌∷◌, ◌++◌, length, get_or, drop, drop-cons, add-one, arith, length-append}
use Rattle.std.specs.Prelude.{◌==◌, ◌&&◌}
use Rattle.lt_terms.specs.Bytes.{is_in}
use Rattle.std.specs.Option.{unwrap_or}
use Rattle.std.specs.declared.cmp.Ordering.{Ordering}
use Rattle.std.specs.declared.cmp.Ordering.TheVariants.{Less, Equal, Greater}
use Rattle.std.specs.Ordering.{is_eq}
use Rattle.std.specs.FinMap.{find, put, is_sorted}
use Rattle.std.specs.FinMap.Entries.{where_key, below_all, by_order}
use Rattle.std.specs.List.{list_all}
use Rattle.std.proofs.lemmas.Bool.{and_parts, eqb-true}
use Rattle.std.proofs.lemmas.List.{drop_all}
use Rattle.std.proofs.lemmas.List.Sums.{sum_by-cons}
use Rattle.lt_format.specs.declared.node_id.NodeId.{NodeId}
use Rattle.lt_format.specs.Trie.{Node, Trie, empty_node, node_cmp, same_node, node_at, with_node, node_extents, named, table_total, all_distinct, all_below, IsTrie}
use Rattle.lt_format.specs.Changes.{are_new}
use Rattle.lt_format.proofs.Numbers.{length-distinct}
use Rattle.lt_format.proofs.TrieLaws.{same_node-same, find-below, below-less, where_key-below}

total-cons : (e : NodeId × Node) (es : Trie) → table_total (e ∷ es) ≡ length e.1.tables + table_total es
total-cons e es = sum_by-cons (λ (e : NodeId × Node). length e.1.tables) e es

-- how many tables the node that was found has
abbrev found_total : Option Node → ℕ
found_total found = length (unwrap_or found empty_node).tables

put_total : (id : NodeId) (node : Node) (es : Trie) → is_sorted node_cmp es ≡ true → table_total (put node_cmp id node es) + found_total (find node_cmp id es) ≡ table_total es + length node.tables
put_total id node [] h = omega (arith, total-cons (id, node) [])
put_total id node (e ∷ es) h = by_head (node_cmp id e.0) refl (put_total id node es parts.1)
  where
    parts : (below_all node_cmp e.0 es ≡ true) × (is_sorted node_cmp es ≡ true)
    parts = and_parts (below_all node_cmp e.0 es) (is_sorted node_cmp es) h

    by_head : (o : Ordering) → node_cmp id e.0 ≡ o → table_total (put node_cmp id node es) + found_total (find node_cmp id es) ≡ table_total es + length node.tables
        → table_total (by_order o ((id, node) ∷ e ∷ es) ((e.0, node) ∷ es) (e ∷ put node_cmp id node es)) + found_total (cond (is_eq o) (Some e.1) (find node_cmp id es)) ≡ table_total (e ∷ es) + length node.tables
    by_head Less before rest =
        let none : find node_cmp id es ≡ None = find-below id es (below-less id e.0 es before parts.0) in
        rw none (omega (arith, total-cons (id, node) (e ∷ es)))
    by_head Equal same rest = omega (arith, total-cons (e.0, node) es, total-cons e es)
    by_head Greater after rest = omega (arith, total-cons e (put node_cmp id node es), total-cons e es)

gone_total : (id : NodeId) (es : Trie) → is_sorted node_cmp es ≡ true → table_total (where_key node_cmp (λ q. not (same_node id q)) es) + found_total (find node_cmp id es) ≡ table_total es
gone_total id [] h = refl
gone_total id (e ∷ es) h = by_head (same_node id e.0) refl (gone_total id es parts.1)
  where
    parts : (below_all node_cmp e.0 es ≡ true) × (is_sorted node_cmp es ≡ true)
    parts = and_parts (below_all node_cmp e.0 es) (is_sorted node_cmp es) h

    by_head : (b : Bool) → same_node id e.0 ≡ b → table_total (where_key node_cmp (λ q. not (same_node id q)) es) + found_total (find node_cmp id es) ≡ table_total es
        → table_total (cond (not b) (e ∷ where_key node_cmp (λ q. not (same_node id q)) es) (where_key node_cmp (λ q. not (same_node id q)) es)) + found_total (cond b (Some e.1) (find node_cmp id es)) ≡ table_total (e ∷ es)
    by_head true same rest =
        let first : below_all node_cmp id es ≡ true = subst (λ q. below_all node_cmp q es ≡ true) (sym (same_node-same id e.0 same)) parts.0 in
        rw (where_key-below id es first) (omega (arith, total-cons e es))
    by_head false other rest = omega (arith, total-cons e es, total-cons e (where_key node_cmp (λ q. not (same_node id q)) es))

-- the tables of the node before are counted no more, and those of the new one are
pub with_node-total : (trie : Trie) (id : NodeId) (node : Node) → is_sorted node_cmp trie ≡ true → table_total (with_node trie id node) + length (node_at trie id).tables ≡ table_total trie + length node.tables
unfolding with_node node_at
with_node-total trie id node h = by_tables (length node.tables == 0) refl
  where
    by_tables : (none : Bool) → (length node.tables == 0) ≡ none → table_total (cond none (where_key node_cmp (λ q. not (same_node id q)) trie) (put node_cmp id node trie)) + found_total (find node_cmp id trie) ≡ table_total trie + length node.tables
    by_tables true e = let few : length node.tables ≡ 0 = eqb-true (length node.tables) 0 e in omega (arith, gone_total id trie h)
    by_tables false e = put_total id node trie h

-- ---- a trie has few tables

pub total_named : (es : Trie) → table_total es ≤ length (named es)
total_named [] = omega arith
total_named (e ∷ es) = omega (arith, total-cons e es, total_named es, length-append (node_extents e.1) (named es), length-append e.1.tables e.1.groups)

pub total_few : (levels : ℕ) (trie : Trie) → IsTrie levels 65536 trie → table_total trie ≤ 65536
total_few levels trie t = omega (arith, total_named trie, length-distinct 65536 (named trie) t.distinct t.below)

pub pile_few : (levels : ℕ) (trie : Trie) (id : NodeId) → IsTrie levels 65536 trie → length (node_at trie id).tables ≤ table_total trie
pile_few levels trie id t = omega (arith, with_node-total trie id empty_node t.rising)

pub new_few : (trie : Trie) (tables groups : List ℕ) → are_new 65536 trie (tables ++ groups) ≡ true → length tables ≤ 65536
new_few trie tables groups h =
    let fresh = and_parts (all_distinct (tables ++ groups) && all_below 65536 (tables ++ groups)) (list_all (λ x. not (is_in x (named trie))) (tables ++ groups)) h in
    let both = and_parts (all_distinct (tables ++ groups)) (all_below 65536 (tables ++ groups)) fresh.0 in
    omega (arith, length-append tables groups, length-distinct 65536 (tables ++ groups) both.0 both.1)

-- ---- a loop that counts

pub total_cut : (es : Trie) (i : ℕ) (item : NodeId × Node) → item ≡ get_or es i item → i < length es → table_total (drop i es) ≡ length item.1.tables + table_total (drop (i + 1) es)
total_cut es i item is within =
    rw add-one (ap table_total (drop-cons es i item within) ∙ total-cons (get_or es i item) (drop (suc i) es) ∙ ap (λ (e : NodeId × Node). length e.1.tables + table_total (drop (suc i) es)) (sym is))

-- those counted and those to come are all
pub record Counts (es : Trie) (i count : ℕ) : Type 0 where
  pub all : count + table_total (drop i es) ≡ table_total es

pub counts_start : (es : Trie) → Counts es 0 0
counts_start es = record { all = omega arith }

pub counts_next : (es : Trie) (i count : ℕ) (item : NodeId × Node) (tables : List ℕ) → Counts es i count → item ≡ get_or es i item → i < length es → tables ≡ item.1.tables → Counts es (i + 1) (count + length tables)
counts_next es i count item tables s is within piles =
    let few : length tables ≡ length item.1.tables = ap length piles in
    let all : count + table_total (drop i es) ≡ table_total es = s.all in
    record { all = omega (arith, total_cut es i item is within) }

pub counts_few : (es : Trie) (i count : ℕ) (item : NodeId × Node) (tables : List ℕ) → Counts es i count → item ≡ get_or es i item → i < length es → tables ≡ item.1.tables → table_total es ≤ 65536 → count + length tables ≤ 65536
counts_few es i count item tables s is within piles few =
    let same : length tables ≡ length item.1.tables = ap length piles in
    let all : count + table_total (drop i es) ≡ table_total es = s.all in
    omega (arith, total_cut es i item is within)

pub counts_end : (es : Trie) (i count : ℕ) → Counts es i count → length es ≤ i → count ≡ table_total es
counts_end es i count s past =
    let none : table_total (drop i es) ≡ 0 = ap table_total (drop_all i es past) in
    let all : count + table_total (drop i es) ≡ table_total es = s.all in
    omega arith
