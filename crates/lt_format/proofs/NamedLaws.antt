-- How often an extent is named after a change.
use Rattle.std.proofs.Common.{◌≡◌, ℕ, ◌+◌, ◌*◌, ◌≤◌, refl, sym, subst, List, [], ◌∷◌, ◌++◌, length, length-append, take, drop, Bool, true, false, not, cond, Option, Some, None, arith}
use Rattle.std.specs.Prelude.{◌==◌}
use Rattle.std.specs.Option.{unwrap_or}
use Rattle.std.specs.declared.cmp.Ordering.{Ordering}
use Rattle.std.specs.declared.cmp.Ordering.TheVariants.{Less, Equal, Greater}
use Rattle.std.specs.Ordering.{is_eq}
use Rattle.std.specs.FinMap.{find, put, is_sorted}
use Rattle.std.specs.FinMap.Entries.{where_key, below_all, by_order}
use Rattle.std.specs.List.{flat_map, fold}
use Rattle.std.proofs.lemmas.Bool.{and_parts, eqb-true}
use Rattle.lt_format.specs.declared.node_id.NodeId.{NodeId}
use Rattle.lt_format.specs.Trie.{Node, Trie, root, node_cmp, same_node, node_at, with_node, node_extents, named, empty_node}
use Rattle.lt_format.specs.Changes.{Change, flush, deal, rewrite, ChildChange, new_extents, shape_fits, children_fit, appended, child_after, after_child, without_oldest, after_change}
use Rattle.lt_format.proofs.Numbers.{times, times-append, times-parts}
use Rattle.lt_format.proofs.ChildLaws.{children-elsewhere}
use Rattle.lt_format.proofs.TrieLaws.{same_node-same, with_node-rising, find-below, below-less, where_key-below}

-- how often the node that was found names x
abbrev pub found_times : ℕ → Option Node → ℕ
found_times x found = times x (node_extents (unwrap_or found empty_node))

named-cons : (x : ℕ) (e : NodeId × Node) (es : Trie) → times x (named (e ∷ es)) ≡ times x (node_extents e.1) + times x (named es)
named-cons x e es = times-append x (node_extents e.1) (named es)

pub put_times : (x : ℕ) (id : NodeId) (node : Node) (es : Trie) → is_sorted node_cmp es ≡ true → times x (named (put node_cmp id node es)) + found_times x (find node_cmp id es) ≡ times x (named es) + times x (node_extents node)
put_times x id node [] h = omega (arith, named-cons x (id, node) [])
put_times x id node (e ∷ es) h = by_head (node_cmp id e.0) refl (put_times x id node es parts.1)
  where
    parts : (below_all node_cmp e.0 es ≡ true) × (is_sorted node_cmp es ≡ true)
    parts = and_parts (below_all node_cmp e.0 es) (is_sorted node_cmp es) h

    by_head : (o : Ordering) → node_cmp id e.0 ≡ o → times x (named (put node_cmp id node es)) + found_times x (find node_cmp id es) ≡ times x (named es) + times x (node_extents node)
        → times x (named (by_order o ((id, node) ∷ e ∷ es) ((e.0, node) ∷ es) (e ∷ put node_cmp id node es))) + found_times x (cond (is_eq o) (Some e.1) (find node_cmp id es)) ≡ times x (named (e ∷ es)) + times x (node_extents node)
    by_head Less before rest =
        let none : find node_cmp id es ≡ None = find-below id es (below-less id e.0 es before parts.0) in
        rw none (omega (arith, named-cons x (id, node) (e ∷ es)))
    by_head Equal same rest = omega (arith, named-cons x (e.0, node) es, named-cons x e es)
    by_head Greater after rest = omega (arith, named-cons x e (put node_cmp id node es), named-cons x e es)

pub gone_times : (x : ℕ) (id : NodeId) (es : Trie) → is_sorted node_cmp es ≡ true → times x (named (where_key node_cmp (λ q. not (same_node id q)) es)) + found_times x (find node_cmp id es) ≡ times x (named es)
gone_times x id [] h = refl
gone_times x id (e ∷ es) h = by_head (same_node id e.0) refl (gone_times x id es parts.1)
  where
    parts : (below_all node_cmp e.0 es ≡ true) × (is_sorted node_cmp es ≡ true)
    parts = and_parts (below_all node_cmp e.0 es) (is_sorted node_cmp es) h

    by_head : (b : Bool) → same_node id e.0 ≡ b → times x (named (where_key node_cmp (λ q. not (same_node id q)) es)) + found_times x (find node_cmp id es) ≡ times x (named es)
        → times x (named (cond (not b) (e ∷ where_key node_cmp (λ q. not (same_node id q)) es) (where_key node_cmp (λ q. not (same_node id q)) es))) + found_times x (cond b (Some e.1) (find node_cmp id es)) ≡ times x (named (e ∷ es))
    by_head true same rest =
        let first : below_all node_cmp id es ≡ true = subst (λ q. below_all node_cmp q es ≡ true) (sym (same_node-same id e.0 same)) parts.0 in
        rw (where_key-below id es first) (omega (arith, named-cons x e es))
    by_head false other rest = omega (arith, named-cons x e es, named-cons x e (where_key node_cmp (λ q. not (same_node id q)) es))

-- the extents of the node before are named no more, and those of the new one are
pub with_node-times : (x : ℕ) (trie : Trie) (id : NodeId) (node : Node) → is_sorted node_cmp trie ≡ true → times x (named (with_node trie id node)) + times x (node_extents (node_at trie id)) ≤ times x (named trie) + times x (node_extents node)
unfolding with_node node_at
with_node-times x trie id node h = by_tables (length node.tables == 0)
  where
    by_tables : (none : Bool) → times x (named (cond none (where_key node_cmp (λ q. not (same_node id q)) trie) (put node_cmp id node trie))) + found_times x (find node_cmp id trie) ≤ times x (named trie) + times x (node_extents node)
    by_tables true = omega (arith, gone_times x id trie h)
    by_tables false = omega (arith, put_times x id node trie h)

-- a flush names its tables beside all that was named
pub flush-times : (x : ℕ) (trie : Trie) (tables : List ℕ) → is_sorted node_cmp trie ≡ true → 1 ≤ length tables → times x (named (after_change trie (flush tables))) ≡ times x (named trie) + times x tables
unfolding after_change with_node node_at
flush-times x trie tables h some = by_tables (length ((unwrap_or (find node_cmp root trie) empty_node).tables ++ tables) == 0) refl
  where
    counted : times x (named (put node_cmp root (appended (unwrap_or (find node_cmp root trie) empty_node) tables) trie)) ≡ times x (named trie) + times x tables
    counted =
        let before : Node = unwrap_or (find node_cmp root trie) empty_node in
        omega (
          arith,
          put_times x root (appended before tables) trie h,
          times-append x (before.tables ++ tables) before.groups,
          times-append x before.tables tables,
          times-append x before.tables before.groups,
        )

    by_tables : (none : Bool) → (length ((unwrap_or (find node_cmp root trie) empty_node).tables ++ tables) == 0) ≡ none
        → times x (named (cond none (where_key node_cmp (λ q. not (same_node root q)) trie) (put node_cmp root (appended (unwrap_or (find node_cmp root trie) empty_node) tables) trie))) ≡ times x (named trie) + times x tables
    by_tables true is = absurd (
        let size : length ((unwrap_or (find node_cmp root trie) empty_node).tables ++ tables) ≡ length (unwrap_or (find node_cmp root trie) empty_node).tables + length tables = length-append (unwrap_or (find node_cmp root trie) empty_node).tables tables in
        let none : length ((unwrap_or (find node_cmp root trie) empty_node).tables ++ tables) ≡ 0 = eqb-true _ 0 is in
        omega (arith, size, none))
    by_tables false is = counted

child-times : (x : ℕ) (trie : Trie) (c : ChildChange) → is_sorted node_cmp trie ≡ true → times x (named (after_child trie c)) ≤ times x (named trie) + times x (c.tables ++ c.groups)
child-times x trie c h =
    let before : Node = node_at trie c.node in
    omega (
      arith,
      with_node-times x trie c.node (child_after before c) h,
      times-append x (before.tables ++ c.tables) (take c.kept_groups before.groups ++ c.groups),
      times-append x before.tables c.tables,
      times-append x (take c.kept_groups before.groups) c.groups,
      times-append x before.tables before.groups,
      times-append x c.tables c.groups,
      times-parts x c.kept_groups before.groups,
    )

pub children-rising : (trie : Trie) (children : List ChildChange) → is_sorted node_cmp trie ≡ true → is_sorted node_cmp (fold after_child trie children) ≡ true
children-rising trie [] h = h
children-rising trie (c ∷ children) h = children-rising (after_child trie c) children (with_node-rising trie c.node (child_after (node_at trie c.node) c) h)

children-times : (x : ℕ) (trie : Trie) (children : List ChildChange) → is_sorted node_cmp trie ≡ true → times x (named (fold after_child trie children)) ≤ times x (named trie) + times x (flat_map (λ (c : ChildChange). c.tables ++ c.groups) children)
children-times x trie [] h = omega arith
children-times x trie (c ∷ children) h =
    omega (
      arith,
      child-times x trie c h,
      children-times x (after_child trie c) children (with_node-rising trie c.node (child_after (node_at trie c.node) c) h),
      times-append x (c.tables ++ c.groups) (flat_map (λ (c : ChildChange). c.tables ++ c.groups) children),
    )

pub inner_levels : (l : ℕ) → l ≡ l + 1 → ⊥
inner_levels l e = omega arith

-- what is named after a change was named before or is new
pub after_change-times : (x levels : ℕ) (trie : Trie) (change : Change) → is_sorted node_cmp trie ≡ true → shape_fits levels trie change ≡ true → times x (named (after_change trie change)) ≤ times x (named trie) + times x (new_extents change)
unfolding after_change
after_change-times x levels trie (flush tables) h fit =
    let before : Node = node_at trie root in
    omega (
      arith,
      with_node-times x trie root (appended before tables) h,
      times-append x (before.tables ++ tables) before.groups,
      times-append x before.tables tables,
      times-append x before.tables before.groups,
    )
after_change-times x levels trie (deal node dropped children) h fit =
    let dealt : Trie = fold after_child trie children in
    let before : Node = node_at trie node in
    let left : children_fit levels trie node (8 * node.number) children ≡ true = (and_parts _ (children_fit levels trie node (8 * node.number) children) fit).1 in
    let same : node_at dealt node ≡ before = children-elsewhere levels trie trie node (8 * node.number) children node (inner_levels node.level) left in
    let given = rw same at (with_node-times x dealt node (without_oldest before dropped) (children-rising trie children h)) in
    omega (
      arith,
      given,
      children-times x trie children h,
      times-append x (drop dropped before.tables) before.groups,
      times-append x before.tables before.groups,
      times-parts x dropped before.tables,
    )
after_change-times x levels trie (rewrite node tables groups) h fit = omega (arith, with_node-times x trie node (record { base = length tables; tables = tables; groups = groups }) h)

-- and the nodes rise
pub after_change-rising : (trie : Trie) (change : Change) → is_sorted node_cmp trie ≡ true → is_sorted node_cmp (after_change trie change) ≡ true
unfolding after_change
after_change-rising trie (flush tables) h = with_node-rising trie root _ h
after_change-rising trie (deal node dropped children) h = with_node-rising (fold after_child trie children) node _ (children-rising trie children h)
after_change-rising trie (rewrite node tables groups) h = with_node-rising trie node _ h
