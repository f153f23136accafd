-- A change that fits a trie leaves a trie.
use Rattle.std.proofs.Common.{◌≡◌, ℕ, ◌+◌, ◌*◌, ◌/◌, ◌^◌, ◌<◌, ◌≤◌, refl, sym, ap, subst, ◌∙◌, List, [], ◌∷◌, ◌++◌, length, take, Bool, true, false, not, arith, length-append}
use Rattle.std.specs.Prelude.{◌==◌, nat_le, nat_lt}
use Rattle.std.specs.List.{fold, list_all}
use Rattle.std.proofs.Math.Nat.{pow-suc}
use Rattle.std.proofs.lemmas.List.{length-take-le}
use Rattle.std.proofs.lemmas.Bool.{and_parts, and_from, eqb-true, leb-true, ltb-true, lt-ltb, ne_eqb, eqb-false, not-true}
use Rattle.lt_terms.specs.Bytes.{is_in}
use Rattle.lt_format.specs.declared.node_id.NodeId.{NodeId}
use Rattle.lt_format.specs.Trie.{Node, Trie, root, node_at, with_node, node_extents, named, is_node, is_last_level, is_shaped, groups_for, all_distinct, all_below, IsTrie}
use Rattle.lt_format.specs.Changes.{Change, flush, deal, rewrite, ChildChange, new_extents, are_new, fits, shape_fits, groups_fit, children_fit, appended, child_after, after_child, without_oldest, after_change}
use Rattle.lt_format.proofs.Numbers.{times, times-append, times-distinct, distinct-times, times-below, below-times, length-distinct, distinct-joined, below-joined}
use Rattle.lt_format.proofs.TrieLaws.{with_node-rising}
use Rattle.lt_format.proofs.NamedLaws.{with_node-times, after_change-times, after_change-rising}
use Rattle.lt_format.proofs.ChildLaws.{IsFirstChild, children_fit-first, child-elsewhere}
use Rattle.lt_format.proofs.ShapeLaws.{is_fine, inner-shaped, shaped-inner, last-shaped, shaped-last, node_at-shaped, node_at-node, with_node-fine}

-- ---- the children of a deal

child-shaped : (levels extents : ℕ) (n : Node) (c : ChildChange) → is_shaped levels extents c.node n ≡ true → groups_fit (is_last_level levels c.node) (length n.tables) c ≡ true → is_shaped levels extents c.node (child_after n c) ≡ true
child-shaped levels extents n c h fit = by_level (is_last_level levels c.node) refl fit
  where
    by_level : (b : Bool) → is_last_level levels c.node ≡ b → groups_fit b (length n.tables) c ≡ true → is_shaped levels extents c.node (child_after n c) ≡ true
    by_level true last fit =
        let before = shaped-last levels extents c.node n last h in
        let parts = and_parts (c.kept_groups == length n.tables / 64) (c.kept_groups + length c.groups == groups_for (length n.tables + length c.tables)) fit in
        let kept : c.kept_groups ≡ length n.tables / 64 = eqb-true _ _ parts.0 in
        let whole : c.kept_groups + length c.groups ≡ groups_for (length n.tables + length c.tables) = eqb-true _ _ parts.1 in
        let stay : length (take c.kept_groups n.groups) ≡ c.kept_groups = length-take-le c.kept_groups n.groups (omega arith) in
        last-shaped levels extents c.node (child_after n c) last before.0
        (length-append (take c.kept_groups n.groups) c.groups ∙ ap (λ k. k + length c.groups) stay ∙ whole ∙ ap groups_for (sym (length-append n.tables c.tables)))
    by_level false inner fit =
        let before = shaped-inner levels extents c.node n inner h in
        let parts = and_parts (c.kept_groups == 0) (length c.groups == 0) fit in
        let kept : c.kept_groups ≡ 0 = eqb-true _ _ parts.0 in
        let new : length c.groups ≡ 0 = eqb-true _ _ parts.1 in
        inner-shaped levels extents c.node (child_after n c) inner before.0 (ap (λ k. length (take k n.groups ++ c.groups)) kept ∙ new)

child_small : (level number child : ℕ) → number < 8 ^ level → child < 8 * number + 8 → child < 8 ^ (level + 1)
child_small level number child small high =
    let up : 8 ^ (level + 1) ≡ 8 ^ level * 8 = ap (λ k. 8 ^ k) (omega arith) ∙ pow-suc 8 level in
    omega (arith, up)

child-node : (levels : ℕ) (trie : Trie) (node : NodeId) (from : ℕ) (c : ChildChange) (cs : List ChildChange) → is_node levels node ≡ true → is_last_level levels node ≡ false → IsFirstChild levels trie node from c cs → is_node levels c.node ≡ true
child-node levels trie node from c cs there inner first =
    let parts = and_parts (nat_lt node.level levels) (nat_lt node.number (8 ^ node.level)) there in
    let level : node.level < levels = ltb-true _ _ parts.0 in
    let deeper : node.level + 1 ≡ levels → ⊥ = eqb-false _ _ inner in
    let number : c.node.number < 8 ^ c.node.level = subst (λ l. c.node.number < 8 ^ l) (sym first.level) (child_small node.level node.number c.node.number (ltb-true _ _ parts.1) first.high) in
    let below : c.node.level < levels = let up : c.node.level ≡ node.level + 1 = first.level in omega arith in
    and_from (nat_lt c.node.level levels) (nat_lt c.node.number (8 ^ c.node.level)) (lt-ltb _ _ below) (lt-ltb _ _ number)

pub higher : (q id : NodeId) → id.number + 1 ≤ q.number → q ≡ id → ⊥
higher q id above same = let number : q.number ≡ id.number = ap (λ (n : NodeId). n.number) same in omega arith

children-fine : (levels extents : ℕ) (trie now : Trie) (node : NodeId) (from : ℕ) (cs : List ChildChange) → is_node levels node ≡ true → is_last_level levels node ≡ false → children_fit levels trie node from cs ≡ true
    → ((q : NodeId) → from ≤ q.number → node_at now q ≡ node_at trie q) → list_all (is_fine levels extents) now ≡ true → list_all (is_fine levels extents) (fold after_child now cs) ≡ true
children-fine levels extents trie now node from [] there inner fit same h = h
children-fine levels extents trie now node from (c ∷ cs) there inner fit same h =
    let first = children_fit-first levels trie node from c cs fit in
    let low : from ≤ c.node.number = first.low in
    let before : Node = node_at now c.node in
    let groups : groups_fit (is_last_level levels c.node) (length before.tables) c ≡ true = subst (λ (n : Node). groups_fit (is_last_level levels c.node) (length n.tables) c ≡ true) (sym (same c.node low)) first.groups in
    children-fine levels extents trie (after_child now c) node (c.node.number + 1) cs there inner first.rest
    (λ q above. child-elsewhere now c q (higher q c.node above) ∙ same q (omega arith))
    (with_node-fine levels extents now c.node (child_after before c) h (child-node levels trie node from c cs there inner first) (child-shaped levels extents before c (node_at-shaped levels extents now c.node h) groups))

-- ---- all nodes after a change

flush-fine : (levels extents : ℕ) (trie : Trie) (tables : List ℕ) → 2 ≤ levels → list_all (is_fine levels extents) trie ≡ true → list_all (is_fine levels extents) (with_node trie root (appended (node_at trie root) tables)) ≡ true
flush-fine levels extents trie tables deep h =
    let inner : is_last_level levels root ≡ false = ne_eqb (0 + 1) levels (λ e. omega arith) in
    let before = shaped-inner levels extents root (node_at trie root) inner (node_at-shaped levels extents trie root h) in
    with_node-fine levels extents trie root (appended (node_at trie root) tables) h
    (and_from (nat_lt 0 levels) (nat_lt 0 (8 ^ 0)) (lt-ltb 0 levels (omega arith)) refl)
    (inner-shaped levels extents root (appended (node_at trie root) tables) inner before.0 before.1)

deal-fine : (levels extents : ℕ) (trie : Trie) (node : NodeId) (dropped : ℕ) (children : List ChildChange) → shape_fits levels trie (deal node dropped children) ≡ true → list_all (is_fine levels extents) trie ≡ true
    → list_all (is_fine levels extents) (with_node (fold after_child trie children) node (without_oldest (node_at trie node) dropped)) ≡ true
deal-fine levels extents trie node dropped children fit h =
    let d = and_parts _ (children_fit levels trie node (8 * node.number) children) fit in
    let c = and_parts _ (nat_le dropped (length (node_at trie node).tables)) d.0 in
    let b = and_parts _ (nat_le 1 dropped) c.0 in
    let a = and_parts (is_node levels node) (not (is_last_level levels node)) b.0 in
    let inner : is_last_level levels node ≡ false = not-true _ a.1 in
    let before = shaped-inner levels extents node (node_at trie node) inner (node_at-shaped levels extents trie node h) in
    with_node-fine levels extents (fold after_child trie children) node (without_oldest (node_at trie node) dropped)
    (children-fine levels extents trie trie node (8 * node.number) children a.0 inner d.1 (λ q above. refl) h)
    a.0
    (inner-shaped levels extents node (without_oldest (node_at trie node) dropped) inner before.0 before.1)

front-distinct : (xs ys : List ℕ) → all_distinct (xs ++ ys) ≡ true → all_distinct xs ≡ true
front-distinct xs ys h = distinct-times xs (λ x. omega (arith, times-distinct (xs ++ ys) h x, times-append x xs ys))

front-below : (n : ℕ) (xs ys : List ℕ) → all_below n (xs ++ ys) ≡ true → all_below n xs ≡ true
front-below n xs ys h = below-times n xs (λ x past. omega (arith, times-below n (xs ++ ys) h x past, times-append x xs ys))

rewrite-fine : (levels extents : ℕ) (trie : Trie) (node : NodeId) (tables groups : List ℕ) → shape_fits levels trie (rewrite node tables groups) ≡ true → all_distinct (tables ++ groups) ≡ true → all_below extents (tables ++ groups) ≡ true → list_all (is_fine levels extents) trie ≡ true
    → list_all (is_fine levels extents) (with_node trie node (record { base = length tables; tables = tables; groups = groups })) ≡ true
rewrite-fine levels extents trie node tables groups fit distinct below h =
    let b = and_parts _ (length groups == groups_for (length tables)) fit in
    let a = and_parts (is_last_level levels node) (nat_le 1 (length (node_at trie node).tables)) b.0 in
    with_node-fine levels extents trie node (record { base = length tables; tables = tables; groups = groups }) h
    (node_at-node levels extents trie node h (leb-true _ _ a.1))
    (last-shaped levels extents node (record { base = length tables; tables = tables; groups = groups }) a.0 (length-distinct extents tables (front-distinct tables groups distinct) (front-below extents tables groups below)) (eqb-true _ _ b.1))

after_change-fine : (levels extents : ℕ) (trie : Trie) (change : Change) → 2 ≤ levels → shape_fits levels trie change ≡ true → all_distinct (new_extents change) ≡ true → all_below extents (new_extents change) ≡ true → list_all (is_fine levels extents) trie ≡ true → list_all (is_fine levels extents) (after_change trie change) ≡ true
unfolding after_change
after_change-fine levels extents trie (flush tables) deep fit distinct below h = flush-fine levels extents trie tables deep h
after_change-fine levels extents trie (deal node dropped children) deep fit distinct below h = deal-fine levels extents trie node dropped children fit h
after_change-fine levels extents trie (rewrite node tables groups) deep fit distinct below h = rewrite-fine levels extents trie node tables groups fit distinct below h

-- ---- the trie

pub after_change-trie : (levels extents : ℕ) (trie : Trie) (change : Change) → 2 ≤ levels → IsTrie levels extents trie → fits levels trie change ≡ true → all_below extents (new_extents change) ≡ true → IsTrie levels extents (after_change trie change)
unfolding fits
after_change-trie levels extents trie change deep t fit below =
    let parts = and_parts (are_new 65536 trie (new_extents change)) (shape_fits levels trie change) fit in
    let fresh = and_parts _ (list_all (λ x. not (is_in x (named trie))) (new_extents change)) parts.0 in
    let distinct = and_parts (all_distinct (new_extents change)) (all_below 65536 (new_extents change)) fresh.0 in
    let bound = λ (x : ℕ). after_change-times x levels trie change t.rising parts.1 in
    record {
      rising = after_change-rising trie change t.rising;
      nodes = after_change-fine levels extents trie change deep parts.1 distinct.0 below t.nodes;
      distinct = distinct-joined (named trie) (new_extents change) (named (after_change trie change)) t.distinct distinct.0 fresh.1 bound;
      below = below-joined extents (named trie) (new_extents change) (named (after_change trie change)) t.below below bound;
    }

-- a node may be set to new extents
pub set-trie : (levels extents : ℕ) (trie : Trie) (id : NodeId) (node : Node) → IsTrie levels extents trie → is_node levels id ≡ true → is_shaped levels extents id node ≡ true → are_new extents trie (node_extents node) ≡ true → IsTrie levels extents (with_node trie id node)
set-trie levels extents trie id node t there shaped new =
    let fresh = and_parts _ (list_all (λ x. not (is_in x (named trie))) (node_extents node)) new in
    let distinct = and_parts (all_distinct (node_extents node)) (all_below extents (node_extents node)) fresh.0 in
    let bound : (x : ℕ) → times x (named (with_node trie id node)) ≤ times x (named trie) + times x (node_extents node) = λ x. omega (arith, with_node-times x trie id node t.rising) in
    record {
      rising = with_node-rising trie id node t.rising;
      nodes = with_node-fine levels extents trie id node t.nodes there shaped;
      distinct = distinct-joined (named trie) (node_extents node) (named (with_node trie id node)) t.distinct distinct.0 fresh.1 bound;
      below = below-joined extents (named trie) (node_extents node) (named (with_node trie id node)) t.below distinct.1 bound;
    }
