-- What a change makes of each node.
use Rattle.std.proofs.Common.{◌≡◌, ℕ, zero, suc, ◌+◌, ◌*◌, ◌<◌, ◌≤◌, refl, sym, ap, ◌∙◌, true, false, cond, ◌&&◌, List, [], ◌∷◌, length, get_or, drop, arith, length-append}
use Rattle.std.specs.Prelude.{◌==◌, nat_le}
use Rattle.std.specs.List.{fold, list_any, All}
use Rattle.std.proofs.lemmas.Bool.{and_parts, eqb-true, ne_eqb, false_from_ne_true, or_parts}
use Rattle.lt_format.specs.declared.node_id.NodeId.{NodeId}
use Rattle.lt_format.specs.Trie.{Node, Trie, root, empty_node, same_node, node_at, with_node, is_last_level, groups_for}
use Rattle.lt_format.specs.Changes.{Change, flush, deal, rewrite, ChildChange, new_extents, are_new, fits, shape_fits, children_fit, appended, child_after, after_child, without_oldest, after_change}
use Rattle.lt_format.proofs.TrieLaws.{same_node-same, node_at-with_node, if_any, if_any-tables, same_node-itself}
use Rattle.lt_format.proofs.ChildLaws.{children_fit-first, child-elsewhere}
use Rattle.lt_node.specs.Changing.{sets}
use Rattle.std.proofs.lemmas.List.{nil_from_length}
use Rattle.lt_format.proofs.KeepLaws.{higher}

some_tables : (n : Node) → 1 ≤ length n.tables → if_any n ≡ n
some_tables n h = ap (λ b. cond b empty_node n) (ne_eqb (length n.tables) 0 (λ e. omega arith))

-- the node that is set, and each other
pub set_here : (trie : Trie) (id : NodeId) (node : Node) → node_at (with_node trie id node) id ≡ if_any node
set_here trie id node = node_at-with_node trie id node id ∙ ap (λ b. cond b (if_any node) (node_at trie id)) (same_node-itself id)

pub set_elsewhere : (trie : Trie) (id : NodeId) (node : Node) (q : NodeId) → same_node q id ≡ false → node_at (with_node trie id node) q ≡ node_at trie q
set_elsewhere trie id node q other = node_at-with_node trie id node q ∙ ap (λ b. cond b (if_any node) (node_at trie q)) other

-- ---- a flush

pub flush_root : (trie : Trie) (tables : List ℕ) → 1 ≤ length tables → node_at (after_change trie (flush tables)) root ≡ appended (node_at trie root) tables
unfolding after_change
flush_root trie tables some = set_here trie root (appended (node_at trie root) tables) ∙ some_tables (appended (node_at trie root) tables) (omega (arith, length-append (node_at trie root).tables tables))

-- ---- a rewriting

pub rewritten_node : (levels : ℕ) (trie : Trie) (node : NodeId) (tables groups : List ℕ) → fits levels trie (rewrite node tables groups) ≡ true → node_at (after_change trie (rewrite node tables groups)) node ≡ record { base = length tables; tables = tables; groups = groups }
unfolding fits after_change
rewritten_node levels trie node tables groups fit =
    let shape = (and_parts (are_new 65536 trie (new_extents (rewrite node tables groups))) (shape_fits levels trie (rewrite node tables groups)) fit).1 in
    let counted = (and_parts (is_last_level levels node && nat_le 1 (length (node_at trie node).tables)) (length groups == groups_for (length tables)) shape).1 in
    set_here trie node (record { base = length tables; tables = tables; groups = groups }) ∙ by_tables tables (eqb-true (length groups) (groups_for (length tables)) counted)
  where
    by_tables : (ts : List ℕ) → length groups ≡ groups_for (length ts) → if_any (record { base = length ts; tables = ts; groups = groups }) ≡ record { base = length ts; tables = ts; groups = groups }
    by_tables [] none = λ i. record { base = 0; tables = []; groups = sym (nil_from_length groups none) i }
    by_tables (t ∷ ts) some = some_tables (record { base = length (t ∷ ts); tables = t ∷ ts; groups = groups }) (omega arith)

-- ---- a deal

pub dealt_node : (trie : Trie) (node : NodeId) (dropped : ℕ) (children : List ChildChange) → (node_at (after_change trie (deal node dropped children)) node).tables ≡ drop dropped (node_at trie node).tables
unfolding after_change
dealt_node trie node dropped children =
    ap (λ (n : Node). n.tables) (set_here (fold after_child trie children) node (without_oldest (node_at trie node) dropped)) ∙ if_any-tables (without_oldest (node_at trie node) dropped)

-- children with lower numbers are no more touched
later_children : (levels : ℕ) (trie now : Trie) (node : NodeId) (from : ℕ) (cs : List ChildChange) (q : NodeId) → q.number < from → children_fit levels trie node from cs ≡ true → node_at (fold after_child now cs) q ≡ node_at now q
later_children levels trie now node from [] q low fit = refl
later_children levels trie now node from (c ∷ cs) q low fit =
    let first = children_fit-first levels trie node from c cs fit in
    let above : from ≤ c.node.number = first.low in
    later_children levels trie (after_child now c) node (c.node.number + 1) cs q (omega arith) first.rest
    ∙ child-elsewhere now c q (λ same. let number : q.number ≡ c.node.number = ap (λ (n : NodeId). n.number) same in omega arith)

child_set : (levels : ℕ) (trie now : Trie) (node : NodeId) (from : ℕ) (cs : List ChildChange) → children_fit levels trie node from cs ≡ true → ((q : NodeId) → from ≤ q.number → node_at now q ≡ node_at trie q)
    → (k : ℕ) (d : ChildChange) → k < length cs → node_at (fold after_child now cs) (get_or cs k d).node ≡ child_after (node_at trie (get_or cs k d).node) (get_or cs k d)
child_set levels trie now node from [] fit same k d within = absurd (omega arith)
child_set levels trie now node from (c ∷ cs) fit same zero d within =
    let first = children_fit-first levels trie node from c cs fit in
    let low : from ≤ c.node.number = first.low in
    let more : 1 ≤ length c.tables = first.tables in
    let after : Node = child_after (node_at now c.node) c in
    later_children levels trie (after_child now c) node (c.node.number + 1) cs c.node (omega arith) first.rest
    ∙ set_here now c.node after ∙ some_tables after (omega (arith, length-append (node_at now c.node).tables c.tables))
    ∙ ap (λ n. child_after n c) (same c.node low)
child_set levels trie now node from (c ∷ cs) fit same (suc k) d within =
    let first = children_fit-first levels trie node from c cs fit in
    let low : from ≤ c.node.number = first.low in
    child_set levels trie (after_child now c) node (c.node.number + 1) cs first.rest (λ q above. child-elsewhere now c q (higher q c.node above) ∙ same q (omega arith)) k d (omega arith)

level_apart : (levels : ℕ) (trie : Trie) (node : NodeId) (from : ℕ) (cs : List ChildChange) → children_fit levels trie node from cs ≡ true → (k : ℕ) (d : ChildChange) → k < length cs → (get_or cs k d).node.level ≡ node.level + 1
level_apart levels trie node from [] fit k d within = absurd (omega arith)
level_apart levels trie node from (c ∷ cs) fit zero d within = (children_fit-first levels trie node from c cs fit).level
level_apart levels trie node from (c ∷ cs) fit (suc k) d within = level_apart levels trie node (c.node.number + 1) cs (children_fit-first levels trie node from c cs fit).rest k d (omega arith)

pub dealt_children : (levels : ℕ) (trie : Trie) (node : NodeId) (dropped : ℕ) (children : List ChildChange) → fits levels trie (deal node dropped children) ≡ true → All (λ c. node_at (after_change trie (deal node dropped children)) c.node ≡ child_after (node_at trie c.node) c) children
unfolding fits after_change
dealt_children levels trie node dropped children fit k d within =
    let shape = (and_parts (are_new 65536 trie (new_extents (deal node dropped children))) (shape_fits levels trie (deal node dropped children)) fit).1 in
    let left : children_fit levels trie node (8 * node.number) children ≡ true = (and_parts _ (children_fit levels trie node (8 * node.number) children) shape).1 in
    let level = level_apart levels trie node (8 * node.number) children left k d within in
    set_elsewhere (fold after_child trie children) node (without_oldest (node_at trie node) dropped) (get_or children k d).node
    (other_level (get_or children k d).node node level)
    ∙ child_set levels trie trie node (8 * node.number) children left (λ q above. refl) k d within
  where
    other_level : (q id : NodeId) → q.level ≡ id.level + 1 → same_node q id ≡ false
    other_level q id deeper = false_from_ne_true (same_node q id) (λ e. let same : q.level ≡ id.level = ap (λ (n : NodeId). n.level) (same_node-same q id e) in omega arith)

-- ---- each other node

unset_children : (now : Trie) (cs : List ChildChange) (q : NodeId) → list_any (λ (c : ChildChange). same_node q c.node) cs ≡ false → node_at (fold after_child now cs) q ≡ node_at now q
unset_children now [] q h = refl
unset_children now (c ∷ cs) q h =
    let parts = or_parts (same_node q c.node) (list_any (λ (c : ChildChange). same_node q c.node) cs) h in
    unset_children (after_child now c) cs q parts.1 ∙ set_elsewhere now c.node (child_after (node_at now c.node) c) q parts.0

pub unset_node : (trie : Trie) (change : Change) (id : NodeId) → sets change id ≡ false → node_at (after_change trie change) id ≡ node_at trie id
unfolding after_change
unset_node trie (flush tables) id h = set_elsewhere trie root (appended (node_at trie root) tables) id h
unset_node trie (deal node dropped children) id h =
    let parts = or_parts (same_node id node) (list_any (λ (c : ChildChange). same_node id c.node) children) h in
    set_elsewhere (fold after_child trie children) node (without_oldest (node_at trie node) dropped) id parts.0 ∙ unset_children trie children id parts.1
unset_node trie (rewrite node tables groups) id h = set_elsewhere trie node (record { base = length tables; tables = tables; groups = groups }) id h
