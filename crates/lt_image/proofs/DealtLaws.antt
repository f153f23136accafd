-- What a deal gives each node, and the piles of the trie after a deal and a rewriting.
use Rattle.std.proofs.Common.{◌≡◌, ℕ, suc, ◌+◌, ◌*◌, ◌<◌, ◌≤◌, refl, sym, ap, subst, ◌∙◌, List, [], ◌∷◌, ◌++◌, length, drop, true, false, Bool, cond, arith, append-nil, append_assoc}
use Rattle.std.specs.List.{flat_map, fold, AllByRecursion}
use Rattle.lt_terms.specs.Hashes.{key_digit}
use Rattle.lt_format.specs.declared.node_id.NodeId.{NodeId}
use Rattle.lt_format.specs.Trie.{Trie, path, path_number, same_node, node_at}
use Rattle.lt_format.specs.Changes.{ChildChange, deal, rewrite, child_after, after_child, without_oldest, after_change, children_fit}
use Rattle.lt_format.proofs.ChildLaws.{children_fit-first}
use Rattle.lt_format.proofs.TrieLaws.{same_node-same}
use Rattle.lt_image.proofs.ChangeLaws.{tables-with_node}

-- what a deal gives a node
abbrev pub dealt_to : List ChildChange → NodeId → List ℕ
dealt_to children q = flat_map (λ (c : ChildChange). cond (same_node q c.node) c.tables []) children

child_step : (trie : Trie) (c : ChildChange) (q : NodeId) (same : Bool) → same_node q c.node ≡ same → cond same ((node_at trie c.node).tables ++ c.tables) (node_at trie q).tables ≡ (node_at trie q).tables ++ cond same c.tables []
child_step trie c q true e = ap (λ id. (node_at trie id).tables ++ c.tables) (sym (same_node-same q c.node e))
child_step trie c q false e = sym (append-nil (node_at trie q).tables)

pub tables-after_children : (trie : Trie) (children : List ChildChange) (q : NodeId) → (node_at (fold after_child trie children) q).tables ≡ (node_at trie q).tables ++ dealt_to children q
tables-after_children trie [] q = sym (append-nil (node_at trie q).tables)
tables-after_children trie (c ∷ children) q =
    tables-after_children (after_child trie c) children q
    ∙ ap (λ xs. xs ++ dealt_to children q) (tables-with_node trie c.node (child_after (node_at trie c.node) c) q ∙ child_step trie c q (same_node q c.node) refl)
    ∙ append_assoc (node_at trie q).tables (cond (same_node q c.node) c.tables []) (dealt_to children q)

pub tables-deal : (trie : Trie) (id : NodeId) (dropped : ℕ) (children : List ChildChange) (q : NodeId)
    → (node_at (after_change trie (deal id dropped children)) q).tables ≡ cond (same_node q id) (drop dropped (node_at trie id).tables) ((node_at trie q).tables ++ dealt_to children q)
unfolding after_change
tables-deal trie id dropped children q =
    tables-with_node (fold after_child trie children) id (without_oldest (node_at trie id) dropped) q
    ∙ ap (λ (xs : List ℕ). cond (same_node q id) (drop dropped (node_at trie id).tables) xs) (tables-after_children trie children q)

pub tables-rewrite : (trie : Trie) (id : NodeId) (tables groups : List ℕ) (q : NodeId) → (node_at (after_change trie (rewrite id tables groups)) q).tables ≡ cond (same_node q id) tables (node_at trie q).tables
unfolding after_change
tables-rewrite trie id tables groups q = tables-with_node trie id (record { base = length tables; tables = tables; groups = groups }) q

-- ---- the children of a node

pub record IsChild (id q : NodeId) : Type 0 where
  pub level : q.level ≡ id.level + 1
  pub low : 8 * id.number ≤ q.number
  pub high : q.number < 8 * id.number + 8

pub children_fit-children : (levels : ℕ) (trie : Trie) (id : NodeId) (from : ℕ) (children : List ChildChange) → 8 * id.number ≤ from → children_fit levels trie id from children ≡ true → AllByRecursion (λ (c : ChildChange). IsChild id c.node) children
children_fit-children levels trie id from [] low h = tt
children_fit-children levels trie id from (c ∷ cs) low h =
    let f = children_fit-first levels trie id from c cs h in
    let at_least : from ≤ c.node.number = f.low in
    (record { level = f.level; low = omega arith; high = f.high }, children_fit-children levels trie id (c.node.number + 1) cs (omega arith) f.rest)

no_child_step : (q : NodeId) (c : ChildChange) (same : Bool) → same_node q c.node ≡ same → (q ≡ c.node → ⊥) → cond same c.tables [] ≡ []
no_child_step q c true e none = absurd (none (same_node-same q c.node e))
no_child_step q c false e none = refl

-- a node that is no child gets nothing
pub dealt_to-none : (id : NodeId) (children : List ChildChange) (q : NodeId) → AllByRecursion (λ (c : ChildChange). IsChild id c.node) children → (IsChild id q → ⊥) → dealt_to children q ≡ []
dealt_to-none id [] q all none = refl
dealt_to-none id (c ∷ children) q all none =
    ap (λ xs. xs ++ dealt_to children q) (no_child_step q c (same_node q c.node) refl (λ e. none (subst (IsChild id) (sym e) all.0)))
    ∙ dealt_to-none id children q all.1 none

-- ---- paths
pub path_number-suc : (key : List ℕ) (level : ℕ) → path_number key (suc level) ≡ 8 * path_number key level + key_digit key level
unfolding path_number
path_number-suc key level = refl

pub digit_small : (key : List ℕ) (level : ℕ) → key_digit key level < 8
digit_small key level = omega arith

-- the parent of a node on a path is on the path
pub path-parent : (key : List ℕ) (level : ℕ) (id : NodeId) → IsChild id (path key (suc level)) → path key level ≡ id
path-parent key level id c =
    let up : suc level ≡ id.level + 1 = c.level in
    let e : path_number key (suc level) ≡ 8 * path_number key level + key_digit key level = path_number-suc key level in
    let small : key_digit key level < 8 = digit_small key level in
    let low : 8 * id.number ≤ path_number key (suc level) = c.low in
    let high : path_number key (suc level) < 8 * id.number + 8 = c.high in
    let levels : level ≡ id.level = omega arith in
    let numbers : path_number key level ≡ id.number = omega arith in
    λ i. record { level = levels i; number = numbers i }
