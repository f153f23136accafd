-- The extents that a change frees: those that are named after it and those, are the named ones before it and the new ones.
use Rattle.std.proofs.Common.{◌≡◌, ℕ, ◌+◌, ◌*◌, ◌<◌, ◌≤◌, refl, sym, ap, ◌∙◌, List, [], ◌∷◌, ◌++◌, length, length-append, take, drop, Bool, true, false, not, cond, ◌&&◌, ◌||◌, ◌⊎◌, ⊎_elim, Some, arith, true≢false}
use Rattle.std.specs.Prelude.{◌==◌, nat_le}
use Rattle.std.specs.Option.{unwrap_or}
use Rattle.std.specs.FinMap.{find, put, is_sorted}
use Rattle.std.specs.FinMap.Entries.{where_key}
use Rattle.std.specs.List.{flat_map, fold, list_all, AllByRecursion}
use Rattle.std.proofs.lemmas.Bool.{and_parts, eqb-true, eq-eqb, ne_eqb, not-true}
use Rattle.lt_terms.specs.Bytes.{is_in}
use Rattle.lt_format.specs.declared.node_id.NodeId.{NodeId}
use Rattle.lt_format.proofs.ShapeLaws.{node_at-shaped, shaped-inner}
use Rattle.lt_format.specs.Trie.{IsTrie, all_below, all_distinct, is_last_level, is_node, Node, Trie, root, node_cmp, same_node, node_at, with_node, node_extents, named, empty_node, groups_for}
use Rattle.lt_format.specs.Changes.{are_new, fits, Change, flush, deal, rewrite, ChildChange, new_extents, shape_fits, children_fit, appended, child_after, after_child, without_oldest, after_change, freed}
use Rattle.lt_format.proofs.Numbers.{times, times-append, times-parts, times-distinct, times-apart, times-absent, absent-times, distinct-times}
use Rattle.lt_tables.proofs.ListLaws.{all_drop, all_join, all_left, all_right, all_take}
use Rattle.lt_format.proofs.ChildLaws.{children_fit-first, children-elsewhere, child-elsewhere}
use Rattle.lt_format.proofs.NamedLaws.{found_times, put_times, gone_times, children-rising, inner_levels}
use Rattle.lt_format.proofs.TrieLaws.{with_node-rising}

pub no_list : (xs : List ℕ) → (length xs == 0) ≡ true → xs ≡ []
no_list [] h = refl
no_list (x ∷ xs) h = let e : length (x ∷ xs) ≡ 0 = eqb-true (length (x ∷ xs)) 0 h in absurd (omega arith)

-- a node that names nothing without tables: its extents are named in place of those before
pub with_node-exact : (x : ℕ) (trie : Trie) (id : NodeId) (node : Node) → is_sorted node_cmp trie ≡ true → (node.tables ≡ [] → node.groups ≡ []) → times x (named (with_node trie id node)) + times x (node_extents (node_at trie id)) ≡ times x (named trie) + times x (node_extents node)
unfolding with_node node_at
with_node-exact x trie id node h bare = by_tables (length node.tables == 0) refl
  where
    by_tables : (none : Bool) → (length node.tables == 0) ≡ none → times x (named (cond none (where_key node_cmp (λ q. not (same_node id q)) trie) (put node_cmp id node trie))) + found_times x (find node_cmp id trie) ≡ times x (named trie) + times x (node_extents node)
    by_tables true is =
        let tables : node.tables ≡ [] = no_list node.tables is in
        let nothing : times x (node_extents node) ≡ 0 = (λ i. times x (tables i ++ bare tables i)) in
        omega (arith, gone_times x id trie h, nothing)
    by_tables false is = omega (arith, put_times x id node trie h)

-- ---- children

freed_of : Trie → List ChildChange → List ℕ
freed_of trie children = flat_map (λ (c : ChildChange). drop c.kept_groups (node_at trie c.node).groups) children

apart_freed : (levels : ℕ) (trie now : Trie) (node : NodeId) (c : ChildChange) (from : ℕ) (cs : List ChildChange) → c.node.number < from → children_fit levels trie node from cs ≡ true → freed_of (after_child now c) cs ≡ freed_of now cs
unfolding freed_of
apart_freed levels trie now node c from [] low h = refl
apart_freed levels trie now node c from (d ∷ cs) low h =
    let f = children_fit-first levels trie node from d cs h in
    let at_least : from ≤ d.node.number = f.low in
    (λ i. drop d.kept_groups (child-elsewhere now c d.node (λ same. other at_least (ap (λ (q : NodeId). q.number) same)) i).groups ++ apart_freed levels trie now node c (d.node.number + 1) cs (omega arith) f.rest i)
  where
    other : from ≤ d.node.number → d.node.number ≡ c.node.number → ⊥
    other low_d e = omega arith

child_exact : (x : ℕ) (trie : Trie) (c : ChildChange) → is_sorted node_cmp trie ≡ true → 1 ≤ length c.tables → times x (named (after_child trie c)) + times x (drop c.kept_groups (node_at trie c.node).groups) ≡ times x (named trie) + times x (c.tables ++ c.groups)
child_exact x trie c h some =
    let before : Node = node_at trie c.node in
    omega (
      arith,
      with_node-exact x trie c.node (child_after before c) h (λ none. absurd (full none)),
      times-append x (before.tables ++ c.tables) (take c.kept_groups before.groups ++ c.groups),
      times-append x before.tables c.tables,
      times-append x (take c.kept_groups before.groups) c.groups,
      times-append x before.tables before.groups,
      times-append x c.tables c.groups,
      times-parts x c.kept_groups before.groups,
    )
  where
    full : (node_at trie c.node).tables ++ c.tables ≡ [] → ⊥
    full none =
        let zero_len : length ((node_at trie c.node).tables ++ c.tables) ≡ 0 = ap length none in
        let size = length-append (node_at trie c.node).tables c.tables in
        omega (arith, zero_len, size)

children_exact : (x levels : ℕ) (trie now : Trie) (node : NodeId) (from : ℕ) (children : List ChildChange) → is_sorted node_cmp now ≡ true → children_fit levels trie node from children ≡ true
    → times x (named (fold after_child now children)) + times x (freed_of now children) ≡ times x (named now) + times x (flat_map (λ (c : ChildChange). c.tables ++ c.groups) children)
unfolding freed_of
children_exact x levels trie now node from [] h fit = omega arith
children_exact x levels trie now node from (c ∷ children) h fit =
    let f = children_fit-first levels trie node from c children fit in
    let same : freed_of (after_child now c) children ≡ freed_of now children = apart_freed levels trie now node c (c.node.number + 1) children (omega arith) f.rest in
    let counted : times x (freed_of (after_child now c) children) ≡ times x (freed_of now children) = ap (times x) same in
    omega (
      arith,
      counted,
      child_exact x now c h f.tables,
      children_exact x levels trie (after_child now c) node (c.node.number + 1) children (with_node-rising now c.node (child_after (node_at now c.node) c) h) f.rest,
      times-append x (c.tables ++ c.groups) (flat_map (λ (c : ChildChange). c.tables ++ c.groups) children),
      times-append x (drop c.kept_groups (node_at now c.node).groups) (freed_of now children),
    )

-- ---- a change

no_groups : (groups tables : List ℕ) → (length groups == groups_for (length tables)) ≡ true → tables ≡ [] → groups ≡ []
no_groups groups tables h none =
    let count : length groups ≡ groups_for (length tables) = eqb-true _ _ h in
    let zero_len : length tables ≡ 0 = ap length none in
    nothing groups (omega arith)
  where
    nothing : (xs : List ℕ) → length xs ≡ 0 → xs ≡ []
    nothing [] h = refl
    nothing (x ∷ xs) h = absurd (omega arith)

-- WHAT A CHANGE FREES: each extent is named after it and freed as often as it was named before and is new
pub change-frees : (x levels : ℕ) (trie : Trie) (change : Change) → is_sorted node_cmp trie ≡ true → shape_fits levels trie change ≡ true → ((node : NodeId) (dropped : ℕ) (children : List ChildChange) → change ≡ deal node dropped children → (node_at trie node).groups ≡ [])
    → (node_at trie root).groups ≡ [] → times x (named (after_change trie change)) + times x (freed trie change) ≡ times x (named trie) + times x (new_extents change)
unfolding after_change freed_of
change-frees x levels trie (flush tables) h fit bare root_bare =
    let before : Node = node_at trie root in
    let none : times x (freed trie (flush tables)) ≡ 0 = refl in
    omega (
      arith,
      none,
      with_node-exact x trie root (appended before tables) h (λ empty. root_bare),
      times-append x (before.tables ++ tables) before.groups,
      times-append x before.tables tables,
      times-append x before.tables before.groups,
    )
change-frees x levels trie (deal node dropped children) h fit bare root_bare =
    let dealt : Trie = fold after_child trie children in
    let before : Node = node_at trie node in
    let left : children_fit levels trie node (8 * node.number) children ≡ true = (and_parts _ (children_fit levels trie node (8 * node.number) children) fit).1 in
    let same : node_at dealt node ≡ before = children-elsewhere levels trie trie node (8 * node.number) children node (inner_levels node.level) left in
    let given = rw same at (with_node-exact x dealt node (without_oldest before dropped) (children-rising trie children h) (λ empty. bare node dropped children refl)) in
    omega (
      arith,
      given,
      children_exact x levels trie trie node (8 * node.number) children h left,
      times-append x (drop dropped before.tables) before.groups,
      times-append x before.tables before.groups,
      times-parts x dropped before.tables,
      times-append x (take dropped before.tables) (freed_of trie children),
    )
change-frees x levels trie (rewrite node tables groups) h fit bare root_bare =
    with_node-exact x trie node (record { base = length tables; tables = tables; groups = groups }) h (no_groups groups tables (and_parts _ (length groups == groups_for (length tables)) fit).1)

-- ---- membership

found_all : (P : ℕ → Type 0) (id : NodeId) (e : NodeId × Node) (es : Trie) (same : Bool) → AllByRecursion P (node_extents e.1) → AllByRecursion P (node_extents (unwrap_or (find node_cmp id es) empty_node)) → AllByRecursion P (node_extents (unwrap_or (cond same (Some e.1) (find node_cmp id es)) empty_node))
found_all P id e es true here rest = here
found_all P id e es false here rest = rest

node_all : (P : ℕ → Type 0) (id : NodeId) (trie : Trie) → AllByRecursion P (named trie) → AllByRecursion P (node_extents (unwrap_or (find node_cmp id trie) empty_node))
node_all P id [] all = tt
node_all P id (e ∷ es) all = found_all P id e es (same_node id e.0) (all_left P (node_extents e.1) (named es) all) (node_all P id es (all_right P (node_extents e.1) (named es) all))

-- what holds of all named extents holds of those of each node
pub named-extents : (P : ℕ → Type 0) (trie : Trie) (id : NodeId) → AllByRecursion P (named trie) → AllByRecursion P (node_extents (node_at trie id))
unfolding node_at
named-extents P trie id all = node_all P id trie all

given_all : (P : ℕ → Type 0) (trie : Trie) (children : List ChildChange) → AllByRecursion P (named trie) → AllByRecursion P (freed_of trie children)
unfolding freed_of
given_all P trie [] all = tt
given_all P trie (c ∷ children) all =
    all_join P (drop c.kept_groups (node_at trie c.node).groups) (freed_of trie children)
    (all_drop P c.kept_groups (node_at trie c.node).groups (all_right P (node_at trie c.node).tables (node_at trie c.node).groups (named-extents P trie c.node all))) (given_all P trie children all)

-- what holds of all named extents holds of those that a change frees
pub freed-named : (P : ℕ → Type 0) (trie : Trie) (change : Change) → AllByRecursion P (named trie) → AllByRecursion P (freed trie change)
unfolding freed_of
freed-named P trie (flush tables) all = tt
freed-named P trie (deal node dropped children) all =
    all_join P (take dropped (node_at trie node).tables) (freed_of trie children)
    (all_take P dropped (node_at trie node).tables (all_left P (node_at trie node).tables (node_at trie node).groups (named-extents P trie node all))) (given_all P trie children all)
freed-named P trie (rewrite node tables groups) all = named-extents P trie node all

-- an extent that is not named is not freed
unnamed : (x : ℕ) (xs : List ℕ) → times x xs ≡ 0 → AllByRecursion (λ y. y ≡ x → ⊥) xs
unnamed x [] h = tt
unnamed x (y ∷ ys) h = by_head (y == x) refl h (unnamed x ys)
  where
    by_head : (b : Bool) → (y == x) ≡ b → cond b 1 0 + times x ys ≡ 0 → (times x ys ≡ 0 → AllByRecursion (λ z. z ≡ x → ⊥) ys) → AllByRecursion (λ z. z ≡ x → ⊥) (y ∷ ys)
    by_head true e h ih = absurd (omega arith)
    by_head false e h ih = ((λ same. absurd (true≢false (sym (eq-eqb y x same) ∙ e))), ih (omega arith))

never : (x : ℕ) (xs : List ℕ) → AllByRecursion (λ y. y ≡ x → ⊥) xs → times x xs ≡ 0
never x [] all = refl
never x (y ∷ ys) all = by_head (y == x) refl (never x ys all.1)
  where
    by_head : (b : Bool) → (y == x) ≡ b → times x ys ≡ 0 → cond b 1 0 + times x ys ≡ 0
    by_head true e rest = absurd (all.0 (eqb-true y x e))
    by_head false e rest = omega arith

present : (x : ℕ) (xs : List ℕ) → is_in x xs ≡ true → 1 ≤ times x xs
present x [] h = absurd (true≢false (sym h))
present x (y ∷ ys) h = by_head (y == x) (present x ys) h
  where
    by_head : (b : Bool) → (is_in x ys ≡ true → 1 ≤ times x ys) → (b || is_in x ys) ≡ true → 1 ≤ cond b 1 0 + times x ys
    by_head true rest h = omega arith
    by_head false rest h = omega (arith, rest h)

there : (x : ℕ) (xs : List ℕ) → 1 ≤ times x xs → is_in x xs ≡ true
there x xs some = by_test (is_in x xs) refl
  where
    by_test : (b : Bool) → is_in x xs ≡ b → is_in x xs ≡ true
    by_test true e = e
    by_test false e = absurd (let z = times-absent x xs e in omega (arith, z, some))

or_right : (b : Bool) → true ≡ (b || true)
or_right true = refl
or_right false = refl

no_elements : (xs : List ℕ) → length xs ≡ 0 → xs ≡ []
no_elements [] h = refl
no_elements (x ∷ xs) h = absurd (omega arith)

-- an inner node has no groups
pub bare_inner : (levels extents : ℕ) (trie : Trie) (id : NodeId) → IsTrie levels extents trie → is_last_level levels id ≡ false → (node_at trie id).groups ≡ []
bare_inner levels extents trie id t inner = no_elements (node_at trie id).groups (shaped-inner levels extents id (node_at trie id) inner (node_at-shaped levels extents trie id t.nodes)).1

-- the root is no last-level node
pub root_inner : (levels : ℕ) → 2 ≤ levels → is_last_level levels root ≡ false
root_inner levels deep = ne_eqb (0 + 1) levels (λ e. absurd (omega arith))

inner_deal : (levels : ℕ) (trie : Trie) (node : NodeId) (dropped : ℕ) (children : List ChildChange) → shape_fits levels trie (deal node dropped children) ≡ true → is_last_level levels node ≡ false
inner_deal levels trie node dropped children h =
    let d = and_parts _ (children_fit levels trie node (8 * node.number) children) h in
    let c = and_parts _ (nat_le dropped (length (node_at trie node).tables)) d.0 in
    let b = and_parts _ (nat_le 1 dropped) c.0 in
    not-true (is_last_level levels node) (and_parts (is_node levels node) (not (is_last_level levels node)) b.0).1

-- A CHANGE THAT FITS: what is named after it
pub change-named : (levels extents : ℕ) (trie : Trie) (change : Change) (x : ℕ) → 2 ≤ levels → IsTrie levels extents trie → fits levels trie change ≡ true → is_in x (named (after_change trie change)) ≡ ((is_in x (named trie) && not (is_in x (freed trie change))) || is_in x (new_extents change))
unfolding fits
change-named levels extents trie change x deep t fit = by_parts (is_in x (named trie)) (is_in x (new_extents change)) (is_in x (freed trie change)) refl refl refl
  where
    tests : (are_new 65536 trie (new_extents change) ≡ true) × (shape_fits levels trie change ≡ true)
    tests = and_parts (are_new 65536 trie (new_extents change)) (shape_fits levels trie change) fit

    root_bare : (node_at trie root).groups ≡ []
    root_bare = bare_inner levels extents trie root t (root_inner levels deep)

    bare : (node : NodeId) (dropped : ℕ) (children : List ChildChange) → change ≡ deal node dropped children → (node_at trie node).groups ≡ []
    bare node dropped children is = bare_inner levels extents trie node t (inner_deal levels trie node dropped children (ap (shape_fits levels trie) (sym is) ∙ tests.1))

    sum : times x (named (after_change trie change)) + times x (freed trie change) ≡ times x (named trie) + times x (new_extents change)
    sum = change-frees x levels trie change t.rising tests.1 bare root_bare

    once : times x (named trie) ≤ 1
    once = times-distinct (named trie) t.distinct x

    new_once : times x (new_extents change) ≤ 1
    new_once = times-distinct (new_extents change) (and_parts (all_distinct (new_extents change)) (all_below 65536 (new_extents change)) (and_parts (all_distinct (new_extents change) && all_below 65536 (new_extents change)) (list_all (λ y. not (is_in y (named trie))) (new_extents change)) tests.0).0).0 x

    apart : (times x (new_extents change) ≡ 0) ⊎ (times x (named trie) ≡ 0)
    apart = times-apart (named trie) (new_extents change) (and_parts (all_distinct (new_extents change) && all_below 65536 (new_extents change)) (list_all (λ y. not (is_in y (named trie))) (new_extents change)) tests.0).1 x

    none : times x (named trie) ≡ 0 → times x (freed trie change) ≡ 0
    none zero_named = never x (freed trie change) (freed-named (λ y. y ≡ x → ⊥) trie change (unnamed x (named trie) zero_named))

    stands : 1 ≤ times x (named (after_change trie change)) → is_in x (named (after_change trie change)) ≡ true
    stands some = there x (named (after_change trie change)) some

    by_parts : (n w f : Bool) → is_in x (named trie) ≡ n → is_in x (new_extents change) ≡ w → is_in x (freed trie change) ≡ f → is_in x (named (after_change trie change)) ≡ ((n && not f) || w)
    by_parts n true f en ew ef =
        let new : 1 ≤ times x (new_extents change) = present x (new_extents change) ew in
        let zero_named : times x (named trie) ≡ 0 = ⊎_elim (λ (z : times x (new_extents change) ≡ 0). absurd (omega (arith, new, z))) (λ z. z) apart in
        stands (omega (arith, sum, zero_named, none zero_named, new)) ∙ or_right (n && not f)
    by_parts false false true en ew ef = absurd (let f1 = present x (freed trie change) ef in let z = none (times-absent x (named trie) en) in omega (arith, f1, z))
    by_parts false false false en ew ef = absent-times x (named (after_change trie change)) (omega (arith, sum, times-absent x (named trie) en, times-absent x (new_extents change) ew))
    by_parts true false true en ew ef = absent-times x (named (after_change trie change)) (omega (arith, sum, once, present x (freed trie change) ef, times-absent x (new_extents change) ew))
    by_parts true false false en ew ef = stands (omega (arith, sum, present x (named trie) en, times-absent x (new_extents change) ew, times-absent x (freed trie change) ef))

-- only what was named is freed
pub freed-was : (trie : Trie) (change : Change) (x : ℕ) → is_in x (freed trie change) ≡ true → is_in x (named trie) ≡ true
freed-was trie change x h = by_named (is_in x (named trie)) refl
  where
    by_named : (b : Bool) → is_in x (named trie) ≡ b → is_in x (named trie) ≡ true
    by_named true e = e
    by_named false e = absurd (let f = present x (freed trie change) h in let z = never x (freed trie change) (freed-named (λ y. y ≡ x → ⊥) trie change (unnamed x (named trie) (times-absent x (named trie) e))) in omega (arith, f, z))

-- and each of it once
pub freed-once : (levels extents : ℕ) (trie : Trie) (change : Change) → 2 ≤ levels → IsTrie levels extents trie → fits levels trie change ≡ true → all_distinct (freed trie change) ≡ true
unfolding fits
freed-once levels extents trie change deep t fit = distinct-times (freed trie change) once
  where
    tests : (are_new 65536 trie (new_extents change) ≡ true) × (shape_fits levels trie change ≡ true)
    tests = and_parts (are_new 65536 trie (new_extents change)) (shape_fits levels trie change) fit

    new_parts : ((all_distinct (new_extents change) && all_below 65536 (new_extents change)) ≡ true) × (list_all (λ y. not (is_in y (named trie))) (new_extents change) ≡ true)
    new_parts = and_parts (all_distinct (new_extents change) && all_below 65536 (new_extents change)) (list_all (λ y. not (is_in y (named trie))) (new_extents change)) tests.0

    once : (x : ℕ) → times x (freed trie change) ≤ 1
    once x =
        let sum = change-frees x levels trie change t.rising tests.1 (λ node dropped children is. bare_inner levels extents trie node t (inner_deal levels trie node dropped children (ap (shape_fits levels trie) (sym is) ∙ tests.1))) (bare_inner levels extents trie root t (root_inner levels deep)) in
        let named_once = times-distinct (named trie) t.distinct x in
        let new_once = times-distinct (new_extents change) (and_parts (all_distinct (new_extents change)) (all_below 65536 (new_extents change)) new_parts.0).0 x in
        ⊎_elim (λ (z : times x (new_extents change) ≡ 0). omega (arith, sum, named_once, z)) (λ (z : times x (named trie) ≡ 0). omega (arith, sum, new_once, z)) (times-apart (named trie) (new_extents change) new_parts.1 x)
