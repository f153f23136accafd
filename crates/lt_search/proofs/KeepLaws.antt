-- The filters that are kept while tables are read one after another.
use Rattle.std.proofs.Common.{◌≡◌, ◌≢◌, ℕ, zero, suc, ◌+◌, ◌-◌, ◌<◌, ◌≤◌, refl, sym, ap, subst, ◌∙◌, List, [], ◌∷◌, ◌++◌, length, get_or, set, take, drop, replicate, Bool, true, false, cond, ◌||◌, Option, Some, None, append-nil, true≢false, arith, ⊎_elim}
use Rattle.std.specs.Prelude.{◌==◌}
use Rattle.std.specs.List.{AllByRecursion, flat_map}
use Rattle.std.proofs.lemmas.Bool.{cases_eq, eq-eqb, ne_eqb}
use Rattle.std.proofs.lemmas.List.{get_or-set_other, get_or-set_same, length-append, take-append-drop, take_more}
use Rattle.std.proofs.lemmas.List.Concat.{flat_map-append}
use Rattle.lt_terms.specs.Bytes.{Image, is_in}
use Rattle.lt_terms.proofs.AmongLaws.{in_last}
use Rattle.lt_tables.proofs.ListLaws.{all_join, all_left, all_right, all_weaker}
use Rattle.lt_format.specs.declared.geometry.Geometry.{Geometry}
use Rattle.lt_format.specs.declared.node_id.NodeId.{NodeId}
use Rattle.lt_format.specs.Changes.{after_change, appended, flush}
use Rattle.lt_format.specs.Trie.{Node, Trie, is_last_level, named, node_at, node_extents, root, with_node}
use Rattle.lt_image.specs.Versions.{extent_in}
use Rattle.lt_image.proofs.AfterLaws.{node_at-holds}
use Rattle.lt_image.proofs.ChangeLaws.{with_node-all}
use Rattle.lt_search.specs.Kept.{KeepsExactly, KeepsFilter, inner_pile, inner_tables}

none_at : (n x : ℕ) → get_or (replicate {A = Option (List ℕ)} n None) x None ≡ None
none_at zero x = refl
none_at (suc n) zero = refl
none_at (suc n) (suc x) = none_at n x

-- none is kept at first
pub keeps-none : (g : Geometry) (kept : List (Option (List ℕ))) (n : ℕ) (image : Image) → kept ≡ replicate n None → KeepsExactly g kept [] image
keeps-none g kept n image is = subst (λ (f : List (Option (List ℕ))). KeepsExactly g f [] image) (sym is) (record { each = tt; others = λ x out. none_at n x })

front-out : (x : ℕ) (xs ys : List ℕ) → is_in x (xs ++ ys) ≡ false → is_in x xs ≡ false
front-out x [] ys out = refl
front-out x (y ∷ xs) ys out = by_head (y == x) out (front-out x xs ys)
  where
    by_head : (b : Bool) → (b || is_in x (xs ++ ys)) ≡ false → (is_in x (xs ++ ys) ≡ false → is_in x xs ≡ false) → (b || is_in x xs) ≡ false
    by_head true out rest = absurd (true≢false out)
    by_head false out rest = rest out

-- the filter block of one table more
pub keeps-more : (g : Geometry) (kept : List (Option (List ℕ))) (tables : List ℕ) (x : ℕ) (page : List ℕ) (image : Image) → KeepsExactly g kept tables image → x < length kept → page ≡ extent_in g image x 64 → KeepsExactly g (set kept x (Some page)) (tables ++ x ∷ []) image
keeps-more g kept tables x page image keeps small read =
    let here : get_or (set kept x (Some page)) x None ≡ Some (extent_in g image x 64) = get_or-set_same kept x (Some page) None small ∙ ap (λ p. Some p) read in
    record {
      each = all_join (KeepsFilter g (set kept x (Some page)) image) tables (x ∷ [])
          (all_weaker (KeepsFilter g kept image) (KeepsFilter g (set kept x (Some page)) image)
          (λ y h. ⊎_elim
          (λ (same : y ≡ x). ap (λ n. get_or (set kept x (Some page)) n None) same ∙ here ∙ ap (λ n. Some (extent_in g image n 64)) (sym same))
          (λ (other : y ≡ x → ⊥). get_or-set_other kept x y (Some page) None other ∙ h)
          (cases_eq y x)) tables keeps.each) (here, tt);
      others = λ y out.
          let other : y ≢ x = λ same. true≢false (sym (in_last x tables) ∙ ap (λ n. is_in n (tables ++ x ∷ [])) (sym same) ∙ out) in
          get_or-set_other kept x y (Some page) None other ∙ keeps.others y (front-out y tables (x ∷ []) out);
    }

-- ---- the nodes of a trie

pub inner-more : (levels i : ℕ) (nodes : Trie) (e : NodeId × Node) → i < length nodes → e ≡ get_or nodes i e → inner_tables levels (take (i + 1) nodes) ≡ inner_tables levels (take i nodes) ++ inner_pile levels e
inner-more levels i nodes e below is =
    ap (inner_tables levels) (take_more nodes i e below ∙ ap (λ (d : NodeId × Node). take i nodes ++ d ∷ []) (sym is))
    ∙ flat_map-append (inner_pile levels) (take i nodes) (e ∷ [])
    ∙ ap (λ xs. inner_tables levels (take i nodes) ++ xs) (append-nil (inner_pile levels e))

pub inner-part : (levels n : ℕ) (nodes : Trie) → length (inner_tables levels (take n nodes)) ≤ length (inner_tables levels nodes)
inner-part levels n nodes =
    let parts = ap length (ap (inner_tables levels) (sym (take-append-drop n nodes)) ∙ flat_map-append (inner_pile levels) (take n nodes) (drop n nodes)) in
    let sum = length-append (inner_tables levels (take n nodes)) (inner_tables levels (drop n nodes)) in
    omega (arith, parts, sum)

-- a node that is not of the last level, and one that is
pub inner-is : (levels top : ℕ) (e : NodeId × Node) → top ≡ levels → 2 ≤ levels → (e.0.level ≡ top - 1 → ⊥) → inner_pile levels e ≡ e.1.tables
inner-is levels top e same some other = ap (λ (b : Bool). cond b [] e.1.tables) (ne_eqb (e.0.level + 1) levels (λ is. other (omega arith)))

pub last-is : (levels top : ℕ) (e : NodeId × Node) → top ≡ levels → 2 ≤ levels → e.0.level ≡ top - 1 → inner_pile levels e ≡ []
last-is levels top e same some is = ap (λ (b : Bool). cond b [] e.1.tables) (eq-eqb (e.0.level + 1) levels (omega arith))

-- ---- all inner tables

pub flat_all : (P : ℕ → Type 0) (f : NodeId × Node → List ℕ) (es : Trie) → AllByRecursion P (flat_map f es) → AllByRecursion (λ e. AllByRecursion P (f e)) es
flat_all P f [] all = tt
flat_all P f (e ∷ es) all = (all_left P (f e) (flat_map f es) all, flat_all P f es (all_right P (f e) (flat_map f es) all))

flat_from : (P : ℕ → Type 0) (f : NodeId × Node → List ℕ) (es : Trie) → AllByRecursion (λ e. AllByRecursion P (f e)) es → AllByRecursion P (flat_map f es)
flat_from P f [] all = tt
flat_from P f (e ∷ es) all = all_join P (f e) (flat_map f es) all.0 (flat_from P f es all.1)

pile_all : (P : ℕ → Type 0) (b : Bool) (n : Node) → AllByRecursion P n.tables → AllByRecursion P (cond b [] n.tables)
pile_all P true n all = tt
pile_all P false n all = all

-- what holds of all named extents holds of the inner tables
pub inner-named : (P : ℕ → Type 0) (levels : ℕ) (trie : Trie) → AllByRecursion P (named trie) → AllByRecursion P (inner_tables levels trie)
inner-named P levels [] all = tt
inner-named P levels (e ∷ trie) all = all_join P (inner_pile levels e) (inner_tables levels trie)
    (pile_all P (is_last_level levels e.0) e.1 (all_left P e.1.tables e.1.groups (all_left P (node_extents e.1) (named trie) all)))
    (inner-named P levels trie (all_right P (node_extents e.1) (named trie) all))

pile_few : (b : Bool) (n : Node) → length (cond b [] n.tables) ≤ length n.tables
pile_few true n = omega arith
pile_few false n = omega arith

-- there are no more of them than named extents
pub inner-few : (levels : ℕ) (trie : Trie) → length (inner_tables levels trie) ≤ length (named trie)
inner-few levels [] = omega arith
inner-few levels (e ∷ trie) =
    omega (arith, length-append (inner_pile levels e) (inner_tables levels trie), length-append (node_extents e.1) (named trie), length-append e.1.tables e.1.groups, pile_few (is_last_level levels e.0) e.1, inner-few levels trie)

pile_more : (P : ℕ → Type 0) (b : Bool) (n : Node) (tables : List ℕ) → AllByRecursion P (cond b [] n.tables) → AllByRecursion P tables → AllByRecursion P (cond b [] (n.tables ++ tables))
pile_more P true n tables old new = tt
pile_more P false n tables old new = all_join P n.tables tables old new

pub none_kept : (P : ℕ → Type 0) (b : Bool) → AllByRecursion P (cond b [] [])
none_kept P true = tt
none_kept P false = tt

-- after a flush they are those of before and its tables, or fewer
pub inner-flush : (P : ℕ → Type 0) (levels : ℕ) (trie : Trie) (tables : List ℕ) → AllByRecursion P (inner_tables levels trie) → AllByRecursion P tables → AllByRecursion P (inner_tables levels (after_change trie (flush tables)))
unfolding after_change
inner-flush P levels trie tables old new =
    let Q = λ (e : NodeId × Node). AllByRecursion P (inner_pile levels e) in
    let all = flat_all P (inner_pile levels) trie old in
    let there = node_at-holds Q root trie (none_kept P (is_last_level levels root)) all in
    flat_from P (inner_pile levels) (with_node trie root (appended (node_at trie root) tables))
    (with_node-all Q trie root (appended (node_at trie root) tables) (pile_more P (is_last_level levels root) (node_at trie root) tables there new) all)

-- what holds of all named extents holds of the tables of each entry
pub entry-tables : (P : ℕ → Type 0) (nodes : Trie) (i : ℕ) (e : NodeId × Node) → AllByRecursion P (named nodes) → i < length nodes → e ≡ get_or nodes i e → AllByRecursion P e.1.tables
entry-tables P [] i e all below is = absurd (omega arith)
entry-tables P (d ∷ nodes) zero e all below is = subst (λ (c : NodeId × Node). AllByRecursion P c.1.tables) (sym is) (all_left P d.1.tables d.1.groups (all_left P (node_extents d.1) (named nodes) all))
entry-tables P (d ∷ nodes) (suc i) e all below is = entry-tables P nodes i e (all_right P (node_extents d.1) (named nodes) all) (omega arith) is

pub all_at : (P : ℕ → Type 0) (xs : List ℕ) (i : ℕ) → AllByRecursion P xs → i < length xs → P (get_or xs i 0)
all_at P [] i all below = absurd (omega arith)
all_at P (x ∷ xs) zero all below = all.0
all_at P (x ∷ xs) (suc i) all below = all_at P xs i all.1 (omega arith)
