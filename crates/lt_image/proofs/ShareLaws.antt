-- What each node gets where all shares were given, and what a change that fits says of its groups.
use Rattle.std.proofs.Common.{◌≡◌, ℕ, zero, suc, ◌+◌, ◌*◌, ◌/◌, ◌<◌, ◌≤◌, refl, sym, ap, subst, ◌∙◌, List, [], ◌∷◌, ◌++◌, map, length, take, Bool, true, false, not, cond, arith, append-nil}
use Rattle.std.proofs.Common.{⊎_elim}
use Rattle.std.specs.Prelude.{◌==◌, nat_le, nat_lt}
use Rattle.std.specs.List.{filter, AllByRecursion, AllZip, enumerate_from, range_with_len}
use Rattle.std.proofs.lemmas.Bool.{and_parts, eqb-true, leb-true, leb-false, ltb-true, cases_eq}
use Rattle.std.proofs.lemmas.List.{length-take-le}
use Rattle.lt_terms.specs.Bytes.{Image}
use Rattle.lt_terms.specs.Items.{Item}
use Rattle.lt_tables.specs.Cut.{cut}
use Rattle.lt_tables.specs.Table.{newest, with_digit}
use Rattle.lt_format.specs.declared.node_id.NodeId.{NodeId}
use Rattle.lt_format.specs.declared.geometry.Geometry.{Geometry}
use Rattle.lt_format.specs.Trie.{Node, Trie, child, same_node, node_at, is_last_level, groups_for, IsTrie}
use Rattle.lt_format.specs.Changes.{ChildChange, deal, rewrite, fits, children_fit, groups_fit, are_new, new_extents, shape_fits}
use Rattle.lt_format.proofs.ChildLaws.{children_fit-first, not_same}
use Rattle.lt_format.proofs.ShapeLaws.{node_at-shaped, shaped-last}
use Rattle.lt_format.proofs.TrieLaws.{same_node-itself}
use Rattle.lt_image.specs.After.{PlacedIn, IsGroupAt, Gets}
use Rattle.lt_image.specs.Shares.{Share, child_share, has_tables, deal_shares}
use Rattle.lt_image.proofs.DealtLaws.{dealt_to}
use Rattle.lt_image.proofs.GroupLaws.{Apart}

-- the shares of the digits from a on, n of them
abbrev pub shares_from : Trie → NodeId → List Item → ℕ → ℕ → List Share
shares_from trie id items a n = filter has_tables (map (child_share trie id items) (range_with_len a n))

other_child : (id : NodeId) (d e : ℕ) → (d ≡ e → ⊥) → same_node (child id d) (child id e) ≡ false
other_child id d e apart = not_same (child id d) (child id e) (λ same. apart (same_digit (ap (λ (q : NodeId). q.number) same)))
  where
    same_digit : 8 * id.number + d ≡ 8 * id.number + e → d ≡ e
    same_digit h = omega arith

-- an earlier child gets nothing of them
later : (g : Geometry) (image : Image) (trie : Trie) (id : NodeId) (items : List Item) (a n d : ℕ) (children : List ChildChange) → d < a → AllZip (Gets g image) children (shares_from trie id items a n) → dealt_to children (child id d) ≡ []
later g image trie id items a zero d [] low zip = refl
later g image trie id items a zero d (c ∷ cs) low zip = absurd zip
later g image trie id items a (suc n) d children low zip = by_test (has_tables (child_share trie id items a)) (λ cs. later g image trie id items (a + 1) n d cs (omega arith)) children zip
  where
    by_test : (b : Bool) → ((cs : List ChildChange) → AllZip (Gets g image) cs (shares_from trie id items (a + 1) n) → dealt_to cs (child id d) ≡ []) → (children : List ChildChange) → AllZip (Gets g image) children (cond b (child_share trie id items a ∷ shares_from trie id items (a + 1) n) (shares_from trie id items (a + 1) n)) → dealt_to children (child id d) ≡ []
    by_test true ih [] zip = refl
    by_test true ih (c ∷ cs) zip =
        ap (λ (q : NodeId). cond (same_node (child id d) q) c.tables [] ++ dealt_to cs (child id d)) zip.0.node
        ∙ ap (λ b. cond b c.tables [] ++ dealt_to cs (child id d)) (other_child id d a (λ e. absurd (omega arith)))
        ∙ ih cs zip.1
    by_test false ih children zip = ih children zip

no_parts : (parts : List (List Item)) → nat_le 1 (length parts) ≡ false → parts ≡ []
no_parts [] h = refl
no_parts (p ∷ parts) h = let short : length (p ∷ parts) < 1 = leb-false 1 (length (p ∷ parts)) h in absurd (omega arith)

-- each child gets the tables of its digit's items
pub by_digit : (g : Geometry) (image : Image) (trie : Trie) (id : NodeId) (items : List Item) (a n : ℕ) (children : List ChildChange) → AllZip (Gets g image) children (shares_from trie id items a n)
    → (d : ℕ) → a ≤ d → d < a + n → PlacedIn g image (dealt_to children (child id d)) (cut (with_digit id.level d items))
by_digit g image trie id items a zero children zip d low high = absurd (omega arith)
by_digit g image trie id items a (suc n) children zip d low high = by_test (has_tables (child_share trie id items a)) refl (λ cs rest from. by_digit g image trie id items (a + 1) n cs rest d from (omega arith)) children zip
  where
    past : (d ≡ a → ⊥) → a + 1 ≤ d
    past apart = omega arith

    none_here : (children : List ChildChange) → AllZip (Gets g image) children (shares_from trie id items (a + 1) n) → cut (with_digit id.level a items) ≡ [] → PlacedIn g image (dealt_to children (child id a)) (cut (with_digit id.level a items))
    none_here children zip none =
        subst (λ xs. PlacedIn g image xs (cut (with_digit id.level a items))) (sym (later g image trie id items (a + 1) n a children (omega arith) zip))
        (subst (λ ps. PlacedIn g image [] ps) (sym none) tt)

    by_test : (b : Bool) → has_tables (child_share trie id items a) ≡ b
        → ((cs : List ChildChange) → AllZip (Gets g image) cs (shares_from trie id items (a + 1) n) → a + 1 ≤ d → PlacedIn g image (dealt_to cs (child id d)) (cut (with_digit id.level d items)))
        → (children : List ChildChange) → AllZip (Gets g image) children (cond b (child_share trie id items a ∷ shares_from trie id items (a + 1) n) (shares_from trie id items (a + 1) n))
        → PlacedIn g image (dealt_to children (child id d)) (cut (with_digit id.level d items))
    by_test true t ih [] zip = absurd zip
    by_test true t ih (c ∷ cs) zip = ⊎_elim
        (λ (is : d ≡ a).
        subst (λ (e : ℕ). PlacedIn g image (dealt_to (c ∷ cs) (child id e)) (cut (with_digit id.level e items))) (sym is)
        (subst (λ xs. PlacedIn g image xs (cut (with_digit id.level a items)))
        (sym (ap (λ (q : NodeId). cond (same_node (child id a) q) c.tables [] ++ dealt_to cs (child id a)) zip.0.node
        ∙ ap (λ b. cond b c.tables [] ++ dealt_to cs (child id a)) (same_node-itself (child id a))
        ∙ ap (λ xs. c.tables ++ xs) (later g image trie id items (a + 1) n a cs (omega arith) zip.1)
        ∙ append-nil c.tables))
        zip.0.placed))
        (λ (apart : d ≡ a → ⊥).
        subst (λ xs. PlacedIn g image xs (cut (with_digit id.level d items)))
        (sym (ap (λ (q : NodeId). cond (same_node (child id d) q) c.tables [] ++ dealt_to cs (child id d)) zip.0.node
        ∙ ap (λ b. cond b c.tables [] ++ dealt_to cs (child id d)) (other_child id d a apart)))
        (ih cs zip.1 (past apart)))
        (cases_eq d a)
    by_test false t ih children zip = ⊎_elim
        (λ (is : d ≡ a). subst (λ (e : ℕ). PlacedIn g image (dealt_to children (child id e)) (cut (with_digit id.level e items))) (sym is) (none_here children zip (no_parts (cut (with_digit id.level a items)) t)))
        (λ (apart : d ≡ a → ⊥). ih children zip (past apart))
        (cases_eq d a)

-- ---- groups

-- each of them lies behind its node's pile
behind_from : (trie : Trie) (id : NodeId) (items : List Item) (a n : ℕ) → AllByRecursion (λ (s : Share). s.behind ≡ (node_at trie s.node).tables) (shares_from trie id items a n)
behind_from trie id items a zero = tt
behind_from trie id items a (suc n) = by_test (has_tables (child_share trie id items a)) (behind_from trie id items (a + 1) n)
  where
    by_test : (b : Bool) → AllByRecursion (λ (s : Share). s.behind ≡ (node_at trie s.node).tables) (shares_from trie id items (a + 1) n) → AllByRecursion (λ (s : Share). s.behind ≡ (node_at trie s.node).tables) (cond b (child_share trie id items a ∷ shares_from trie id items (a + 1) n) (shares_from trie id items (a + 1) n))
    by_test true rest = (refl, rest)
    by_test false rest = rest

grouped_all : (g : Geometry) (image : Image) (trie : Trie) (children : List ChildChange) (shares : List Share) → AllZip (Gets g image) children shares → AllByRecursion (λ (s : Share). s.behind ≡ (node_at trie s.node).tables) shares
    → AllByRecursion (λ (c : ChildChange). AllByRecursion (IsGroupAt g image ((node_at trie c.node).tables ++ c.tables)) (enumerate_from c.kept_groups c.groups)) children
grouped_all g image trie [] shares zip behind = tt
grouped_all g image trie (c ∷ cs) [] zip behind = absurd zip
grouped_all g image trie (c ∷ cs) (s ∷ shares) zip behind = (
  subst (λ xs. AllByRecursion (IsGroupAt g image (xs ++ c.tables)) (enumerate_from c.kept_groups c.groups)) (behind.0 ∙ ap (λ q. (node_at trie q).tables) (sym zip.0.node)) zip.0.grouped,
  grouped_all g image trie cs shares zip.1 behind.1,
)

pub deal-grouped : (g : Geometry) (image : Image) (trie : Trie) (id : NodeId) (items : List Item) (children : List ChildChange) → AllZip (Gets g image) children (deal_shares trie id items)
    → AllByRecursion (λ (c : ChildChange). AllByRecursion (IsGroupAt g image ((node_at trie c.node).tables ++ c.tables)) (enumerate_from c.kept_groups c.groups)) children
deal-grouped g image trie id items children zip = grouped_all g image trie children (deal_shares trie id items) zip (behind_from trie id (newest items) 0 8)

-- each share of a deal lies behind its node's pile
pub shares-behind : (trie : Trie) (id : NodeId) (items : List Item) → AllByRecursion (λ (s : Share). s.behind ≡ (node_at trie s.node).tables) (deal_shares trie id items)
shares-behind trie id items = behind_from trie id (newest items) 0 8

-- the groups that stay are full, and the node has them
pub record KeepsFull (n : Node) (c : ChildChange) : Type 0 where
  pub full : 64 * c.kept_groups ≤ length n.tables
  pub there : length (take c.kept_groups n.groups) ≡ c.kept_groups

pub child-keeps : (levels extents : ℕ) (trie : Trie) (c : ChildChange) → IsTrie levels extents trie → groups_fit (is_last_level levels c.node) (length (node_at trie c.node).tables) c ≡ true → KeepsFull (node_at trie c.node) c
child-keeps levels extents trie c t fit = by_level (is_last_level levels c.node) refl fit
  where
    by_level : (b : Bool) → is_last_level levels c.node ≡ b → groups_fit b (length (node_at trie c.node).tables) c ≡ true → KeepsFull (node_at trie c.node) c
    by_level true last fit =
        let is : c.kept_groups ≡ length (node_at trie c.node).tables / 64 = eqb-true _ _ (and_parts (c.kept_groups == length (node_at trie c.node).tables / 64) _ fit).0 in
        let groups : length (node_at trie c.node).groups ≡ groups_for (length (node_at trie c.node).tables) = (shaped-last levels extents c.node (node_at trie c.node) last (node_at-shaped levels extents trie c.node t.nodes)).1 in
        record { full = omega arith; there = length-take-le c.kept_groups (node_at trie c.node).groups (omega arith) }
    by_level false inner fit =
        let is : c.kept_groups ≡ 0 = eqb-true _ _ (and_parts (c.kept_groups == 0) _ fit).0 in
        record { full = omega arith; there = length-take-le c.kept_groups (node_at trie c.node).groups (omega arith) }

pub children-keep : (levels extents : ℕ) (trie : Trie) (id : NodeId) (from : ℕ) (children : List ChildChange) → IsTrie levels extents trie → children_fit levels trie id from children ≡ true → AllByRecursion (λ (c : ChildChange). KeepsFull (node_at trie c.node) c) children
children-keep levels extents trie id from [] t h = tt
children-keep levels extents trie id from (c ∷ cs) t h =
    let f = children_fit-first levels trie id from c cs h in
    (child-keeps levels extents trie c t f.groups, children-keep levels extents trie id (c.node.number + 1) cs t f.rest)

-- ---- children that fit are different nodes

apart_by : (c : ChildChange) (from : ℕ) (cs : List ChildChange) → c.node.number < from → AllByRecursion (λ (d : ChildChange). from ≤ d.node.number) cs → AllByRecursion (λ (d : ChildChange). same_node d.node c.node ≡ false) cs
apart_by c from [] low all = tt
apart_by c from (d ∷ cs) low all = (not_same d.node c.node (λ same. higher (ap (λ (q : NodeId). q.number) same)), apart_by c from cs low all.1)
  where
    higher : d.node.number ≡ c.node.number → ⊥
    higher e = let h = all.0 in omega arith

above_all : (low high : ℕ) (cs : List ChildChange) → low ≤ high → AllByRecursion (λ (d : ChildChange). high ≤ d.node.number) cs → AllByRecursion (λ (d : ChildChange). low ≤ d.node.number) cs
above_all low high [] le all = tt
above_all low high (d ∷ cs) le all = (let h = all.0 in omega arith, above_all low high cs le all.1)

rising : (levels : ℕ) (trie : Trie) (id : NodeId) (from : ℕ) (children : List ChildChange) → children_fit levels trie id from children ≡ true → AllByRecursion (λ (d : ChildChange). from ≤ d.node.number) children × Apart children
rising levels trie id from [] h = (tt, tt)
rising levels trie id from (c ∷ cs) h =
    let f = children_fit-first levels trie id from c cs h in
    let at_least : from ≤ c.node.number = f.low in
    let ih = rising levels trie id (c.node.number + 1) cs f.rest in
    ((at_least, above_all from (c.node.number + 1) cs (omega arith) ih.0), (apart_by c (c.node.number + 1) cs (omega arith) ih.0, ih.1))

pub children_fit-apart : (levels : ℕ) (trie : Trie) (id : NodeId) (from : ℕ) (children : List ChildChange) → children_fit levels trie id from children ≡ true → Apart children
children_fit-apart levels trie id from children h = (rising levels trie id from children h).1

-- ---- changes that fit

-- a deal that fits
pub record IsDeal (levels : ℕ) (trie : Trie) (id : NodeId) (dropped : ℕ) (children : List ChildChange) : Type 0 where
  pub inner : is_last_level levels id ≡ false
  pub within : id.level < levels
  pub some : 1 ≤ dropped
  pub few : dropped ≤ length (node_at trie id).tables
  pub fit : children_fit levels trie id (8 * id.number) children ≡ true

not_true : (b : Bool) → not b ≡ true → b ≡ false
not_true true h = sym h
not_true false h = refl

pub fits-deal : (levels : ℕ) (trie : Trie) (id : NodeId) (dropped : ℕ) (children : List ChildChange) → fits levels trie (deal id dropped children) ≡ true → IsDeal levels trie id dropped children
unfolding fits
fits-deal levels trie id dropped children h =
    let shape = (and_parts (are_new 65536 trie (new_extents (deal id dropped children))) (shape_fits levels trie (deal id dropped children)) h).1 in
    let d = and_parts _ (children_fit levels trie id (8 * id.number) children) shape in
    let c = and_parts _ (nat_le dropped (length (node_at trie id).tables)) d.0 in
    let b = and_parts _ (nat_le 1 dropped) c.0 in
    let a = and_parts _ _ b.0 in
    record {
      inner = not_true _ a.1;
      within = ltb-true _ _ (and_parts (nat_lt id.level levels) _ a.0).0;
      some = leb-true _ _ b.1;
      few = leb-true _ _ c.1;
      fit = d.1;
    }

-- a rewriting that fits
pub record IsRewriting (levels : ℕ) (id : NodeId) (tables groups : List ℕ) : Type 0 where
  pub last : id.level + 1 ≡ levels
  pub count : length groups ≡ groups_for (length tables)

pub fits-rewrite : (levels : ℕ) (trie : Trie) (id : NodeId) (tables groups : List ℕ) → fits levels trie (rewrite id tables groups) ≡ true → IsRewriting levels id tables groups
unfolding fits
fits-rewrite levels trie id tables groups h =
    let shape = (and_parts (are_new 65536 trie (new_extents (rewrite id tables groups))) (shape_fits levels trie (rewrite id tables groups)) h).1 in
    let b = and_parts _ (length groups == groups_for (length tables)) shape in
    let a = and_parts (is_last_level levels id) _ b.0 in
    record { last = eqb-true _ _ a.0; count = eqb-true _ _ b.1 }
