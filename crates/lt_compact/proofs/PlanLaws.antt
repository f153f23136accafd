-- What the nodes of shares get where all extents hold what they are to hold, and that the change fits.
use Rattle.std.proofs.Common.{◌≡◌, ℕ, zero, suc, ◌+◌, ◌-◌, ◌*◌, ◌/◌, ◌≤◌, refl, sym, ap, subst, ◌∙◌, List, [], ◌∷◌, ◌++◌, map, length, take, drop, Bool, true, false, not, cond, arith, take-append-drop, true≢false}
use Rattle.std.specs.Prelude.{◌==◌, nat_le, slice_range}
use Rattle.std.specs.List.{flat_map, AllByRecursion, AllZip, enumerate_from, range_with_len}
use Rattle.std.proofs.lemmas.Bool.{and_parts, and_from, eq-eqb, leb-true, le-leb}
use Rattle.std.specs.Cmp.Lexicographic.{bytes_decides}
use Rattle.std.proofs.lemmas.List.{length-append, length-map, length-take-le, length-drop}
use Rattle.std.proofs.Math.Seq.{take-length}
use Rattle.std.proofs.lemmas.List.FromFn.{length-map-range_with_len}
use Rattle.std.proofs.lemmas.List.Sums.{sum_by-cons}
use Rattle.lt_terms.specs.Bytes.{Image, same_bytes}
use Rattle.lt_terms.specs.Items.{Item}
use Rattle.lt_format.specs.declared.geometry.Geometry.{Geometry}
use Rattle.lt_format.specs.declared.node_id.NodeId.{NodeId}
use Rattle.lt_format.specs.Changes.{ChildChange, Change, deal, rewrite, new_extents, groups_fit, children_fit, shape_fits}
use Rattle.lt_format.specs.Trie.{Trie, node_at, is_node, is_last_level, groups_for, same_node}
use Rattle.lt_format.proofs.TrieLaws.{same_node-same}
use Rattle.lt_image.specs.After.{PlacedIn, IsGroupAt, Gets}
use Rattle.lt_image.specs.Shares.{Share, kept_groups, new_groups, share_extents, rewrite_share}
use Rattle.lt_compact.specs.Plans.{Content, table, group, Holds, extents_for, given_by, all_given, contents, all_contents, rewriting, children_shared, is_own}
use Rattle.lt_format.proofs.FreeLaws.{no_list}

-- ---- lists side by side

zip_front : {A B : Type 0} (P : A → B → Type 0) (xs : List A) (ys zs : List B) → AllZip P xs (ys ++ zs) → AllZip P (take (length ys) xs) ys
zip_front P xs [] zs zip = tt
zip_front P [] (y ∷ ys) zs zip = absurd zip
zip_front P (x ∷ xs) (y ∷ ys) zs zip = (zip.0, zip_front P xs ys zs zip.1)

zip_back : {A B : Type 0} (P : A → B → Type 0) (xs : List A) (ys zs : List B) → AllZip P xs (ys ++ zs) → AllZip P (drop (length ys) xs) zs
zip_back P xs [] zs zip = zip
zip_back P [] (y ∷ ys) zs zip = absurd zip
zip_back P (x ∷ xs) (y ∷ ys) zs zip = zip_back P xs ys zs zip.1

placed_all : (g : Geometry) (image : Image) (xs : List ℕ) (parts : List (List Item)) → AllZip (Holds g image) xs (map table parts) → PlacedIn g image xs parts
placed_all g image [] [] zip = tt
placed_all g image [] (p ∷ parts) zip = absurd zip
placed_all g image (x ∷ xs) [] zip = absurd zip
placed_all g image (x ∷ xs) (p ∷ parts) zip = (zip.0, placed_all g image xs parts zip.1)

grouped_all : (g : Geometry) (image : Image) (pile xs : List ℕ) (j n : ℕ) → AllZip (Holds g image) xs (map (λ j. group (slice_range pile (64 * j) (64 * j + 64))) (range_with_len j n)) → AllByRecursion (IsGroupAt g image pile) (enumerate_from j xs)
grouped_all g image pile [] j n zip = tt
grouped_all g image pile (x ∷ xs) j zero zip = absurd zip
grouped_all g image pile (x ∷ xs) j (suc n) zip = (zip.0, grouped_all g image pile xs (j + 1) n zip.1)

-- ---- one share

pub length-contents : (levels : ℕ) (s : Share) (numbers : List ℕ) → length (contents levels s numbers) ≡ share_extents levels s
length-contents levels s numbers =
    let pile : List ℕ = s.behind ++ take (length s.parts) numbers in
    let tables : length (map table s.parts) ≡ length s.parts = length-map s.parts table in
    let groups : length (map (λ j. group (slice_range pile (64 * j) (64 * j + 64))) (range_with_len (kept_groups levels s) (new_groups levels s))) ≡ new_groups levels s = length-map-range_with_len (λ j. group (slice_range pile (64 * j) (64 * j + 64))) (kept_groups levels s) (new_groups levels s) in
    omega (arith, tables, groups, length-append (map table s.parts) (map (λ j. group (slice_range pile (64 * j) (64 * j + 64))) (range_with_len (kept_groups levels s) (new_groups levels s))))

pub share-given : (g : Geometry) (image : Image) (levels : ℕ) (s : Share) (numbers : List ℕ) → AllZip (Holds g image) numbers (contents levels s numbers) → Gets g image (given_by levels s numbers) s
share-given g image levels s numbers zip =
    let pile : List ℕ = s.behind ++ take (length s.parts) numbers in
    let groups : List Content = map (λ j. group (slice_range pile (64 * j) (64 * j + 64))) (range_with_len (kept_groups levels s) (new_groups levels s)) in
    let count : length (map table s.parts) ≡ length s.parts = length-map s.parts table in
    record {
      node = refl;
      placed = placed_all g image (take (length s.parts) numbers) s.parts (subst (λ n. AllZip (Holds g image) (take n numbers) (map table s.parts)) count (zip_front (Holds g image) numbers (map table s.parts) groups zip));
      grouped = grouped_all g image pile (drop (length s.parts) numbers) (kept_groups levels s) (new_groups levels s) (subst (λ n. AllZip (Holds g image) (drop n numbers) groups) count (zip_back (Holds g image) numbers (map table s.parts) groups zip));
    }

-- ALL SHARES are given where all extents hold what they are to hold
pub all-given : (g : Geometry) (image : Image) (levels : ℕ) (shares : List Share) (numbers : List ℕ) → AllZip (Holds g image) numbers (all_contents levels shares numbers) → AllZip (Gets g image) (all_given levels shares numbers) shares
all-given g image levels [] numbers zip = tt
all-given g image levels (s ∷ shares) numbers zip =
    let first : List ℕ = take (share_extents levels s) numbers in
    let rest : List ℕ = drop (share_extents levels s) numbers in
    let count : length (contents levels s first) ≡ share_extents levels s = length-contents levels s first in (
      share-given g image levels s first (subst (λ n. AllZip (Holds g image) (take n numbers) (contents levels s first)) count (zip_front (Holds g image) numbers (contents levels s first) (all_contents levels shares rest) zip)),
      all-given g image levels shares rest (subst (λ n. AllZip (Holds g image) (drop n numbers) (all_contents levels shares rest)) count (zip_back (Holds g image) numbers (contents levels s first) (all_contents levels shares rest) zip)),
    )

-- ---- the change fits

fit_groups : (levels : ℕ) (s : Share) (numbers pile : List ℕ) → s.behind ≡ pile → length numbers ≡ share_extents levels s → groups_fit (is_last_level levels s.node) (length pile) (given_by levels s numbers) ≡ true
fit_groups levels s numbers pile same count = by_level (is_last_level levels s.node) refl
  where
    behind : length s.behind ≡ length pile
    behind = ap length same

    by_level : (b : Bool) → is_last_level levels s.node ≡ b → groups_fit b (length pile) (given_by levels s numbers) ≡ true
    by_level true last =
        let kept : kept_groups levels s ≡ length s.behind / 64 = ap (λ b. cond b (length s.behind / 64) 0) last in
        let new : new_groups levels s ≡ groups_for (length s.behind + length s.parts) - length s.behind / 64 = ap (λ b. cond b (groups_for (length s.behind + length s.parts) - length s.behind / 64) 0) last in
        let tables : length (take (length s.parts) numbers) ≡ length s.parts = length-take-le (length s.parts) numbers (omega arith) in
        let groups : length (drop (length s.parts) numbers) ≡ length numbers - length s.parts = length-drop (length s.parts) numbers in
        and_from _ _ (eq-eqb (kept_groups levels s) (length pile / 64) (kept ∙ ap (λ n. n / 64) behind))
        (eq-eqb (kept_groups levels s + length (drop (length s.parts) numbers)) (groups_for (length pile + length (take (length s.parts) numbers))) (sums behind kept new tables groups))
      where
        sums : length s.behind ≡ length pile → kept_groups levels s ≡ length s.behind / 64 → new_groups levels s ≡ groups_for (length s.behind + length s.parts) - length s.behind / 64
            → length (take (length s.parts) numbers) ≡ length s.parts → length (drop (length s.parts) numbers) ≡ length numbers - length s.parts
            → kept_groups levels s + length (drop (length s.parts) numbers) ≡ groups_for (length pile + length (take (length s.parts) numbers))
        sums b k n t g = omega arith
    by_level false inner =
        let kept : kept_groups levels s ≡ 0 = ap (λ b. cond b (length s.behind / 64) 0) inner in
        let new : new_groups levels s ≡ 0 = ap (λ b. cond b (groups_for (length s.behind + length s.parts) - length s.behind / 64) 0) inner in
        let groups : length (drop (length s.parts) numbers) ≡ length numbers - length s.parts = length-drop (length s.parts) numbers in
        and_from _ _ (eq-eqb (kept_groups levels s) 0 kept) (eq-eqb (length (drop (length s.parts) numbers)) 0 (none new groups))
      where
        none : new_groups levels s ≡ 0 → length (drop (length s.parts) numbers) ≡ length numbers - length s.parts → length (drop (length s.parts) numbers) ≡ 0
        none n g = omega arith

-- CHILDREN that were shared out to as many extents as they need fit the trie
pub children-fit : (levels : ℕ) (trie : Trie) (id : NodeId) (from : ℕ) (shares : List Share) (numbers : List ℕ) → children_shared trie id from shares ≡ true → length numbers ≡ extents_for levels shares → children_fit levels trie id from (all_given levels shares numbers) ≡ true
children-fit levels trie id from [] numbers h count = refl
children-fit levels trie id from (s ∷ shares) numbers h count =
    let f = and_parts _ (children_shared trie id (s.node.number + 1) shares) h in
    let e = and_parts _ (same_bytes s.behind (node_at trie s.node).tables) f.0 in
    let d = and_parts _ (nat_le 1 (length s.parts)) e.0 in
    let some : 1 ≤ length s.parts = leb-true 1 (length s.parts) d.1 in
    let behind : s.behind ≡ (node_at trie s.node).tables = (bytes_decides s.behind (node_at trie s.node).tables).0 e.1 in
    let first : List ℕ = take (share_extents levels s) numbers in
    let rest : List ℕ = drop (share_extents levels s) numbers in
    let all : length numbers ≡ share_extents levels s + extents_for levels shares = count ∙ sum_two in
    let first_count : length first ≡ share_extents levels s = length-take-le (share_extents levels s) numbers (omega arith) in
    let rest_count : length rest ≡ extents_for levels shares = length-drop (share_extents levels s) numbers ∙ rest_of all in
    let tables : length (take (length s.parts) first) ≡ length s.parts = length-take-le (length s.parts) first (omega arith) in
    and_from _ _ (and_from _ _ (and_from _ _ d.0 (le-leb 1 (length (take (length s.parts) first)) (omega arith))) (fit_groups levels s first (node_at trie s.node).tables behind first_count))
    (children-fit levels trie id (s.node.number + 1) shares rest f.1 rest_count)
  where
    sum_two : extents_for levels (s ∷ shares) ≡ share_extents levels s + extents_for levels shares
    sum_two = sum_by-cons (share_extents levels) s shares

    rest_of : length numbers ≡ share_extents levels s + extents_for levels shares → length numbers - share_extents levels s ≡ extents_for levels shares
    rest_of h = omega arith

-- ---- the extents that the change names

pub given_extents : (levels : ℕ) (shares : List Share) (numbers : List ℕ) → length numbers ≡ extents_for levels shares → flat_map (λ (c : ChildChange). c.tables ++ c.groups) (all_given levels shares numbers) ≡ numbers
given_extents levels [] numbers count = sym (none numbers count)
  where
    none : (xs : List ℕ) → length xs ≡ extents_for levels [] → xs ≡ []
    none [] h = refl
    none (x ∷ xs) h = absurd (omega arith)
given_extents levels (s ∷ shares) numbers count =
    let all : length numbers ≡ share_extents levels s + extents_for levels shares = count ∙ sum_by-cons (share_extents levels) s shares in
    let rest_count : length (drop (share_extents levels s) numbers) ≡ extents_for levels shares = length-drop (share_extents levels s) numbers ∙ rest_of all in
    ap (λ xs. xs ++ flat_map (λ (c : ChildChange). c.tables ++ c.groups) (all_given levels shares (drop (share_extents levels s) numbers))) (take-append-drop (length s.parts) (take (share_extents levels s) numbers))
    ∙ ap (λ xs. take (share_extents levels s) numbers ++ xs) (given_extents levels shares (drop (share_extents levels s) numbers) rest_count)
    ∙ take-append-drop (share_extents levels s) numbers
  where
    rest_of : length numbers ≡ share_extents levels s + extents_for levels shares → length numbers - share_extents levels s ≡ extents_for levels shares
    rest_of h = omega arith

-- ---- a rewriting

-- the one share of a node's own
pub record IsOwn (id : NodeId) (shares : List Share) : Type 0 where
  pub share : Share
  pub one : shares ≡ share ∷ []
  pub node : share.node ≡ id
  pub behind : share.behind ≡ []

pub own-one : (id : NodeId) (shares : List Share) → is_own id shares ≡ true → IsOwn id shares
own-one id [] h = absurd (true≢false (sym h))
own-one id (s ∷ []) h =
    let parts = and_parts (same_node s.node id) (length s.behind == 0) h in
    record { share = s; one = refl; node = same_node-same s.node id parts.0; behind = no_list s.behind parts.1 }
own-one id (s ∷ t ∷ shares) h = absurd (true≢false (sym h))

pub own_first : (levels : ℕ) (s : Share) (numbers : List ℕ) → length numbers ≡ extents_for levels (s ∷ []) → take (share_extents levels s) numbers ≡ numbers
own_first levels s numbers count =
    let all : length numbers ≡ share_extents levels s + extents_for levels [] = count ∙ sum_by-cons (share_extents levels) s [] in
    let none : extents_for levels [] ≡ 0 = refl in
    let whole : share_extents levels s ≡ length numbers = omega arith in
    ap (λ n. take n numbers) whole ∙ take-length numbers

-- what a last-level node gets behind nothing: no group stays, and all extents behind the tables are groups
pub own-groups : (levels : ℕ) (s : Share) (numbers : List ℕ) → is_last_level levels s.node ≡ true → s.behind ≡ [] → length numbers ≡ share_extents levels s
    → (kept_groups levels s ≡ 0) × (length (drop (length s.parts) numbers) ≡ groups_for (length (take (length s.parts) numbers)))
own-groups levels s numbers last none count =
    let zero_behind : length s.behind ≡ 0 = ap length none in
    let kept : kept_groups levels s ≡ length s.behind / 64 = ap (λ b. cond b (length s.behind / 64) 0) last in
    let new : new_groups levels s ≡ groups_for (length s.behind + length s.parts) - length s.behind / 64 = ap (λ b. cond b (groups_for (length s.behind + length s.parts) - length s.behind / 64) 0) last in
    let tables : length (take (length s.parts) numbers) ≡ length s.parts = length-take-le (length s.parts) numbers (omega arith) in
    let groups : length (drop (length s.parts) numbers) ≡ length numbers - length s.parts = length-drop (length s.parts) numbers in
    (none_kept zero_behind kept, all_new zero_behind new tables groups)
  where
    none_kept : length s.behind ≡ 0 → kept_groups levels s ≡ length s.behind / 64 → kept_groups levels s ≡ 0
    none_kept z k = k ∙ ap (λ n. n / 64) z

    all_new : length s.behind ≡ 0 → new_groups levels s ≡ groups_for (length s.behind + length s.parts) - length s.behind / 64 → length (take (length s.parts) numbers) ≡ length s.parts
        → length (drop (length s.parts) numbers) ≡ length numbers - length s.parts → length (drop (length s.parts) numbers) ≡ groups_for (length (take (length s.parts) numbers))
    all_new z n t g = omega arith

-- ---- the change as a whole

-- THE CHANGE of shares that take these extents has the shape that the trie wants, and names these extents
pub record IsFitting (levels : ℕ) (trie : Trie) (change : Change) (numbers : List ℕ) : Type 0 where
  pub shape : shape_fits levels trie change ≡ true
  pub names : new_extents change ≡ numbers

pub deal-fits : (levels : ℕ) (trie : Trie) (id : NodeId) (dropped : ℕ) (shares : List Share) (numbers : List ℕ) → is_last_level levels id ≡ false → is_node levels id ≡ true → 1 ≤ dropped → dropped ≤ length (node_at trie id).tables
    → children_shared trie id (8 * id.number) shares ≡ true → length numbers ≡ extents_for levels shares → IsFitting levels trie (deal id dropped (all_given levels shares numbers)) numbers
deal-fits levels trie id dropped shares numbers inner node some few shared count = record {
  shape = and_from _ _ (and_from _ _ (and_from _ _ (and_from _ _ node (ap not inner)) (le-leb 1 dropped some)) (le-leb dropped (length (node_at trie id).tables) few)) (children-fit levels trie id (8 * id.number) shares numbers shared count);
  names = given_extents levels shares numbers count;
}

pub rewrite-fits : (levels : ℕ) (trie : Trie) (id : NodeId) (shares : List Share) (numbers : List ℕ) → is_last_level levels id ≡ true → 1 ≤ length (node_at trie id).tables
    → is_own id shares ≡ true → length numbers ≡ extents_for levels shares → IsFitting levels trie (rewriting id (all_given levels shares numbers)) numbers
rewrite-fits levels trie id shares numbers last some own count =
    let o = own-one id shares own in
    subst (λ ss. IsFitting levels trie (rewriting id (all_given levels ss numbers)) numbers) (sym o.one)
    (let s : Share = o.share in
    let counted : length numbers ≡ extents_for levels (s ∷ []) = count ∙ ap (extents_for levels) o.one in
    let first : take (share_extents levels s) numbers ≡ numbers = own_first levels s numbers counted in
    let all : length numbers ≡ share_extents levels s + extents_for levels [] = counted ∙ sum_by-cons (share_extents levels) s [] in
    let none : extents_for levels [] ≡ 0 = refl in
    let last_share : is_last_level levels s.node ≡ true = ap (is_last_level levels) o.node ∙ last in
    let groups = own-groups levels s numbers last_share o.behind (omega arith) in
    subst (λ xs. IsFitting levels trie (rewrite id (take (length s.parts) xs) (drop (length s.parts) xs)) numbers) (sym first)
    (record {
      shape = and_from _ _ (and_from _ _ last (le-leb 1 (length (node_at trie id).tables) some)) (eq-eqb (length (drop (length s.parts) numbers)) (groups_for (length (take (length s.parts) numbers))) groups.1);
      names = take-append-drop (length s.parts) numbers;
    }))

-- WHAT A REWRITING'S NODE GETS
pub rewrite-given : (g : Geometry) (image : Image) (levels : ℕ) (id : NodeId) (items : List Item) (numbers : List ℕ) → is_last_level levels id ≡ true → length numbers ≡ extents_for levels (rewrite_share id items ∷ [])
    → AllZip (Holds g image) numbers (all_contents levels (rewrite_share id items ∷ []) numbers)
    → Gets g image (record { node = id; tables = take (length (rewrite_share id items).parts) numbers; kept_groups = 0; groups = drop (length (rewrite_share id items).parts) numbers }) (rewrite_share id items)
rewrite-given g image levels id items numbers last count zip =
    let s : Share = rewrite_share id items in
    let first : take (share_extents levels s) numbers ≡ numbers = own_first levels s numbers count in
    let kept : kept_groups levels s ≡ 0 = ap (λ b. cond b (length s.behind / 64) 0) last in
    let gets = (all-given g image levels (s ∷ []) numbers zip).0 in
    subst (λ xs. Gets g image (record { node = id; tables = take (length s.parts) xs; kept_groups = 0; groups = drop (length s.parts) xs }) s) first
    (subst (λ k. Gets g image (record { node = id; tables = take (length s.parts) (take (share_extents levels s) numbers); kept_groups = k; groups = drop (length s.parts) (take (share_extents levels s) numbers) }) s) kept gets)

pub length-all_contents : (levels : ℕ) (shares : List Share) (numbers : List ℕ) → length (all_contents levels shares numbers) ≡ extents_for levels shares
length-all_contents levels [] numbers = refl
length-all_contents levels (s ∷ shares) numbers =
    let first : List ℕ = take (share_extents levels s) numbers in
    let rest : List ℕ = drop (share_extents levels s) numbers in
    omega (arith, length-append (contents levels s first) (all_contents levels shares rest), length-contents levels s first, length-all_contents levels shares rest, sum_by-cons (share_extents levels) s shares)
