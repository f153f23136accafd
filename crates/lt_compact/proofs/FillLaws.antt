-- One extent more is filled, and what was filled before stays.
use Rattle.std.proofs.Common.{◌≡◌, ℕ, zero, suc, ◌+◌, ◌-◌, ◌*◌, ◌<◌, ◌≤◌, sym, ap, subst, ◌∙◌, List, [], ◌∷◌, ◌++◌, map, length, take, drop, get_or, true, arith, add-one, ◌⊎◌, ⊎_elim, inl, inr}
use Rattle.std.specs.Prelude.{nat_le, slice_range}
use Rattle.std.specs.List.{AllByRecursion, AllZip, range_with_len}
use Rattle.std.proofs.Math.Seq.{take-append-add}
use Rattle.std.proofs.lemmas.Bool.{cases_Bool, leb-true, leb-false}
use Rattle.std.proofs.lemmas.List.{length-map, take-append-le}
use Rattle.lt_terms.specs.Bytes.{Image}
use Rattle.lt_tables.proofs.ListLaws.{all_take, all_join}
use Rattle.lt_format.specs.declared.geometry.Geometry.{Geometry}
use Rattle.lt_format.specs.declared.node_id.NodeId.{NodeId}
use Rattle.lt_format.specs.Snapshot.{Named}
use Rattle.lt_format.specs.Trie.{named}
use Rattle.lt_image.specs.After.{SameExtent, SameExtents}
use Rattle.lt_image.specs.Shares.{Share, kept_groups, new_groups, share_extents, shares_of}
use Rattle.lt_image.proofs.KeptLaws.{pile_same}
use Rattle.lt_compact.specs.Plans.{Content, table, group, Holds, contents, all_contents, are_shared}
use Rattle.lt_compact.specs.Jobs.{filling, KeepsStage}
use Rattle.lt_compact.proofs.LocalLaws.{SameContent, all_hold_same, tables_same, groups_same, behind_shared}
use Rattle.lt_compact.proofs.PlanLaws.{length-contents}

either : (a b : ℕ) → (a ≤ b) ⊎ (b ≤ a)
either a b = elim (cases_Bool (nat_le a b)) [
  | inl less ↦ inl (leb-true a b less)
  | inr more ↦ let above : b < a = leb-false a b more in inr (omega arith)
]

-- ---- the front of a list

all_fewer : {A : Type 0} (P : A → Type 0) (a b : ℕ) (xs : List A) → a ≤ b → AllByRecursion P (take b xs) → AllByRecursion P (take a xs)
all_fewer P zero b xs le all = tt
all_fewer P (suc a) zero xs le all = absurd (omega arith)
all_fewer P (suc a) (suc b) [] le all = tt
all_fewer P (suc a) (suc b) (x ∷ xs) le all = (all.0, all_fewer P a b xs (omega arith) all.1)

all_within : {A : Type 0} (P : A → Type 0) (a b : ℕ) (xs : List A) → AllByRecursion P (take a xs) → AllByRecursion P (take a (take b xs))
all_within P zero b xs all = tt
all_within P (suc a) zero xs all = tt
all_within P (suc a) (suc b) [] all = tt
all_within P (suc a) (suc b) (x ∷ xs) all = (all.0, all_within P a b xs all.1)

all_behind : {A : Type 0} (P : A → Type 0) (a b k : ℕ) (xs : List A) → k ≡ a + b → AllByRecursion P (take k xs) → AllByRecursion P (take b (drop a xs))
all_behind P zero b k xs is all = subst (λ n. AllByRecursion P (take n xs)) (omega arith) all
all_behind P (suc a) b zero xs is all = absurd (omega arith)
all_behind P (suc a) zero (suc k) [] is all = tt
all_behind P (suc a) (suc b) (suc k) [] is all = tt
all_behind P (suc a) b (suc k) (x ∷ xs) is all = all_behind P a b k xs (omega arith) all.1

zip_next : {A B : Type 0} (P : A → B → Type 0) (xs : List A) (ys : List B) (k : ℕ) (x : A) (y : B) → k < length xs → k < length ys → AllZip P (take k xs) (take k ys) → P (get_or xs k x) (get_or ys k y) → AllZip P (take (suc k) xs) (take (suc k) ys)
zip_next P [] ys k x y a b zip here = absurd (omega arith)
zip_next P (x' ∷ xs) [] k x y a b zip here = absurd (omega arith)
zip_next P (x' ∷ xs) (y' ∷ ys) zero x y a b zip here = (here, tt)
zip_next P (x' ∷ xs) (y' ∷ ys) (suc k) x y a b zip here = (zip.0, zip_next P xs ys k x y (omega arith) (omega arith) zip.1 here)

-- ---- what the first contents speak of is as before, where the first extents are

-- of one share
share_whole : (g : Geometry) (old new : Image) (levels : ℕ) (s : Share) (numbers : List ℕ) → SameExtents g old new s.behind → SameExtents g old new (take (length s.parts) numbers) → AllByRecursion (SameContent g old new) (contents levels s numbers)
share_whole g old new levels s numbers behind same =
    let pile : List ℕ = s.behind ++ take (length s.parts) numbers in
    all_join (SameContent g old new) (map table s.parts) (map (λ j. group (slice_range pile (64 * j) (64 * j + 64))) (range_with_len (kept_groups levels s) (new_groups levels s)))
    (tables_same g old new s.parts)
    (groups_same g old new pile (kept_groups levels s) (new_groups levels s) (all_join (SameExtent g old new) s.behind (take (length s.parts) numbers) behind same))

share_front : (g : Geometry) (old new : Image) (levels : ℕ) (s : Share) (numbers : List ℕ) (k : ℕ) → SameExtents g old new s.behind → SameExtents g old new (take k numbers) → AllByRecursion (SameContent g old new) (take k (contents levels s numbers))
share_front g old new levels s numbers k behind same = ⊎_elim
    (λ (small : k ≤ length s.parts).
    let pile : List ℕ = s.behind ++ take (length s.parts) numbers in
    let groups : List Content = map (λ j. group (slice_range pile (64 * j) (64 * j + 64))) (range_with_len (kept_groups levels s) (new_groups levels s)) in
    let front : take k (map table s.parts ++ groups) ≡ take k (map table s.parts) = take-append-le k (map table s.parts) groups (omega (arith, length-map s.parts table)) in
    subst (AllByRecursion (SameContent g old new)) (sym front) (all_take (SameContent g old new) k (map table s.parts) (tables_same g old new s.parts)))
    (λ (large : length s.parts ≤ k).
    all_take (SameContent g old new) k (contents levels s numbers) (share_whole g old new levels s numbers behind (all_fewer (SameExtent g old new) (length s.parts) k numbers large same)))
    (either k (length s.parts))

-- of all shares
pub front_same : (g : Geometry) (old new : Image) (levels : ℕ) (shares : List Share) (numbers : List ℕ) (k : ℕ) → AllByRecursion (λ (s : Share). SameExtents g old new s.behind) shares → SameExtents g old new (take k numbers) → AllByRecursion (SameContent g old new) (take k (all_contents levels shares numbers))
front_same g old new levels [] numbers k behind same = all_take (SameContent g old new) k [] tt
front_same g old new levels (s ∷ shares) numbers k behind same = ⊎_elim
    (λ (small : k ≤ e).
    let front : take k (own ++ rest) ≡ take k own = take-append-le k own rest (omega (arith, count)) in
    subst (AllByRecursion (SameContent g old new)) (sym front) (share_front g old new levels s first k behind.0 (all_within (SameExtent g old new) k e numbers same)))
    (λ (large : e ≤ k).
    let n : ℕ = k - e in
    let is : k ≡ length own + n = omega (arith, count) in
    let parts : take k (own ++ rest) ≡ own ++ take n rest = ap (λ m. take m (own ++ rest)) is ∙ take-append-add own rest n in
    subst (AllByRecursion (SameContent g old new)) (sym parts)
    (all_join (SameContent g old new) own (take n rest)
    (share_whole g old new levels s first behind.0 (all_within (SameExtent g old new) (length s.parts) e numbers (all_fewer (SameExtent g old new) (length s.parts) k numbers (omega arith) same)))
    (front_same g old new levels shares (drop e numbers) n behind.1 (all_behind (SameExtent g old new) e n k numbers (omega arith) same))))
    (either k e)
  where
    e : ℕ
    e = share_extents levels s

    first : List ℕ
    first = take e numbers

    own : List Content
    own = contents levels s first

    rest : List Content
    rest = all_contents levels shares (drop e numbers)

    count : length own ≡ e
    count = length-contents levels s first

-- ONE EXTENT MORE is filled, where the extents that were filled before are as they were
pub filled-keeps : (m : Named) (old new : Image) (id : NodeId) (sources : List ℕ) (shares : List Share) (numbers : List ℕ) (k : ℕ) (c : Content) → are_shared m.geometry.levels m.manifest.trie id shares ≡ true
    → SameExtents m.geometry old new (named m.manifest.trie) → SameExtents m.geometry old new sources → SameExtents m.geometry old new (take k numbers) → k < length numbers → k < length (all_contents m.geometry.levels shares numbers)
    → Holds m.geometry new (get_or numbers k 0) (get_or (all_contents m.geometry.levels shares numbers) k c) → KeepsStage m old id sources (filling shares numbers k) → KeepsStage m new id sources (filling shares numbers (k + 1))
filled-keeps m old new id sources shares numbers k c shared kept from front small within holds keeps =
    let g : Geometry = m.geometry in
    let cs : List Content = all_contents g.levels shares numbers in
    let stays : AllZip (Holds g new) (take k numbers) (take k cs) =
    all_hold_same g old new (take k numbers) (take k cs) front (front_same g old new g.levels shares numbers k (behind_shared g old new g.levels m.manifest.trie id shares kept shared) front) keeps.1 in (
      keeps.0 ∙ ap (shares_of g.levels m.manifest.trie id) (sym (pile_same g old new sources from)),
      subst (λ n. AllZip (Holds g new) (take n numbers) (take n cs)) (sym (add-one k)) (zip_next (Holds g new) numbers cs k 0 c small within stays holds),
    )
