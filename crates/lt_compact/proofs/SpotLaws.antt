-- What an extent of a share is to hold, found by its place among the extents of all shares.
use Rattle.std.proofs.Common.{◌≡◌, ℕ, zero, suc, ◌+◌, ◌-◌, ◌*◌, ◌/◌, ◌<◌, ◌≤◌, refl, sym, ap, subst, ◌∙◌, List, [], ◌∷◌, ◌++◌, map, length, take, drop, get_or, Bool, true, false, cond, Some, None, ◌⊎◌, inl, inr, min, arith}
use Rattle.std.specs.Prelude.{nat_le, slice_get, slice_range}
use Rattle.std.specs.List.{range_with_len}
use Rattle.std.proofs.Math.ListN.{get_or-append}
use Rattle.std.proofs.lemmas.Bool.{cases_Bool, leb-false, leb-true}
use Rattle.std.proofs.lemmas.List.{drop-drop, get_or-append-add, get_or-drop, get_or-map, length-drop, length-map, length-take, length-take-le, take-take, take_all, take_more}
use Rattle.std.proofs.lemmas.List.FromFn.{get_or-map-range_with_len}
use Rattle.std.proofs.lemmas.List.Sums.{sum_by-append, sum_by-cons}
use Rattle.lt_format.specs.Trie.{is_last_level}
use Rattle.lt_image.specs.Shares.{Share, kept_groups, new_groups, share_extents}
use Rattle.lt_compact.specs.Filling.{IsSpot}
use Rattle.lt_compact.specs.Plans.{Content, table, group, all_contents, contents, extents_for}
use Rattle.lt_compact.proofs.PlanLaws.{length-contents}

-- ---- the share of an extent

-- the extents of share number i among those of all shares
abbrev pub own_extents : ℕ → List Share → List ℕ → ℕ → Share → List ℕ
own_extents levels shares numbers i s = take (share_extents levels s) (drop (extents_for levels (take i shares)) numbers)

extents_first : (levels : ℕ) (s : Share) (shares : List Share) (i : ℕ) → extents_for levels (take (suc i) (s ∷ shares)) ≡ share_extents levels s + extents_for levels (take i shares)
extents_first levels s shares i = sum_by-cons (share_extents levels) s (take i shares)

-- THE CONTENT of an extent is that of its place among its share's
pub content-at : (levels : ℕ) (shares : List Share) (numbers : List ℕ) (i : ℕ) (s : Share) (place : ℕ) (c : Content) → slice_get shares i ≡ Some s → place < share_extents levels s
    → get_or (all_contents levels shares numbers) (extents_for levels (take i shares) + place) c ≡ get_or (contents levels s (own_extents levels shares numbers i s)) place c
content-at levels [] numbers i s place c is below = absurd (let none : None ≡ Some s = is in cc)
content-at levels (t ∷ shares) numbers zero s place c is below =
    let same : t ≡ s = cc in
    let own : List Content = contents levels t (take (share_extents levels t) numbers) in
    let rest : List Content = all_contents levels shares (drop (share_extents levels t) numbers) in
    let size : length own ≡ share_extents levels t = length-contents levels t (take (share_extents levels t) numbers) in
    let within : place < share_extents levels t = subst (λ u. place < share_extents levels u) (sym same) below in
    let nothing : extents_for levels [] ≡ 0 = refl in
    ap (λ k. get_or (own ++ rest) k c) (omega (arith, nothing)) ∙ get_or-append own rest c place (omega arith) ∙ ap (λ u. get_or (contents levels u (take (share_extents levels u) numbers)) place c) same
content-at levels (t ∷ shares) numbers (suc i) s place c is below =
    let own : List Content = contents levels t (take (share_extents levels t) numbers) in
    let later : List ℕ = drop (share_extents levels t) numbers in
    let rest : List Content = all_contents levels shares later in
    let size : length own ≡ share_extents levels t = length-contents levels t (take (share_extents levels t) numbers) in
    let at : extents_for levels (take (suc i) (t ∷ shares)) + place ≡ length own + (extents_for levels (take i shares) + place) = omega (arith, extents_first levels t shares i) in
    ap (λ k. get_or (own ++ rest) k c) at
    ∙ get_or-append-add own rest (extents_for levels (take i shares) + place) c
    ∙ content-at levels shares later i s place c is below
    ∙ ap (λ xs. get_or (contents levels s (take (share_extents levels s) xs)) place c) (drop-drop (extents_for levels (take i shares)) (share_extents levels t) numbers ∙ ap (λ k. drop k numbers) (sym (extents_first levels t shares i)))

-- ---- the contents of one share

pub content-table : (levels : ℕ) (s : Share) (numbers : List ℕ) (place : ℕ) (c : Content) → place < length s.parts → get_or (contents levels s numbers) place c ≡ table (get_or s.parts place [])
content-table levels s numbers place c below =
    get_or-append (map table s.parts) _ c place (omega (arith, length-map s.parts table)) ∙ get_or-map table s.parts place [] c below

pub content-group : (levels : ℕ) (s : Share) (numbers : List ℕ) (place : ℕ) (c : Content) → length s.parts ≤ place → place < share_extents levels s
    → get_or (contents levels s numbers) place c
    ≡ group (slice_range (s.behind ++ take (length s.parts) numbers) (64 * (kept_groups levels s + (place - length s.parts))) (64 * (kept_groups levels s + (place - length s.parts)) + 64))
content-group levels s numbers place c above below =
    let pile : List ℕ = s.behind ++ take (length s.parts) numbers in
    let n : ℕ = place - length s.parts in
    let groups : List Content = map (λ j. group (slice_range pile (64 * j) (64 * j + 64))) (range_with_len (kept_groups levels s) (new_groups levels s)) in
    let at : place ≡ length (map table s.parts) + n = omega (arith, length-map s.parts table) in
    ap (λ k. get_or (map table s.parts ++ groups) k c) at
    ∙ get_or-append-add (map table s.parts) groups n c
    ∙ get_or-map-range_with_len (λ j. group (slice_range pile (64 * j) (64 * j + 64))) (kept_groups levels s) (new_groups levels s) n (kept_groups levels s + n) c (omega arith) refl

-- ---- the walk to the share

pub extents_more : (levels : ℕ) (shares : List Share) (i : ℕ) (s : Share) → i < length shares → s ≡ get_or shares i s → extents_for levels (take (i + 1) shares) ≡ extents_for levels (take i shares) + share_extents levels s
extents_more levels shares i s below is =
    ap (extents_for levels) (take_more shares i s below)
    ∙ sum_by-append (share_extents levels) (take i shares) (get_or shares i s ∷ [])
    ∙ ap (λ n. extents_for levels (take i shares) + n) (one (get_or shares i s) ∙ ap (share_extents levels) (sym is))
  where
    one : (t : Share) → extents_for levels (t ∷ []) ≡ share_extents levels t
    one t = let none : extents_for levels [] ≡ 0 = refl in omega (arith, sum_by-cons (share_extents levels) t [])

-- ---- an extent that is found

get-here : (shares : List Share) (i : ℕ) (s d : Share) → slice_get shares i ≡ Some s → get_or shares i d ≡ s
get-here [] i s d is = absurd (let none : None ≡ Some s = is in cc)
get-here (t ∷ shares) zero s d is = let same : t ≡ s = cc in same
get-here (t ∷ shares) (suc i) s d is = get-here shares i s d is

-- the extent is one of this share
pub record IsSpotOf (levels : ℕ) (shares : List Share) (filled i first place : ℕ) (s : Share) : Type 0 where
  pub there : slice_get shares i ≡ Some s
  pub before : first ≡ extents_for levels (take i shares)
  pub is : filled ≡ first + place
  pub below : place < share_extents levels s

pub spot-of : (levels : ℕ) (shares : List Share) (filled i first place : ℕ) (s : Share) → IsSpot levels shares filled i first place → s ≡ get_or shares i s → IsSpotOf levels shares filled i first place s
spot-of levels shares filled i first place s spot is =
    let same : spot.here ≡ s = sym (is ∙ get-here shares i spot.here s spot.there) in
    record { there = spot.there ∙ ap (λ t. Some t) same; before = spot.before; is = spot.is; below = subst (λ t. place < share_extents levels t) same spot.below }

-- the extents of the share, as it writes them
own-first : (levels : ℕ) (shares : List Share) (numbers : List ℕ) (filled i first place : ℕ) (s : Share) → IsSpotOf levels shares filled i first place s → take (length s.parts) (own_extents levels shares numbers i s) ≡ take (length s.parts) (drop first numbers)
own-first levels shares numbers filled i first place s spot =
    let fewer : length s.parts ≤ share_extents levels s = omega arith in
    take-take (length s.parts) (share_extents levels s) (drop (extents_for levels (take i shares)) numbers) fewer ∙ ap (λ k. take (length s.parts) (drop k numbers)) (sym spot.before)

whole-content : (levels : ℕ) (shares : List Share) (numbers : List ℕ) (filled i first place : ℕ) (s : Share) (c : Content) → IsSpotOf levels shares filled i first place s → get_or (all_contents levels shares numbers) filled c ≡ get_or (contents levels s (own_extents levels shares numbers i s)) place c
whole-content levels shares numbers filled i first place s c spot =
    ap (λ k. get_or (all_contents levels shares numbers) k c) (spot.is ∙ ap (λ k. k + place) spot.before) ∙ content-at levels shares numbers i s place c spot.there spot.below

-- WHAT IT IS TO HOLD: a table of the share
pub table-content : (levels : ℕ) (shares : List Share) (numbers : List ℕ) (filled i first place : ℕ) (s : Share) (c : Content) → IsSpotOf levels shares filled i first place s → place < length s.parts
    → get_or (all_contents levels shares numbers) filled c ≡ table (get_or s.parts place [])
table-content levels shares numbers filled i first place s c spot table_place =
    whole-content levels shares numbers filled i first place s c spot ∙ content-table levels s (own_extents levels shares numbers i s) place c table_place

-- or one of its new groups
pub group-content : (levels : ℕ) (shares : List Share) (numbers : List ℕ) (filled i first place : ℕ) (s : Share) (c : Content) → IsSpotOf levels shares filled i first place s → length s.parts ≤ place
    → get_or (all_contents levels shares numbers) filled c
    ≡ group (slice_range (s.behind ++ take (length s.parts) (drop first numbers)) (64 * (kept_groups levels s + (place - length s.parts))) (64 * (kept_groups levels s + (place - length s.parts)) + 64))
group-content levels shares numbers filled i first place s c spot group_place =
    whole-content levels shares numbers filled i first place s c spot
    ∙ content-group levels s (own_extents levels shares numbers i s) place c group_place spot.below
    ∙ ap (λ xs. group (slice_range (s.behind ++ xs) (64 * (kept_groups levels s + (place - length s.parts))) (64 * (kept_groups levels s + (place - length s.parts)) + 64))) (own-first levels shares numbers filled i first place s spot)

-- the group begins within the pile
pub group-begins : (levels : ℕ) (s : Share) (place : ℕ) → length s.parts ≤ place → place < share_extents levels s → 64 * (kept_groups levels s + (place - length s.parts)) < length s.behind + length s.parts
group-begins levels s place above below = by_last (is_last_level levels s.node) (length s.behind) (length s.parts) above below
  where
    by_last : (last : Bool) (b p : ℕ) → p ≤ place → place < p + cond last ((b + p + 63) / 64 - b / 64) 0 → 64 * (cond last (b / 64) 0 + (place - p)) < b + p
    by_last true b p above below = omega arith
    by_last false b p above below = absurd (omega arith)

-- ---- part of a list

pub slice-more : (xs : List ℕ) (a p : ℕ) → a ≤ p → p < length xs → take (p + 1 - a) (drop a xs) ≡ take (p - a) (drop a xs) ++ get_or xs p 0 ∷ []
slice-more xs a p above below =
    let next : p + 1 - a ≡ (p - a) + 1 = omega arith in
    let within : p - a < length (drop a xs) = omega (arith, length-drop a xs) in
    let at : a + (p - a) ≡ p = omega arith in
    ap (λ k. take k (drop a xs)) next ∙ take_more (drop a xs) (p - a) 0 within
    ∙ ap (λ n. take (p - a) (drop a xs) ++ n ∷ []) (get_or-drop a xs (p - a) 0 ∙ ap (λ k. get_or xs k 0) at)

pub slice-end : (xs : List ℕ) (a b e : ℕ) → e ≤ b → e ≤ length xs → (e ≡ b) ⊎ (e ≡ length xs) → take (e - a) (drop a xs) ≡ take (b - a) (drop a xs)
slice-end xs a b e le within (inl same) = ap (λ k. take (k - a) (drop a xs)) same
slice-end xs a b e le within (inr same) =
    let count : length (drop a xs) ≡ length xs - a = length-drop a xs in
    take_all (e - a) (drop a xs) (omega arith) ∙ sym (take_all (b - a) (drop a xs) (omega arith))

pub length-slice : (xs : List ℕ) (a n : ℕ) → a + n ≤ length xs → length (take n (drop a xs)) ≡ n
length-slice xs a n fits = length-take-le n (drop a xs) (omega (arith, length-drop a xs))

pub min-cases : (a b : ℕ) → (min a b ≡ a) ⊎ (min a b ≡ b)
min-cases a b = elim (cases_Bool (nat_le a b)) [
  | inl less ↦ let le : a ≤ b = leb-true a b less in inl (omega arith)
  | inr more ↦ let above : b < a = leb-false a b more in inr (omega arith)
]

-- the tables of a group, as the call that lists them is told of its pile
pub told-tables : (levels : ℕ) (s : Share) (numbers behind : List ℕ) (first place kept t u : ℕ) → behind ≡ s.behind → kept ≡ kept_groups levels s → t ≡ length s.parts → u ≡ length s.parts
    → slice_range (behind ++ take (first + u - first) (drop first numbers)) (64 * (kept + (place - t))) (64 * (kept + (place - t)) + 64)
    ≡ slice_range (s.behind ++ take (length s.parts) (drop first numbers)) (64 * (kept_groups levels s + (place - length s.parts))) (64 * (kept_groups levels s + (place - length s.parts)) + 64)
told-tables levels s numbers behind first place kept t u behind_is kept_is t_is u_is =
    let count : first + u - first ≡ length s.parts = omega (arith, u_is) in
    let group_is : kept + (place - t) ≡ kept_groups levels s + (place - length s.parts) = ap (λ k. k + (place - t)) kept_is ∙ ap (λ k. kept_groups levels s + (place - k)) t_is in
    ap (λ xs. slice_range (xs ++ take (first + u - first) (drop first numbers)) (64 * (kept + (place - t))) (64 * (kept + (place - t)) + 64)) behind_is
    ∙ ap (λ k. slice_range (s.behind ++ take k (drop first numbers)) (64 * (kept + (place - t))) (64 * (kept + (place - t)) + 64)) count
    ∙ ap (λ j. slice_range (s.behind ++ take (length s.parts) (drop first numbers)) (64 * j) (64 * j + 64)) group_is

-- a group has a table
pub some-tables : (pile : List ℕ) (j : ℕ) → 64 * j < length pile → 1 ≤ length (slice_range pile (64 * j) (64 * j + 64))
some-tables pile j below =
    let count : length (drop (64 * j) pile) ≡ length pile - 64 * j = length-drop (64 * j) pile in
    omega (arith, length-take (64 * j + 64 - 64 * j) (drop (64 * j) pile), count)
