-- The tables of a group are none that its extent overwrites, and all lie on the device.
use Rattle.std.proofs.Common.{◌≡◌, ℕ, zero, suc, ◌+◌, ◌-◌, ◌<◌, ◌≤◌, ◌≢◌, refl, sym, ap, subst, ◌∙◌, List, [], ◌∷◌, ◌++◌, length, take, drop, get_or, true, false, not, ◌||◌, Option, Some, None, ⊎_elim, arith, eqb-true, eq-eqb, true≢false}
use Rattle.std.specs.Prelude.{◌==◌, slice_get, slice_range, IsTrue}
use Rattle.std.specs.List.{AllByRecursion}
use Rattle.std.proofs.lemmas.Bool.{and_parts, or_cases, or_right, not-true}
use Rattle.std.proofs.lemmas.List.{map-append, take_more}
use Rattle.lt_terms.specs.Bytes.{Image, block_at, is_in}
use Rattle.lt_terms.proofs.AmongLaws.{in_at, in_drop, in_either, in_take}
use Rattle.lt_format.specs.declared.geometry.Geometry.{Geometry}
use Rattle.lt_format.specs.Layout.{extent_block}
use Rattle.lt_format.specs.Trie.{all_distinct}
use Rattle.lt_container.specs.Columns.{InColumns}
use Rattle.lt_device.specs.Moments.{ShowsSameOutside}
use Rattle.lt_device.specs.State.{SameOutside}
use Rattle.lt_device.proofs.Steps.{same_some}
use Rattle.lt_htable.specs.Building.{InExtent}
use Rattle.lt_tables.specs.Filter.{IsGroup}
use Rattle.lt_tables.specs.Table.{blocks_from}
use Rattle.lt_image.specs.Shares.{Share}
use Rattle.lt_image.specs.Standing.{filter_blocks}
use Rattle.lt_compact.specs.Plans.{MayFill}

-- ---- numbers among others

-- some behind the first are among the first of all
in-front : (x m n k : ℕ) (xs : List ℕ) → m + n ≤ k → is_in x (take n (drop m xs)) ≡ true → is_in x (take k xs) ≡ true
in-front x zero n k [] le h = absurd (true≢false (sym (in_take x n [] h)))
in-front x zero zero k (y ∷ xs) le h = absurd (true≢false (sym h))
in-front x zero (suc n) zero (y ∷ xs) le h = absurd (omega arith)
in-front x zero (suc n) (suc k) (y ∷ xs) le h = ⊎_elim
    (λ (here : (y == x) ≡ true). ap (λ b. b || is_in x (take k xs)) here)
    (λ (there : is_in x (take n xs) ≡ true). or_right (y == x) (is_in x (take k xs)) (in-front x zero n k xs (omega arith) there))
    (or_cases (y == x) (is_in x (take n xs)) h)
in-front x (suc m) n k [] le h = absurd (true≢false (sym (in_take x n [] h)))
in-front x (suc m) n zero (y ∷ xs) le h = absurd (omega arith)
in-front x (suc m) n (suc k) (y ∷ xs) le h = or_right (y == x) (is_in x (take k xs)) (in-front x m n k xs (omega arith) h)

-- where none stands twice, one that stands earlier is another
distinct-at : (xs : List ℕ) (k x : ℕ) → all_distinct xs ≡ true → k < length xs → is_in x (take k xs) ≡ true → x ≢ get_or xs k 0
distinct-at [] k x once below h = absurd (omega arith)
distinct-at (y ∷ xs) zero x once below h = absurd (true≢false (sym h))
distinct-at (y ∷ xs) (suc k) x once below h =
    let parts = and_parts (not (is_in y xs)) (all_distinct xs) once in ⊎_elim
    (λ (here : (y == x) ≡ true).
    let same : y ≡ x = eqb-true y x here in λ e. true≢false (sym (subst (λ z. is_in z xs ≡ true) (sym (same ∙ e)) (in_at xs k 0 (omega arith))) ∙ not-true (is_in y xs) parts.0))
    (λ (there : is_in x (take k xs) ≡ true). distinct-at xs k x parts.1 (omega arith) there)
    (or_cases (y == x) (is_in x (take k xs)) h)

-- ---- the tables of a group

-- no block of this extent is among those of the other, and the extent lies on the device
pub record IsOther (g : Geometry) (blocks number x : ℕ) : Type 0 where
  pub other : x ≢ number
  pub within : extent_block g x + 65 ≤ blocks

pub filters-apart : (g : Geometry) (number x : ℕ) → x ≢ number → InExtent (extent_block g number) (extent_block g x + 64) → ⊥
filters-apart g number x other inside =
    let low : extent_block g number ≤ extent_block g x + 64 = inside.0 in
    let high : extent_block g x + 64 < extent_block g number + 65 = inside.1 in
    let same : x ≡ number = omega arith in other same

all-at : {A : Type 0} (P : A → Type 0) (xs : List A) (i : ℕ) (x : A) → AllByRecursion P xs → slice_get xs i ≡ Some x → P x
all-at P [] i x all is = absurd (let none : None ≡ Some x = is in cc)
all-at P (y ∷ xs) zero x all is = let same : y ≡ x = cc in subst P same all.0
all-at P (y ∷ xs) (suc i) x all is = all-at P xs i x all.1 is

-- THE TABLES OF A GROUP are others than its extent
pub group-others : (g : Geometry) (blocks : ℕ) (shares : List Share) (numbers : List ℕ) (i : ℕ) (s : Share) (first place filled a b x : ℕ) → MayFill g blocks shares numbers → slice_get shares i ≡ Some s
    → filled ≡ first + place → length s.parts ≤ place → filled < length numbers → is_in x (slice_range (s.behind ++ take (length s.parts) (drop first numbers)) a b) ≡ true → IsOther g blocks (get_or numbers filled 0) x
group-others g blocks shares numbers i s first place filled a b x may there is above below found =
    ⊎_elim old new (in_either x s.behind (take (length s.parts) (drop first numbers)) (in_drop x a (s.behind ++ take (length s.parts) (drop first numbers)) (in_take x (b - a) (drop a (s.behind ++ take (length s.parts) (drop first numbers))) found)))
  where
    old : is_in x s.behind ≡ true → IsOther g blocks (get_or numbers filled 0) x
    old h = record {
      other = λ e. true≢false (sym (subst (λ z. is_in z numbers ≡ true) (sym e) (in_at numbers filled 0 below)) ∙ all-at (λ (s : Share). (x : ℕ) → IsTrue (is_in x s.behind) → is_in x numbers ≡ false) shares i s may.apart there x h);
      within = all-at (λ (s : Share). (x : ℕ) → IsTrue (is_in x s.behind) → extent_block g x + 65 ≤ blocks) shares i s may.behind there x h;
    }

    new : is_in x (take (length s.parts) (drop first numbers)) ≡ true → IsOther g blocks (get_or numbers filled 0) x
    new h = record {
      other = distinct-at numbers filled x may.distinct below (in-front x first (length s.parts) filled numbers (omega arith) h);
      within = may.within x (in_drop x first numbers (in_take x (length s.parts) (drop first numbers) h));
    }

pub number-within : (g : Geometry) (blocks : ℕ) (shares : List Share) (numbers : List ℕ) (filled : ℕ) → MayFill g blocks shares numbers → filled < length numbers → extent_block g (get_or numbers filled 0) + 65 ≤ blocks
number-within g blocks shares numbers filled may below = may.within (get_or numbers filled 0) (in_at numbers filled 0 below)

-- ---- the filter blocks stay

pub filters-stay : (g : Geometry) (before image : Image) (tables : List ℕ) → ((x : ℕ) → is_in x tables ≡ true → block_at before (extent_block g x + 64) ≡ block_at image (extent_block g x + 64)) → filter_blocks g before tables ≡ filter_blocks g image tables
filters-stay g before image [] same = refl
filters-stay g before image (x ∷ tables) same =
    let here : block_at before (extent_block g x + 64) ≡ block_at image (extent_block g x + 64) = same x (ap (λ b. b || is_in x tables) (eq-eqb x x refl)) in
    let rest : filter_blocks g before tables ≡ filter_blocks g image tables = filters-stay g before image tables (λ y h. same y (or_right (x == y) (is_in y tables) h)) in
    ap (λ b. b ∷ filter_blocks g before tables) here ∙ ap (λ bs. block_at image (extent_block g x + 64) ∷ bs) rest

-- A GROUP that is made of the filters that the device told before is that of the filters that it tells afterwards
pub group-after : (g : Geometry) (first : ℕ) (tables : List ℕ) (pages : List (List ℕ)) (old new : Option Image) → ((image : Image) → old ≡ Some image → pages ≡ filter_blocks g image tables)
    → ((image : Image) → new ≡ Some image → IsGroup pages (blocks_from image first)) → ShowsSameOutside (InColumns first) old new
    → ((x : ℕ) → IsTrue (is_in x tables) → InExtent first (extent_block g x + 64) → ⊥) → (before image : Image) → old ≡ Some before → new ≡ Some image → IsGroup (filter_blocks g image tables) (blocks_from image first)
group-after g first tables pages old new read made others apart before image was is =
    let shown = others.each before was in
    let same : shown.0 ≡ image = same_some new shown.0 image shown.1 is in
    let outside : SameOutside (InColumns first) before image = subst (SameOutside (InColumns first) before) same shown.2 in
    let pages_are : pages ≡ filter_blocks g image tables = read before was
    ∙ filters-stay g before image tables (λ x there. sym (outside.others (extent_block g x + 64) (λ inside. apart x there (inside.0, omega (arith, inside.1))))) in
    subst (λ ps. IsGroup ps (blocks_from image first)) pages_are (made image is)

-- one page more was read
pub filters-more : (g : Geometry) (image : Image) (tables : List ℕ) (pages new : List (List ℕ)) (page : List ℕ) (i : ℕ) → i < length tables → new ≡ pages ++ page ∷ [] → pages ≡ filter_blocks g image (take i tables)
    → page ≡ block_at image (extent_block g (get_or tables i 0) + 64) → new ≡ filter_blocks g image (take (i + 1) tables)
filters-more g image tables pages new page i below is pages_are page_is =
    is ∙ ap (λ ps. ps ++ page ∷ []) pages_are ∙ ap (λ p. filter_blocks g image (take i tables) ++ p ∷ []) page_is
    ∙ sym (ap (filter_blocks g image) (take_more tables i 0 below) ∙ map-append (λ x. block_at image (extent_block g x + 64)) (take i tables) (get_or tables i 0 ∷ []))
