-- Numbers of extents in lists, and blocks outside the extents of some.
use Rattle.std.proofs.Common.{◌≡◌, ℕ, ◌+◌, ◌<◌, refl, sym, subst, ◌∙◌, List, [], ◌∷◌, ◌++◌, Bool, true, false, not, ◌||◌, arith}
use Rattle.std.specs.Prelude.{◌==◌}
use Rattle.std.specs.List.{AllByRecursion}
use Rattle.std.proofs.lemmas.Bool.{and_parts, eq-eqb, eqb-true, not-true, or_left, or_right, true≢false}
use Rattle.lt_terms.specs.Bytes.{Image, is_in}
use Rattle.lt_terms.proofs.AmongLaws.{in_right}
use Rattle.lt_device.specs.State.{SameOutside}
use Rattle.lt_format.specs.declared.geometry.Geometry.{Geometry}
use Rattle.lt_format.specs.Layout.{extent_block}
use Rattle.lt_format.specs.Trie.{all_distinct}
use Rattle.lt_image.specs.After.{SameExtent, SameExtents}
use Rattle.lt_compact.specs.Steps.{InExtents}

-- ---- numbers in a list

-- what is true of all is true of each
pub each_of : (P : ℕ → Type 0) (xs : List ℕ) → AllByRecursion P xs → (x : ℕ) → is_in x xs ≡ true → P x
each_of P [] all x there = absurd (true≢false (sym there))
each_of P (y ∷ xs) all x there = by_test (y == x) refl there (each_of P xs all.1 x)
  where
    by_test : (b : Bool) → (y == x) ≡ b → (b || is_in x xs) ≡ true → (is_in x xs ≡ true → P x) → P x
    by_test true same there later = subst P (eqb-true y x same) all.0
    by_test false other there later = later there

pub all_those : (P : ℕ → Type 0) (xs : List ℕ) → ((x : ℕ) → is_in x xs ≡ true → P x) → AllByRecursion P xs
all_those P [] each = tt
all_those P (y ∷ xs) each = (each y (or_left (y == y) (is_in y xs) (eq-eqb y y refl)), all_those P xs (λ x there. each x (or_right (y == x) (is_in x xs) there)))

-- in a list without repetition what stands in front stands nowhere behind
pub apart-joined : (xs ys : List ℕ) → all_distinct (xs ++ ys) ≡ true → (x : ℕ) → is_in x xs ≡ true → is_in x ys ≡ false
apart-joined [] ys distinct x there = absurd (true≢false (sym there))
apart-joined (y ∷ xs) ys distinct x there = by_test (y == x) refl there (apart-joined xs ys (and_parts (not (is_in y (xs ++ ys))) (all_distinct (xs ++ ys)) distinct).1 x)
  where
    none : is_in y (xs ++ ys) ≡ false
    none = not-true _ (and_parts (not (is_in y (xs ++ ys))) (all_distinct (xs ++ ys)) distinct).0

    absent : (b : Bool) → is_in y ys ≡ b → is_in y ys ≡ false
    absent true is = absurd (true≢false (sym (in_right y xs ys is) ∙ none))
    absent false is = is

    by_test : (b : Bool) → (y == x) ≡ b → (b || is_in x xs) ≡ true → (is_in x xs ≡ true → is_in x ys ≡ false) → is_in x ys ≡ false
    by_test true same there later = subst (λ n. is_in n ys ≡ false) (eqb-true y x same) (absent (is_in y ys) refl)
    by_test false other there later = later there

pub distinct_behind : (xs ys : List ℕ) → all_distinct (xs ++ ys) ≡ true → all_distinct ys ≡ true
distinct_behind [] ys distinct = distinct
distinct_behind (x ∷ xs) ys distinct = distinct_behind xs ys (and_parts (not (is_in x (xs ++ ys))) (all_distinct (xs ++ ys)) distinct).1

-- and what is in none of the list is in no part of it
pub not_in_part : (x : ℕ) (part whole : List ℕ) → (is_in x part ≡ true → is_in x whole ≡ true) → is_in x whole ≡ false → is_in x part ≡ false
not_in_part x part whole within none = decide (is_in x part) refl
  where
    decide : (b : Bool) → is_in x part ≡ b → is_in x part ≡ false
    decide true is = absurd (true≢false (sym (within is) ∙ none))
    decide false is = is

-- ---- blocks

-- the blocks of an extent that is not among some lie outside theirs
outside : (g : Geometry) (numbers : List ℕ) (x c : ℕ) → c < 65 → is_in x numbers ≡ false → InExtents g numbers (extent_block g x + c) → ⊥
outside g numbers x c small none inside =
    let same : inside.number ≡ x = let from = inside.from in let to = inside.to in omega arith in
    true≢false (sym (subst (λ n. is_in n numbers ≡ true) same inside.among) ∙ none)

-- where two images agree outside some extents, they agree on all others
pub others-same : (g : Geometry) (numbers : List ℕ) (old new : Image) (xs : List ℕ) → SameOutside (InExtents g numbers) old new → ((x : ℕ) → is_in x xs ≡ true → is_in x numbers ≡ false) → SameExtents g old new xs
others-same g numbers old new xs same apart = all_those (SameExtent g old new) xs (λ x there c small. same.others (extent_block g x + c) (outside g numbers x c small (apart x there)))
