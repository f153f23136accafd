-- Extent numbers that were read are new.
use Rattle.std.proofs.Common.{◌≡◌, ℕ, zero, suc, ◌≤◌, refl, sym, ap, subst, ◌∙◌, Bool, true, false, not, ◌&&◌, ◌||◌, List, [], ◌∷◌, ◌++◌, length, Ok, IsTrue, arith}
use Rattle.std.specs.Prelude.{nat_lt, ◌==◌}
use Rattle.std.specs.Int.{w32}
use Rattle.std.specs.List.{list_all}
use Rattle.std.proofs.lemmas.Bool.{and_parts, and_from, not-true, not_from_false, ne_eqb, eqb-false, or_parts}
use Rattle.std.proofs.lemmas.List.Folds.{list_all-append}
use Rattle.lt_terms.specs.Bytes.{is_in}
use Rattle.lt_format.specs.Trie.{Trie, named, all_distinct, all_below}
use Rattle.lt_format.specs.Changes.{are_new}
use Rattle.lt_format.specs.Snapshot.{field, extents_at}
use Rattle.lt_format.proofs.Numbers.{times-append, times-below, below-times, distinct-joined, below-joined}
use Rattle.lt_format.proofs.ReadLaws.{bind_ok, ok_same, field_ok}

abbrev pub none_in : List ℕ → List ℕ → Bool
none_in before xs = list_all (λ x. not (is_in x before)) xs

-- distinct numbers below the limit, none of which was there before
pub record AreNew (extents : ℕ) (before xs : List ℕ) : Type 0 where
  pub distinct : all_distinct xs ≡ true
  pub below : all_below extents xs ≡ true
  pub apart : none_in before xs ≡ true

flip : (x y : ℕ) → (x == y) ≡ false → (y == x) ≡ false
flip x y other = ne_eqb y x (λ e. eqb-false x y other (sym e))

-- numbers that are not among x and those before
apart-parts : (x : ℕ) (before xs : List ℕ) → none_in (x ∷ before) xs ≡ true → (none_in before xs ≡ true) × (is_in x xs ≡ false)
apart-parts x before [] h = (refl, refl)
apart-parts x before (y ∷ xs) h =
    let both = and_parts (not (is_in y (x ∷ before))) (none_in (x ∷ before) xs) h in
    let head = or_parts (x == y) (is_in y before) (not-true _ both.0) in
    let rest = apart-parts x before xs both.1 in
    let other : (y == x) ≡ false = flip x y head.0 in
    (and_from (not (is_in y before)) (none_in before xs) (not_from_false _ head.1) rest.0, rw (other, rest.1) refl)

pub extents_at-new : (bytes : ℕ → ℕ) (limit extents n : ℕ) (before : List ℕ) (at : ℕ) (xs : List ℕ) (next : ℕ) → extents_at bytes limit extents n before at ≡ Ok (xs, next) → AreNew extents before xs
unfolding extents_at
extents_at-new bytes limit extents zero before at xs next h =
    let none : [] ≡ xs = ap (λ (p : List ℕ × ℕ). p.0) (ok_same ([], at) (xs, next) h) in
    subst (AreNew extents before) none (record { distinct = refl; below = refl; apart = refl })
extents_at-new bytes limit extents (suc n) before at xs next h =
    let first = bind_ok (field bytes limit w32 (λ x. nat_lt x extents && not (is_in x before)) at) _ (xs, next) h in
    let others = bind_ok (extents_at bytes limit extents n (first.0.0 ∷ before) first.0.1) _ _ first.2 in
    let whole : first.0.0 ∷ others.0.0 ≡ xs = ap (λ (p : List ℕ × ℕ). p.0) (ok_same (first.0.0 ∷ others.0.0, others.0.1) (xs, next) others.2) in
    let new = extents_at-new bytes limit extents n (first.0.0 ∷ before) first.0.1 others.0.0 others.0.1 others.1 in
    let passes = and_parts (nat_lt first.0.0 extents) (not (is_in first.0.0 before)) (field_ok bytes limit w32 (λ x. nat_lt x extents && not (is_in x before)) at first.0 first.1) in
    let apart = apart-parts first.0.0 before others.0.0 new.apart in
    subst (AreNew extents before) whole (record {
      distinct = and_from (not (is_in first.0.0 others.0.0)) (all_distinct others.0.0) (not_from_false _ apart.1) new.distinct;
      below = and_from (nat_lt first.0.0 extents) (all_below extents others.0.0) passes.0 new.below;
      apart = and_from (not (is_in first.0.0 before)) (none_in before others.0.0) passes.1 apart.0;
    })

-- there are as many as were wanted
pub extents_at-count : (bytes : ℕ → ℕ) (limit extents n : ℕ) (before : List ℕ) (at : ℕ) (xs : List ℕ) (next : ℕ) → extents_at bytes limit extents n before at ≡ Ok (xs, next) → length xs ≡ n
unfolding extents_at
extents_at-count bytes limit extents zero before at xs next h = ap (λ (p : List ℕ × ℕ). length p.0) (sym (ok_same ([], at) (xs, next) h))
extents_at-count bytes limit extents (suc n) before at xs next h =
    let first = bind_ok (field bytes limit w32 (λ x. nat_lt x extents && not (is_in x before)) at) _ (xs, next) h in
    let others = bind_ok (extents_at bytes limit extents n (first.0.0 ∷ before) first.0.1) _ _ first.2 in
    ap (λ (p : List ℕ × ℕ). length p.0) (sym (ok_same (first.0.0 ∷ others.0.0, others.0.1) (xs, next) others.2)) ∙ ap suc (extents_at-count bytes limit extents n (first.0.0 ∷ before) first.0.1 others.0.0 others.0.1 others.1)

none_in-parts : (xs before ys : List ℕ) → none_in (xs ++ before) ys ≡ true → (none_in xs ys ≡ true) × (none_in before ys ≡ true)
none_in-parts [] before ys h = (all_none ys, h)
  where
    all_none : (zs : List ℕ) → none_in [] zs ≡ true
    all_none [] = refl
    all_none (z ∷ zs) = all_none zs
none_in-parts (x ∷ xs) before ys h =
    let one = apart-parts x (xs ++ before) ys h in
    let rest = none_in-parts xs before ys one.0 in
    (more x xs ys one.1 rest.0, rest.1)
  where
    more : (z : ℕ) (zs ws : List ℕ) → is_in z ws ≡ false → none_in zs ws ≡ true → none_in (z ∷ zs) ws ≡ true
    more z zs [] absent h = refl
    more z zs (w ∷ ws) absent h =
        let both = and_parts (not (is_in w zs)) (none_in zs ws) h in
        let head = or_parts (w == z) (is_in z ws) absent in
        let other : (z == w) ≡ false = flip w z head.0 in
        and_from (not ((z == w) || is_in w zs)) (none_in (z ∷ zs) ws) (rw other both.0) (more z zs ws head.1 both.1)

-- those of a node
pub new-joined : (extents : ℕ) (before xs ys : List ℕ) → AreNew extents before xs → AreNew extents (xs ++ before) ys → AreNew extents before (xs ++ ys)
new-joined extents before xs ys first second =
    let apart = none_in-parts xs before ys second.apart in
    record {
      distinct = distinct-joined xs ys (xs ++ ys) first.distinct second.distinct apart.0 (λ x. omega (arith, times-append x xs ys));
      below = below-joined extents xs ys (xs ++ ys) first.below second.below (λ x. omega (arith, times-append x xs ys));
      apart = list_all-append (λ x. not (is_in x before)) xs ys ∙ and_from (none_in before xs) (none_in before ys) first.apart apart.1;
    }

pub are_new-from : (limit extents : ℕ) (trie : Trie) (xs : List ℕ) → extents ≤ limit → AreNew extents (named trie) xs → IsTrue (are_new limit trie xs)
are_new-from limit extents trie xs fits new = and_from _ (none_in (named trie) xs) (and_from (all_distinct xs) (all_below limit xs) new.distinct (below-times limit xs (λ x past. times-below extents xs new.below x (omega arith)))) new.apart
