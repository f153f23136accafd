-- Extent numbers that are read one after another.
use Rattle.std.proofs.Common.{◌≡◌, ℕ, suc, ◌+◌, ◌-◌, ◌<◌, ◌≤◌, refl, sym, ap, ◌∙◌, Bool, true, false, not, ◌&&◌, ◌||◌, List, [], ◌∷◌, ◌++◌, Result, Ok, Err, arith, append-nil, append_assoc}
use Rattle.std.specs.Prelude.{◌==◌, nat_lt}
use Rattle.std.specs.Int.{w32}
use Rattle.std.proofs.lemmas.List.Folds.{list_any-append}
use Rattle.lt_terms.specs.Bytes.{is_in}
use Rattle.lt_format.specs.Snapshot.{field, extents_at, ◌>>=◌}
use Rattle.lt_node.specs.Marks.{AreMarks}
use Rattle.lt_format.proofs.AlikeLaws.{SameNumbers, extents_at-same}

-- these numbers, and what was read behind them
abbrev pub put_front : List ℕ → Result (List ℕ × ℕ) ℕ → Result (List ℕ × ℕ) ℕ
put_front xs (Ok (ys, at)) = Ok (xs ++ ys, at)
put_front xs (Err e) = Err e

moved_bits : (a b c : Bool) → ((a || (b || false)) || c) ≡ (b || (a || c))
moved_bits true true c = refl
moved_bits true false c = refl
moved_bits false true c = refl
moved_bits false false c = refl

-- a number in front, or behind the first list
pub same-moved : (x : ℕ) (xs before : List ℕ) → SameNumbers (x ∷ xs ++ before) ((xs ++ x ∷ []) ++ before)
same-moved x xs before z =
    sym (list_any-append (λ q. q == z) (xs ++ x ∷ []) before ∙ ap (λ b. b || is_in z before) (list_any-append (λ q. q == z) xs (x ∷ []))
    ∙ moved_bits (is_in z xs) (x == z) (is_in z before) ∙ ap (λ b. (x == z) || b) (sym (list_any-append (λ q. q == z) xs before)))

put_front-one : (xs : List ℕ) (x : ℕ) (r : Result (List ℕ × ℕ) ℕ) → put_front xs (r >>= (λ (rest : List ℕ × ℕ). Ok (x ∷ rest.0, rest.1))) ≡ put_front (xs ++ x ∷ []) r
put_front-one xs x (Ok (ys, at)) = ap (λ (zs : List ℕ). Ok (zs, at)) (sym (append_assoc xs (x ∷ []) ys))
put_front-one xs x (Err e) = refl

put_front-none : (r : Result (List ℕ × ℕ) ℕ) → r ≡ put_front [] r
put_front-none (Ok (ys, at)) = refl
put_front-none (Err e) = refl

module _ (bytes : ℕ → ℕ) (limit extents count at : ℕ) (before : List ℕ) where
  -- what is marked and read after so many numbers
  pub record IsPartRead (marks : List Bool) (done : ℕ) (list : List ℕ) (place : ℕ) : Type 0 where
    pub marks_are : AreMarks marks (list ++ before)
    pub goes_on : extents_at bytes limit extents count before at ≡ put_front list (extents_at bytes limit extents (count - done) (list ++ before) place)

  pub part-none : (marks : List Bool) → AreMarks marks before → IsPartRead marks 0 [] at
  part-none marks are =
      let all : count ≡ count - 0 = omega arith in
      record { marks_are = are; goes_on = put_front-none _ ∙ ap (λ k. put_front [] (extents_at bytes limit extents k before at)) all }

  -- the next number
  part-step : (n place x next : ℕ) (list : List ℕ) → field bytes limit w32 (λ y. nat_lt y extents && not (is_in y (list ++ before))) place ≡ Ok (x, next)
      → put_front list (extents_at bytes limit extents (suc n) (list ++ before) place) ≡ put_front (list ++ x ∷ []) (extents_at bytes limit extents n ((list ++ x ∷ []) ++ before) next)
  unfolding extents_at
  part-step n place x next list read =
      rw read (put_front-one list x (extents_at bytes limit extents n (x ∷ list ++ before) next)
      ∙ ap (put_front (list ++ x ∷ [])) (extents_at-same bytes bytes limit (λ i within. refl) extents n (x ∷ list ++ before) ((list ++ x ∷ []) ++ before) next (same-moved x list before)))

  pub part-more : (mid new : List Bool) (done place x next : ℕ) (list : List ℕ) → done < count → IsPartRead mid done list place
      → field bytes limit w32 (λ y. nat_lt y extents && not (is_in y (list ++ before))) place ≡ Ok (x, next) → AreMarks new (x ∷ list ++ before) → IsPartRead new (done + 1) (list ++ x ∷ []) next
  part-more mid new done place x next list some so_far read marks =
      let one : count - done ≡ suc (count - (done + 1)) = omega arith in
      record {
        marks_are = λ z within. marks z within ∙ same-moved x list before z;
        goes_on = so_far.goes_on ∙ ap (λ k. put_front list (extents_at bytes limit extents k (list ++ before) place)) one ∙ part-step (count - (done + 1)) place x next list read;
      }

  -- a number that does not stand
  part-bad : (n place e : ℕ) (list : List ℕ) → field bytes limit w32 (λ y. nat_lt y extents && not (is_in y (list ++ before))) place ≡ Err e → extents_at bytes limit extents (suc n) (list ++ before) place ≡ Err e
  unfolding extents_at
  part-bad n place e list read = rw read refl

  pub part-fault : (mid : List Bool) (done place e : ℕ) (list : List ℕ) → done < count → IsPartRead mid done list place
      → field bytes limit w32 (λ y. nat_lt y extents && not (is_in y (list ++ before))) place ≡ Err e → extents_at bytes limit extents count before at ≡ Err e
  part-fault mid done place e list some so_far read =
      let one : count - done ≡ suc (count - (done + 1)) = omega arith in
      so_far.goes_on ∙ ap (λ k. put_front list (extents_at bytes limit extents k (list ++ before) place)) one ∙ ap (put_front list) (part-bad (count - (done + 1)) place e list read)

  -- all of them
  pub part-all : (new : List Bool) (done place : ℕ) (list : List ℕ) → count ≤ done → IsPartRead new done list place → extents_at bytes limit extents count before at ≡ Ok (list, place)
  unfolding extents_at
  part-all new done place list all so_far =
      let none : count - done ≡ 0 = omega arith in
      let end : extents_at bytes limit extents (count - done) (list ++ before) place ≡ Ok ([], place) = rw none refl in
      so_far.goes_on ∙ ap (put_front list) end ∙ ap (λ (xs : List ℕ). Ok (xs, place)) (append-nil list)

swapped_bits : (a b c : Bool) → (a || (b || c)) ≡ ((b || a) || c)
swapped_bits true true c = refl
swapped_bits true false c = refl
swapped_bits false true c = refl
swapped_bits false false c = refl

-- lists in another order
pub same-swapped : (xs ys before : List ℕ) → SameNumbers (xs ++ (ys ++ before)) ((ys ++ xs) ++ before)
same-swapped xs ys before z =
    list_any-append (λ q. q == z) xs (ys ++ before) ∙ ap (λ b. is_in z xs || b) (list_any-append (λ q. q == z) ys before) ∙ swapped_bits (is_in z xs) (is_in z ys) (is_in z before)
    ∙ sym (list_any-append (λ q. q == z) (ys ++ xs) before ∙ ap (λ b. b || is_in z before) (list_any-append (λ q. q == z) ys xs))
