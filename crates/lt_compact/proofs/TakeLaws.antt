-- Extents that a job takes, and what its shares get of them.
use Rattle.std.proofs.Common.{◌≡◌, ℕ, ◌+◌, ◌<◌, ◌≤◌, refl, sym, ap, subst, ◌∙◌, List, [], ◌∷◌, ◌++◌, length, take, drop, get_or, Bool, true, false, not, ◌&&◌, ◌||◌, arith, add-one, append-nil, append_assoc, Result, Ok, Err}
use Rattle.std.specs.Prelude.{◌↔◌, IsErr, OnOk}
use Rattle.std.proofs.Math.Seq.{drop-cons, drop-length}
use Rattle.std.proofs.lemmas.Bool.{true≢false}
use Rattle.std.proofs.lemmas.List.{ext_get_or}
use Rattle.std.proofs.lemmas.List.Sums.{sum_by-cons}
use Rattle.lt_terms.specs.Bytes.{is_in}
use Rattle.lt_terms.proofs.AmongLaws.{in_place}
use Rattle.lt_alloc.specs.Extents.{is_free, Reserves}
use Rattle.lt_alloc.proofs.StackLaws.{is_free-within}
use Rattle.lt_format.specs.Changes.{ChildChange}
use Rattle.lt_format.specs.Trie.{all_distinct}
use Rattle.lt_format.proofs.Numbers.{pairs-distinct}
use Rattle.lt_image.specs.Shares.{Share, share_extents}
use Rattle.lt_compact.specs.Extents.{AllTaken}
use Rattle.lt_compact.specs.Plans.{all_given, extents_for, given_by}

-- ---- numbers at places

-- ---- what was reserved

module _ (count : ℕ) (taken now : List Bool) (numbers : List ℕ) (r : Reserves count taken now [] numbers) where
  pub reserved-len : length numbers ≡ count
  reserved-len = ap length r.appended ∙ r.len

  pub was_free : (x : ℕ) → is_in x numbers ≡ true → is_free taken x ≡ true
  was_free x there =
      let at = in_place x r.numbers (subst (λ xs. is_in x xs ≡ true) r.appended there) in
      subst (λ y. is_free taken y ≡ true) at.2 (r.were_free at.0 0 at.1)

  pub reserved-distinct : all_distinct numbers ≡ true
  reserved-distinct = subst (λ xs. all_distinct xs ≡ true) (sym r.appended) (pairs-distinct r.numbers (λ i j less below. r.differ i j 0 less below))

  now_is : (x : ℕ) → is_free now x ≡ (is_free taken x && not (is_in x numbers))
  now_is x = r.others_stay x ∙ ap (λ xs. is_free taken x && not (is_in x xs)) (sym r.appended)

  pub reserved-taken : AllTaken now numbers
  reserved-taken = record {
    below = λ x there. let below = is_free-within taken x (was_free x there) in let size = r.same_extents in omega (arith, below, size);
    each = λ x there. now_is x ∙ ap (λ b. is_free taken x && not b) there ∙ none (is_free taken x);
  }
    where
      none : (b : Bool) → (b && false) ≡ false
      none true = refl
      none false = refl

  -- what is given back is as before
  pub given-same : (given : List Bool) → length given ≡ length now → ((x : ℕ) → is_free given x ≡ (is_free now x || is_in x numbers)) → given ≡ taken
  given-same given size back = ext_get_or true given taken (size ∙ r.same_extents) (λ i below. not_same (get_or given i true) (get_or taken i true) (back i ∙ ap (λ b. b || is_in i numbers) (now_is i) ∙ decide i (is_in i numbers) refl))
    where
      not_same : (a b : Bool) → not a ≡ not b → a ≡ b
      not_same true true is = refl
      not_same true false is = absurd (true≢false (sym is))
      not_same false true is = absurd (true≢false is)
      not_same false false is = refl

      right : (b : Bool) → ((b && false) || true) ≡ true
      right true = refl
      right false = refl

      none : (b : Bool) → ((b && true) || false) ≡ b
      none true = refl
      none false = refl

      decide : (x : ℕ) (b : Bool) → is_in x numbers ≡ b → ((is_free taken x && not (is_in x numbers)) || is_in x numbers) ≡ is_free taken x
      decide x true is = ap (λ b. (is_free taken x && not b) || b) is ∙ right (is_free taken x) ∙ sym (was_free x is)
      decide x false is = ap (λ b. (is_free taken x && not b) || b) is ∙ none (is_free taken x)

-- ---- what the shares get

-- the shares from the i-th on still get theirs, of the extents that are left
pub record GivenSoFar (levels : ℕ) (shares : List Share) (numbers rest : List ℕ) (given : List ChildChange) (i : ℕ) : Type 0 where
  pub all : given ++ all_given levels (drop i shares) rest ≡ all_given levels shares numbers
  pub count : length rest ≡ extents_for levels (drop i shares)

-- the next share is at hand
pub record IsNextShare (levels : ℕ) (shares : List Share) (rest : List ℕ) (i : ℕ) (s : Share) : Type 0 where
  pub shares_are : drop i shares ≡ s ∷ drop (i + 1) shares
  pub enough : length rest ≡ share_extents levels s + extents_for levels (drop (i + 1) shares)

pub next-share : (levels : ℕ) (shares : List Share) (numbers rest : List ℕ) (given : List ChildChange) (i : ℕ) (s : Share) → i < length shares → s ≡ get_or shares i s → GivenSoFar levels shares numbers rest given i → IsNextShare levels shares rest i s
next-share levels shares numbers rest given i s small is so_far =
    let there : drop i shares ≡ s ∷ drop (i + 1) shares = drop-cons shares i s small ∙ (λ j. sym is j ∷ drop (sym (add-one i) j) shares) in
    record { shares_are = there; enough = so_far.count ∙ ap (extents_for levels) there ∙ sum_by-cons (share_extents levels) s (drop (i + 1) shares) }

pub given-more : (levels : ℕ) (shares : List Share) (numbers rest own behind : List ℕ) (given after : List ChildChange) (child : ChildChange) (i : ℕ) (s : Share) → i < length shares → s ≡ get_or shares i s
    → own ≡ take (share_extents levels s) rest → behind ≡ drop (share_extents levels s) rest → length behind + share_extents levels s ≡ length rest → child ≡ given_by levels s own → after ≡ given ++ child ∷ [] → GivenSoFar levels shares numbers rest given i → GivenSoFar levels shares numbers behind after (i + 1)
given-more levels shares numbers rest own behind given after child i s small is own_is behind_is lengths child_is after_is so_far =
    let next = next-share levels shares numbers rest given i s small is so_far in
    let tail : List ChildChange = all_given levels (drop (i + 1) shares) behind in
    record {
      all = ap (λ xs. xs ++ tail) after_is
          ∙ append_assoc given (child ∷ []) tail
          ∙ (λ j. given ++ (child_is ∙ ap (given_by levels s) own_is) j ∷ all_given levels (drop (i + 1) shares) (behind_is j))
          ∙ ap (λ ss. given ++ all_given levels ss rest) (sym next.shares_are)
          ∙ so_far.all;
      count = let enough = next.enough in omega arith;
    }

pub given-all : (levels : ℕ) (shares : List Share) (numbers rest : List ℕ) (given : List ChildChange) (i : ℕ) → length shares ≡ i → GivenSoFar levels shares numbers rest given i → given ≡ all_given levels shares numbers
given-all levels shares numbers rest given i all so_far =
    sym (append-nil given) ∙ ap (λ ss. given ++ all_given levels ss rest) (sym (ap (λ k. drop k shares) (sym all) ∙ drop-length shares)) ∙ so_far.all

-- ---- where enough are free

pub reserves-of : {T E : Type 0} (Q : Type 0) (needed free : ℕ) (result : Result T E) → (IsErr result ↔ (free < needed)) → needed ≤ free → OnOk result Q → Q
reserves-of Q needed free (Ok x) short enough here = here
reserves-of Q needed free (Err e) short enough here = absurd (let less = short.0 refl in omega arith)
