-- Whether items are loose, told by their kinds and by how many keys they have.
use Rattle.std.proofs.Common.{◌≡◌, ℕ, zero, suc, ◌+◌, ◌<◌, ◌≤◌, refl, sym, ap, subst, ◌∙◌, List, [], ◌∷◌, ◌++◌, length, get_or, Bool, true, false, not, cond, ◌||◌, arith, append_assoc}
use Rattle.std.specs.Prelude.{nat_lt, is_some}
use Rattle.std.specs.FinMap.{put}
use Rattle.std.specs.FinMap.Entries.{length-put}
use Rattle.std.specs.List.{flat_map}
use Rattle.std.proofs.lemmas.Bool.{lt-ltb}
use Rattle.std.proofs.lemmas.List.{append-nil, length-map}
use Rattle.std.proofs.lemmas.List.Folds.{list_any-append}
use Rattle.std.proofs.lemmas.List.Sums.{fold-append}
use Rattle.lt_terms.specs.Bytes.{same_bytes}
use Rattle.lt_terms.specs.Hashes.{rank_cmp}
use Rattle.lt_terms.specs.Items.{Item}
use Rattle.lt_tables.specs.Table.{has_two_versions, is_put, newest, ranked}
use Rattle.lt_tables.proofs.RankLaws.{find_ranked, rank_total, ranked_sorted}
use Rattle.lt_image.proofs.TableSoundLaws.{same_bytes-sym}
use Rattle.lt_compact.specs.Jobs.{is_loose}
use Rattle.lt_compact.proofs.StepLaws.{has_delete, has_key, has_key-newest_of, is_loose-more, meets, two-append}

-- fewer keys than items tell that some key stands twice
pub record Counted (items : List Item) : Type 0 where
  pub few : length (newest items) ≤ length items
  pub two : has_two_versions items ≡ nat_lt (length (newest items)) (length items)

-- the key of one item more
meets-one : (xs : List Item) (v : Item) → meets xs (v ∷ []) ≡ has_key v.key xs
meets-one [] v = refl
meets-one (w ∷ xs) v =
    ap (λ b. (b || false) || meets xs (v ∷ [])) (same_bytes-sym v.key w.key)
    ∙ ap (λ b. b || meets xs (v ∷ [])) (or_false (same_bytes w.key v.key))
    ∙ ap (λ b. same_bytes w.key v.key || b) (meets-one xs v)
  where
    or_false : (b : Bool) → (b || false) ≡ b
    or_false true = refl
    or_false false = refl

count-one : (xs : List Item) (v : Item) → length (newest (xs ++ v ∷ [])) ≡ cond (has_key v.key xs) (length (newest xs)) (length (newest xs) + 1)
count-one xs v =
    length-map (ranked (xs ++ v ∷ [])) (λ e. e.1)
    ∙ ap length (fold-append (λ es (v : Item). put rank_cmp v.key v es) [] xs (v ∷ []))
    ∙ length-put rank_cmp rank_total v.key v (ranked xs) (ranked_sorted xs)
    ∙ ap (λ o. cond (is_some o) (length (ranked xs)) (length (ranked xs) + 1)) (find_ranked xs v.key)
    ∙ ap (λ b. cond b (length (ranked xs)) (length (ranked xs) + 1)) (has_key-newest_of v.key xs)
    ∙ ap (λ n. cond (has_key v.key xs) n (n + 1)) (sym (length-map (ranked xs) (λ e. e.1)))

one_more : (b : Bool) (n l : ℕ) → n ≤ l → (nat_lt n l || (b || false)) ≡ nat_lt (cond b n (n + 1)) (l + 1)
one_more true n l le = or_true (nat_lt n l) ∙ sym (lt-ltb n (l + 1) (omega arith))
  where
    or_true : (a : Bool) → (a || true) ≡ true
    or_true true = refl
    or_true false = refl
one_more false n l le = grind arith

at_most : (b : Bool) (n l : ℕ) → n ≤ l → cond b n (n + 1) ≤ l + 1
at_most true n l le = omega arith
at_most false n l le = omega arith

length-one : (xs : List Item) (v : Item) → length (xs ++ v ∷ []) ≡ length xs + 1
length-one [] v = refl
length-one (x ∷ xs) v = omega (arith, length-one xs v)

counted-one : (xs : List Item) (v : Item) → Counted xs → Counted (xs ++ v ∷ [])
counted-one xs v h = record {
  few = subst (λ n. n ≤ length (xs ++ v ∷ [])) (sym (count-one xs v)) (subst (λ l. cond (has_key v.key xs) (length (newest xs)) (length (newest xs) + 1) ≤ l) (sym (length-one xs v)) (at_most (has_key v.key xs) (length (newest xs)) (length xs) h.few));
  two = two-append xs (v ∷ [])
      ∙ ap (λ b. b || (meets xs (v ∷ []) || false)) h.two
      ∙ ap (λ b. nat_lt (length (newest xs)) (length xs) || (b || false)) (meets-one xs v)
      ∙ one_more (has_key v.key xs) (length (newest xs)) (length xs) h.few
      ∙ ap (λ n. nat_lt n (length xs + 1)) (sym (count-one xs v))
      ∙ ap (λ l. nat_lt (length (newest (xs ++ v ∷ []))) l) (sym (length-one xs v));
}

counted-more : (xs vs : List Item) → Counted xs → Counted (xs ++ vs)
counted-more xs [] h = subst Counted (sym (append-nil xs)) h
counted-more xs (v ∷ vs) h = subst Counted (append_assoc xs (v ∷ []) vs) (counted-more (xs ++ v ∷ []) vs (counted-one xs v h))

-- ALL ITEMS
pub counted : (items : List Item) → Counted items
counted items = counted-more [] items (record { few = omega arith; two = refl })

-- what is told of items: loose before, a delete, or fewer keys than items
pub loose-told : (loose : Bool) (items : List Item) → ((loose || has_delete items) || nat_lt (length (newest items)) (length items)) ≡ (loose || is_loose items)
loose-told true items = refl
loose-told false items = ap (λ b. has_delete items || b) (sym (counted items).two)

-- in one list the newest of each key stand for the same
pub loose-kept : (loose : Bool) (items : List Item) → ((loose || is_loose items) || is_loose (newest items)) ≡ (loose || is_loose items)
loose-kept true items = refl
loose-kept false items = ap (λ xs. is_loose items || is_loose xs) (sym (append-nil (newest items))) ∙ is_loose-more items [] ∙ ap is_loose (append-nil items)

-- deletes are looked for list by list
pub deletes-more : {A : Type 0} (f : A → List Item) (x : A) (xs : List A) → has_delete (flat_map f (x ∷ xs)) ≡ (has_delete (f x) || has_delete (flat_map f xs))
deletes-more f x xs = list_any-append (λ v. not (is_put v)) (f x) (flat_map f xs)

-- a delete in one list
pub deletes-here : {A : Type 0} (f : A → List Item) (xs : List A) (i : ℕ) (x : A) → i < length xs → x ≡ get_or xs i x → has_delete (f x) ≡ true → has_delete (flat_map f xs) ≡ true
deletes-here f [] i x below is h = absurd (omega arith)
deletes-here f (y ∷ xs) zero x below is h = deletes-more f y xs ∙ ap (λ z. has_delete (f z) || has_delete (flat_map f xs)) (sym is) ∙ ap (λ b. b || has_delete (flat_map f xs)) h
deletes-here f (y ∷ xs) (suc i) x below is h = deletes-more f y xs ∙ ap (λ b. has_delete (f y) || b) (deletes-here f xs i x (omega arith) is h) ∙ or_true (has_delete (f y))
  where
    or_true : (a : Bool) → (a || true) ≡ true
    or_true true = refl
    or_true false = refl
