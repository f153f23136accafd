-- Places of items: the newest of each key, by an ordered map, and what is moved from them.
use Rattle.std.proofs.Common.{◌≡◌, ◌≢◌, ℕ, zero, suc, ◌+◌, ◌<◌, ◌≤◌, refl, sym, ap, subst, ◌∙◌, Bool, cond, set, List, [], ◌∷◌, ◌++◌, length, map, take, get_or, Option, Some, None, true, false, arith}
use Rattle.std.specs.Prelude.{slice_get, slice_index, slice_index_or, IsSome}
use Rattle.std.specs.List.{flat_map}
use Rattle.std.specs.Option.{option_to_list}
use Rattle.std.specs.Cmp.Lexicographic.{bytes_decides}
use Rattle.std.proofs.Math.Seq.{take-length}
use Rattle.std.proofs.lemmas.List.{append-nil, take_more, length-map, get_or-set_other, get_or_default}
use Rattle.std.proofs.lemmas.List.Sums.{fold-append}
use Rattle.std.proofs.lemmas.Option.{none-some}
use Rattle.std.specs.declared.cmp.Ordering.{Ordering}
use Rattle.std.specs.declared.cmp.Ordering.TheVariants.{Less, Equal, Greater}
use Rattle.std.specs.Ordering.{match_ordering}
use Rattle.std.specs.FinMap.{put}
use Rattle.std.specs.FinMap.Entries.{by_order}
use Rattle.std.specs.BTreeMap.{insert_entry}
use Rattle.lt_terms.specs.Bytes.{same_bytes}
use Rattle.lt_terms.specs.Hashes.{rank_cmp}
use Rattle.lt_terms.specs.Items.{Item}
use Rattle.lt_tables.specs.Table.{newest, newest_of, ranked, versions_of}
use Rattle.lt_tables.specs.Alike.{HasOnce}
use Rattle.lt_tables.proofs.PartLaws.{HasOnce-newest}
use Rattle.lt_merge.specs.Places.{AreApart, AreFilled, PointTo, with_values}

by_one : {V W : Type 0} (f : V → W) (o : Ordering) (a b : List (List ℕ × V)) (e : List ℕ × V) (rest : List (List ℕ × V)) (c d more : List (List ℕ × W)) → with_values f a ≡ c → with_values f b ≡ d → with_values f rest ≡ more
    → with_values f (match_ordering o a b (e ∷ rest)) ≡ by_order o c d ((e.0, f e.1) ∷ more)
by_one f Less a b e rest c d more a_is b_is rest_is = a_is
by_one f Equal a b e rest c d more a_is b_is rest_is = b_is
by_one f Greater a b e rest c d more a_is b_is rest_is = ap (λ more. (e.0, f e.1) ∷ more) rest_is

-- an insertion into a map by rank puts what its value stands for under the key
pub with_values-insert : {V W : Type 0} (f : V → W) (key : List ℕ) (v : V) (es : List (List ℕ × V)) → with_values f (insert_entry rank_cmp es key v) ≡ put rank_cmp key (f v) (with_values f es)
with_values-insert f key v [] = refl
with_values-insert f key v (e ∷ es) =
    by_one f (rank_cmp key e.0) ((key, v) ∷ e ∷ es) ((e.0, v) ∷ es) e (insert_entry rank_cmp es key v) _ _ _ refl refl (with_values-insert f key v es)

put_by : {V : Type 0} (o : Ordering) (a b rest more : List (List ℕ × V)) (e : List ℕ × V) → rest ≡ more → match_ordering o a b (e ∷ rest) ≡ by_order o a b (e ∷ more)
put_by Less a b rest more e same = refl
put_by Equal a b rest more e same = refl
put_by Greater a b rest more e same = ap (λ xs. e ∷ xs) same

put-insert : {V : Type 0} (key : List ℕ) (v : V) (es : List (List ℕ × V)) → insert_entry rank_cmp es key v ≡ put rank_cmp key v es
put-insert key v [] = refl
put-insert key v (e ∷ es) = put_by (rank_cmp key e.0) ((key, v) ∷ e ∷ es) ((e.0, v) ∷ es) (insert_entry rank_cmp es key v) (put rank_cmp key v es) e (put-insert key v es)

-- as does the list that a fold makes
with_values-put : {V W : Type 0} (f : V → W) (key : List ℕ) (v : V) (es : List (List ℕ × V)) → with_values f (put rank_cmp key v es) ≡ put rank_cmp key (f v) (with_values f es)
with_values-put f key v es = ap (with_values f) (sym (put-insert key v es)) ∙ with_values-insert f key v es

pub slice_get-at : {A : Type 0} (xs : List A) (i : ℕ) (x : A) → i < length xs → x ≡ get_or xs i x → slice_get xs i ≡ Some x
slice_get-at [] i x within is = absurd (omega arith)
slice_get-at (y ∷ xs) zero x within is = ap Some (sym is)
slice_get-at (y ∷ xs) (suc i) x within is = slice_get-at xs i x (omega arith) is

-- one item more
pub points-more : (all : List Item) (old new : List (List ℕ × ℕ)) (n : ℕ) (x : Item) → n < length all → x ≡ get_or all n x → new ≡ insert_entry rank_cmp old x.key n → PointTo all old n → PointTo all new (n + 1)
points-more all old new n x within is new_is so_far =
    ap (with_values (slice_get all)) new_is
    ∙ with_values-insert (slice_get all) x.key n old
    ∙ ap (λ o. put rank_cmp x.key o (with_values (slice_get all) old)) (slice_get-at all n x within is)
    ∙ ap (put rank_cmp x.key (Some x)) so_far
    ∙ sym (with_values-put Some x.key x (ranked (take n all)))
    ∙ ap (with_values Some) (sym (ranked-more (take n all) x))
    ∙ ap (λ xs. with_values Some (ranked xs)) (sym (take_more all n x within ∙ ap (λ y. take n all ++ y ∷ []) (sym is)))
  where
    ranked-more : (xs : List Item) (x : Item) → ranked (xs ++ x ∷ []) ≡ put rank_cmp x.key x (ranked xs)
    ranked-more xs x = fold-append (λ es (v : Item). put rank_cmp v.key v es) [] xs (x ∷ [])

values_of : {V W : Type 0} (f : V → W) (es : List (List ℕ × V)) → map (λ e. e.1) (with_values f es) ≡ map f (map (λ e. e.1) es)
values_of f [] = refl
values_of f (e ∷ es) = ap (λ vs. f e.1 ∷ vs) (values_of f es)

-- at the places of all entries stand the newest items
pub points-newest : (all : List Item) (entries : List (List ℕ × ℕ)) → PointTo all entries (length all) → map (slice_get all) (map (λ e. e.1) entries) ≡ map Some (newest all)
points-newest all entries points =
    sym (values_of (slice_get all) entries)
    ∙ ap (map (λ e. e.1)) (points ∙ ap (λ xs. with_values Some (ranked xs)) (take-length all))
    ∙ values_of Some (ranked all)

-- ---- no place stands twice

-- each key stands at most once
record AtMostOnce (items : List Item) : Type 0 where
  each : (key : List ℕ) → length (versions_of key items) ≤ 1

once_at_most : (items : List Item) → HasOnce items → AtMostOnce items
once_at_most items once = record { each = λ key. subst (λ (xs : List Item). length xs ≤ 1) (sym (once.each key)) (few (newest_of key items)) }
  where
    few : (o : Option Item) → length (option_to_list o) ≤ 1
    few None = omega arith
    few (Some x) = omega arith

once_behind : (x : Item) (xs : List Item) → AtMostOnce (x ∷ xs) → AtMostOnce xs
once_behind x xs once = record { each = λ key. less (same_bytes x.key key) (versions_of key xs) (once.each key) }
  where
    less : (b : Bool) (vs : List Item) → length (cond b (x ∷ vs) vs) ≤ 1 → length vs ≤ 1
    less true vs h = omega arith
    less false vs h = h

has_version : (xs : List Item) (i : ℕ) (x : Item) → i < length xs → get_or xs i x ≡ x → 1 ≤ length (versions_of x.key xs)
has_version [] i x within is = absurd (omega arith)
has_version (y ∷ xs) zero x within is =
    let same : same_bytes y.key x.key ≡ true = (bytes_decides y.key x.key).1 (ap (λ (v : Item). v.key) is) in
    subst (λ b. 1 ≤ length (cond b (y ∷ versions_of x.key xs) (versions_of x.key xs))) (sym same) (omega arith)
has_version (y ∷ xs) (suc i) x within is = more (same_bytes y.key x.key) (versions_of x.key xs) (has_version xs i x (omega arith) is)
  where
    more : (b : Bool) (vs : List Item) → 1 ≤ length vs → 1 ≤ length (cond b (y ∷ vs) vs)
    more true vs h = omega arith
    more false vs h = h

once_apart : (xs : List Item) (i k : ℕ) (x : Item) → AtMostOnce xs → i < k → k < length xs → get_or xs i x ≡ x → get_or xs k x ≡ x → ⊥
once_apart [] i k x once below within first second = absurd (omega arith)
once_apart (y ∷ xs) zero zero x once below within first second = absurd (omega arith)
once_apart (y ∷ xs) zero (suc k) x once below within first second =
    let same : same_bytes y.key x.key ≡ true = (bytes_decides y.key x.key).1 (ap (λ (v : Item). v.key) first) in
    let two : length (cond (same_bytes y.key x.key) (y ∷ versions_of x.key xs) (versions_of x.key xs)) ≤ 1 = once.each x.key in
    let counted : length (y ∷ versions_of x.key xs) ≤ 1 = subst (λ b. length (cond b (y ∷ versions_of x.key xs) (versions_of x.key xs)) ≤ 1) same two in
    let one = has_version xs k x (omega arith) second in
    absurd (omega arith)
once_apart (y ∷ xs) (suc i) zero x once below within first second = absurd (omega arith)
once_apart (y ∷ xs) (suc i) (suc k) x once below within first second = once_apart xs i k x (once_behind y xs once) (omega arith) (omega arith) first second

-- what stands at a place
pub record Stands (all : List Item) (wanted : List Item) (places : List ℕ) (i : ℕ) : Type 0 where
  pub item : Item
  pub there : slice_get all (slice_index places i) ≡ Some item
  pub wants : (d : Item) → get_or wanted i d ≡ item

pub stands : (all wanted : List Item) (places : List ℕ) (i : ℕ) → map (slice_get all) places ≡ map Some wanted → i < length places → Stands all wanted places i
stands all wanted places i are within = at wanted places i are within
  where
    at : (wanted : List Item) (places : List ℕ) (i : ℕ) → map (slice_get all) places ≡ map Some wanted → i < length places → Stands all wanted places i
    at [] [] i are within = absurd (omega arith)
    at (w ∷ ws) [] i are within = absurd (omega arith)
    at [] (p ∷ ps) i are within = absurd (cc)
    at (w ∷ ws) (p ∷ ps) zero are within = record { item = w; there = cc; wants = λ d. refl }
    at (w ∷ ws) (p ∷ ps) (suc i) are within =
        let rest : map (slice_get all) ps ≡ map Some ws = cc in
        let s = at ws ps i rest (omega arith) in
        record { item = s.item; there = s.there; wants = s.wants }

slice_get_within : (all : List Item) (p : ℕ) (x : Item) → slice_get all p ≡ Some x → p < length all
slice_get_within [] p x is = absurd (none-some x is)
slice_get_within (y ∷ all) zero x is = omega arith
slice_get_within (y ∷ all) (suc p) x is = let below = slice_get_within all p x is in omega arith

slots_at : (all : List Item) (p : ℕ) → slice_index_or (map Some all) p None ≡ slice_get all p
slots_at [] p = refl
slots_at (x ∷ all) zero = refl
slots_at (x ∷ all) (suc p) = slots_at all p

-- the places of the newest items are apart
pub places-apart : (all : List Item) (places : List ℕ) → map (slice_get all) places ≡ map Some (newest all) → AreApart places
places-apart all places are = record {
  each = λ i k below within same.
      let a = stands all (newest all) places i are (omega arith) in
      let b = stands all (newest all) places k are within in
      let one : a.item ≡ b.item = some_same a.item b.item (sym a.there ∙ ap (slice_get all) same ∙ b.there) in
      let count : length places ≡ length (newest all) = sym (length-map places (slice_get all)) ∙ ap length are ∙ length-map (newest all) Some in
      once_apart (newest all) i k a.item (once_at_most (newest all) (HasOnce-newest all)) below (omega arith) (a.wants a.item) (b.wants a.item ∙ sym one);
}
  where
    some_same : (a b : Item) → Some a ≡ Some b → a ≡ b
    some_same a b e = cc

-- each of them has an item
pub places-filled : (all : List Item) (places : List ℕ) (slots : List (Option Item)) → map (slice_get all) places ≡ map Some (newest all) → slots ≡ map Some all → AreFilled slots places
places-filled all places slots are slots_are = record {
  within = λ i below.
      let s = stands all (newest all) places i are below in
      let inside = slice_get_within all (slice_index places i) s.item s.there in
      let count : length slots ≡ length all = ap length slots_are ∙ length-map all Some in
      omega arith;
  each = λ i below.
      let s = stands all (newest all) places i are below in
      let there : slice_index_or slots (slice_index places i) None ≡ Some s.item = ap (λ xs. slice_index_or xs (slice_index places i) None) slots_are ∙ slots_at all (slice_index places i) ∙ s.there in
      subst (λ (o : Option Item). IsSome o) (sym there) refl;
}

-- what was moved from them is the newest items
pub moved-newest : (all moved : List Item) (places : List ℕ) (slots : List (Option Item)) → map (slice_get all) places ≡ map Some (newest all) → slots ≡ map Some all → map Some moved ≡ map (λ p. slice_index_or slots p None) places → moved ≡ newest all
moved-newest all moved places slots are slots_are is =
    somes_same moved (newest all) (is ∙ ap (λ xs. map (λ p. slice_index_or xs p None) places) slots_are ∙ each places ∙ are)
  where
    each : (places : List ℕ) → map (λ p. slice_index_or (map Some all) p None) places ≡ map (slice_get all) places
    each [] = refl
    each (p ∷ ps) = λ i. slots_at all p i ∷ each ps i

    somes_same : (xs ys : List Item) → map Some xs ≡ map Some ys → xs ≡ ys
    somes_same [] [] e = refl
    somes_same [] (y ∷ ys) e = absurd (cc)
    somes_same (x ∷ xs) [] e = absurd (cc)
    somes_same (x ∷ xs) (y ∷ ys) e =
        let head : x ≡ y = cc in
        let tail : map Some xs ≡ map Some ys = cc in
        λ i. head i ∷ somes_same xs ys tail i

-- ---- moving

-- a place is emptied, and those that are still to come stay
pub left-others : (slots old : List (Option Item)) (places : List ℕ) (i p : ℕ) (empty : Option Item) → AreApart places → p ≡ get_or places i p → i < length places
    → ((k : ℕ) → i ≤ k → k < length places → slice_index_or slots (slice_index places k) None ≡ slice_index_or old (slice_index places k) None)
    → (k : ℕ) → i + 1 ≤ k → k < length places → slice_index_or (set slots p empty) (slice_index places k) None ≡ slice_index_or old (slice_index places k) None
left-others slots old places i p empty apart is within left k above below =
    let here : p ≡ slice_index places i = is ∙ get_or_default places i p 0 within in
    let other : slice_index places k ≢ p = λ same. apart.each i k (omega arith) below (sym (same ∙ here)) in
    get_or-set_other slots p (slice_index places k) empty None other ∙ left k (omega arith) below

-- where no list is left all items were moved
pub all-moved : {A : Type 0} (f : A → List Item) (slots : List (Option Item)) (rest : List A) (all : List Item) → length rest ≡ 0 → slots ++ map Some (flat_map f rest) ≡ map Some all → slots ≡ map Some all
all-moved f slots [] all none moved = sym (append-nil slots) ∙ moved
all-moved f slots (x ∷ rest) all none moved = absurd (omega arith)
