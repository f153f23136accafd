-- A walk along the links of a bucket finds the newest item of a key.
use Rattle.std.proofs.Common.{◌≡◌, ℕ, zero, suc, ◌+◌, ◌-◌, ◌<◌, ◌≤◌, refl, sym, ap, subst, ◌∙◌, List, [], ◌∷◌, ◌++◌, length, take, drop, get_or, drop-cons, Bool, true, false, cond, Option, Some, None, inl, inr, arith}
use Rattle.std.specs.Prelude.{◌==◌, slice_index}
use Rattle.std.specs.List.{last_or, list_all}
use Rattle.std.specs.Option.{option_map_or}
use Rattle.std.specs.Cmp.Lexicographic.{bytes_decides}
use Rattle.std.proofs.lemmas.Bool.{cases_Bool, eq-eqb, and_parts}
use Rattle.std.proofs.lemmas.Bool.Decides.{eqb_tells}
use Rattle.std.proofs.lemmas.List.{append-nil, length-take-le, take_more, take_all, take-append-drop, drop_at}
use Rattle.std.proofs.lemmas.List.Elements.{filter-append}
use Rattle.std.proofs.lemmas.List.Concat.{flat_map-append}
use Rattle.lt_terms.specs.Bytes.{same_bytes}
use Rattle.lt_terms.specs.Items.{Item, is_valid, total_cost, spelling, spellings, front_item}
use Rattle.lt_terms.proofs.ItemLaws.{front_item-spelling}
use Rattle.lt_tables.specs.Table.{newest_of, versions_of}
use Rattle.lt_terms.specs.declared.Kind.TheVariants.{Put}
use Rattle.lt_bucket.proofs.ItemsOf.{items_of-reads}
use Rattle.lt_mem.specs.declared.table.Place.{Place}
use Rattle.lt_mem.specs.Index.{bucket_of, last_from, last_in, place_behind, IsIndex}
use Rattle.lt_mem.proofs.IndexLaws.{last_in-more, last_in-bound, place_at, head_is}
use Rattle.lt_terms.proofs.SpellingLaws.{length-spellings}

last_or-more : {A : Type 0} (o : Option A) (xs : List A) (x : A) → last_or o (xs ++ x ∷ []) ≡ Some x
last_or-more o [] x = refl
last_or-more o (y ∷ xs) x = last_or-more (Some y) xs x

-- the newest item of a key, behind one more
newest_of-more : (key : List ℕ) (items : List Item) (item : Item) → newest_of key (items ++ item ∷ []) ≡ cond (same_bytes item.key key) (Some item) (newest_of key items)
newest_of-more key items item =
    ap (last_or None) (filter-append (λ (v : Item). same_bytes v.key key) items (item ∷ []))
    ∙ by_test (same_bytes item.key key)
  where
    by_test : (same : Bool) → last_or None (versions_of key items ++ cond same (item ∷ []) []) ≡ cond same (Some item) (newest_of key items)
    by_test true = last_or-more None (versions_of key items) item
    by_test false = ap (last_or None) (append-nil (versions_of key items))

-- the walk has come to this number, from 1 on, and what stands behind it has another key
pub record IsAt (key : List ℕ) (items : List Item) (number : ℕ) : Type 0 where
  pub within : number ≤ length items
  pub newest : newest_of key items ≡ newest_of key (take number items)
  pub linked : last_in (bucket_of key) (take number items) ≡ number

-- the last item of the key's bucket among the first ones
pub record IsLast (key : List ℕ) (items : List Item) (count number : ℕ) : Type 0 where
  pub within : number ≤ count
  pub newest : newest_of key (take count items) ≡ newest_of key (take number items)
  pub linked : last_in (bucket_of key) (take number items) ≡ number

other_key : (key : List ℕ) (item : Item) → (bucket_of item.key == bucket_of key) ≡ false → same_bytes item.key key ≡ false
other_key key item other = elim (cases_Bool (same_bytes item.key key)) [
  | inl same ↦ let equal = eq-eqb (bucket_of item.key) (bucket_of key) (ap bucket_of ((bytes_decides item.key key).0 same)) in absurd (cc)
  | inr differs ↦ differs
]

one_later : (key : List ℕ) (items : List Item) (count : ℕ) (item : Item) → count < length items → take (count + 1) items ≡ take count items ++ item ∷ []
    → IsLast key items count (last_in (bucket_of key) (take count items)) → (same : Bool) → (bucket_of item.key == bucket_of key) ≡ same → IsLast key items (count + 1) (last_in (bucket_of key) (take (count + 1) items))
one_later key items count item below more before true same =
    let here : last_in (bucket_of key) (take (count + 1) items) ≡ count + 1 =
    ap (last_in (bucket_of key)) more ∙ last_in-more (bucket_of key) (take count items) item ∙ ap (λ t. cond t (length (take count items) + 1) (last_in (bucket_of key) (take count items))) same ∙ ap (λ n. n + 1) (length-take-le count items (omega arith)) in
    subst (IsLast key items (count + 1)) (sym here) (record { within = omega arith; newest = refl; linked = here })
one_later key items count item below more before false other =
    let there : last_in (bucket_of key) (take (count + 1) items) ≡ last_in (bucket_of key) (take count items) =
    ap (last_in (bucket_of key)) more ∙ last_in-more (bucket_of key) (take count items) item ∙ ap (λ t. cond t (length (take count items) + 1) (last_in (bucket_of key) (take count items))) other in
    let same_newest : newest_of key (take (count + 1) items) ≡ newest_of key (take count items) =
    ap (newest_of key) more ∙ newest_of-more key (take count items) item ∙ ap (λ t. cond t (Some item) (newest_of key (take count items))) (other_key key item other) in
    subst (IsLast key items (count + 1)) (sym there) (record { within = let w = before.within in omega arith; newest = same_newest ∙ before.newest; linked = before.linked })

pub last_is : (key : List ℕ) (items : List Item) (count : ℕ) (item : Item) → count ≤ length items → IsLast key items count (last_in (bucket_of key) (take count items))
unfolding last_from
last_is key items zero item within = record { within = omega arith; newest = refl; linked = refl }
last_is key items (suc count) item within =
    subst (λ n. IsLast key items n (last_in (bucket_of key) (take n items))) (omega arith)
    (one_later key items count (get_or items count item) (omega arith) (take_more items count item (omega arith)) (last_is key items count item (omega arith)) (bucket_of (get_or items count item).key == bucket_of key) refl)

-- where the walk begins
pub begins : (key : List ℕ) (items : List Item) (item : Item) → IsAt key items (last_in (bucket_of key) items)
begins key items item =
    let all : take (length items) items ≡ items = take_all (length items) items (omega arith) in
    let last : IsLast key items (length items) (last_in (bucket_of key) items) = subst (λ (xs : List Item). IsLast key items (length items) (last_in (bucket_of key) xs)) all (last_is key items (length items) item (omega arith)) in
    record { within = last.within; newest = sym (ap (newest_of key) all) ∙ last.newest; linked = last.linked }

-- where it ends, nothing was found
pub ends : (key : List ℕ) (items : List Item) (number : ℕ) → number ≡ 0 → IsAt key items number → newest_of key items ≡ None
ends key items number none at = at.newest ∙ ap (λ n. newest_of key (take n items)) none

-- the item that it has come to
pub record Stop (key : List ℕ) (items : List Item) (k : ℕ) (item : Item) : Type 0 where
  pub newest : newest_of key items ≡ cond (same_bytes item.key key) (Some item) (newest_of key (take k items))
  pub bucket : bucket_of item.key ≡ bucket_of key

stops : (key : List ℕ) (items : List Item) (k : ℕ) (item : Item) → k < length items → take (k + 1) items ≡ take k items ++ item ∷ [] → IsAt key items (k + 1) → Stop key items k item
stops key items k item below more at = record {
  newest = at.newest ∙ ap (newest_of key) more ∙ newest_of-more key (take k items) item;
  bucket = elim (eqb_tells (bucket_of item.key) (bucket_of key)) [
    | inl same ↦ same.1
    | inr other ↦
        let there = sym (ap (last_in (bucket_of key)) more ∙ last_in-more (bucket_of key) (take k items) item ∙ ap (λ t. cond t (length (take k items) + 1) (last_in (bucket_of key) (take k items))) other.0) ∙ at.linked in
        let bound = last_in-bound (bucket_of key) (take k items) in
        let len = length-take-le k items (omega arith) in
        absurd (omega arith)
  ];
}

-- it is the item that was looked for
pub found : (key : List ℕ) (items : List Item) (number : ℕ) (item : Item) → 0 < number → IsAt key items number → same_bytes (get_or items (number - 1) item).key key ≡ true → newest_of key items ≡ Some (get_or items (number - 1) item)
found key items number item some at same =
    let stop = stops key items (number - 1) (get_or items (number - 1) item) (let w = at.within in omega arith) (take_more items (number - 1) item (let w = at.within in omega arith)) (subst (IsAt key items) (omega arith) at) in
    stop.newest ∙ ap (λ t. cond t (Some (get_or items (number - 1) item)) (newest_of key (take (number - 1) items))) same

-- it goes on to the item that is linked before
pub goes_on : (key : List ℕ) (items : List Item) (number before : ℕ) (item : Item) → 0 < number → IsAt key items number → same_bytes (get_or items (number - 1) item).key key ≡ false
    → before ≡ last_in (bucket_of (get_or items (number - 1) item).key) (take (number - 1) items) → IsAt key items before
goes_on key items number before item some at differs before_is =
    let stop = stops key items (number - 1) (get_or items (number - 1) item) (let w = at.within in omega arith) (take_more items (number - 1) item (let w = at.within in omega arith)) (subst (IsAt key items) (omega arith) at) in
    let last = last_is key items (number - 1) item (let w = at.within in omega arith) in
    let same : before ≡ last_in (bucket_of key) (take (number - 1) items) = before_is ∙ ap (λ b. last_in b (take (number - 1) items)) stop.bucket in
    subst (IsAt key items) (sym same) (record {
      within = let w = at.within in let l = last.within in omega arith;
      newest = stop.newest ∙ ap (λ t. cond t (Some (get_or items (number - 1) item)) (newest_of key (take (number - 1) items))) differs ∙ last.newest;
      linked = last.linked;
    })

valid_at : (items : List Item) (k : ℕ) (item : Item) → k < length items → list_all is_valid items ≡ true → is_valid (get_or items k item) ≡ true
valid_at [] k item below all = absurd (omega arith)
valid_at (first ∷ items) zero item below all = (and_parts (is_valid first) (list_all is_valid items) all).0
valid_at (first ∷ items) (suc k) item below all = valid_at items k item (omega arith) (and_parts (is_valid first) (list_all is_valid items) all).1

-- each item is read again at its place
pub read_at : (items : List Item) (k : ℕ) (item : Item) → k < length items → list_all is_valid items ≡ true → front_item (drop (total_cost (take k items)) (spellings items)) ≡ Some (get_or items k item, spellings (drop (suc k) items))
read_at items k item below all =
    let parts : spellings items ≡ spellings (take k items) ++ spellings (drop k items) = ap spellings (sym (take-append-drop k items)) ∙ flat_map-append spelling (take k items) (drop k items) in
    ap (λ bytes. front_item (drop (total_cost (take k items)) bytes)) parts
    ∙ ap front_item (drop_at (spellings (take k items)) (spellings (drop k items)) (total_cost (take k items)) (length-spellings (take k items)))
    ∙ ap (λ items. front_item (spellings items)) (drop-cons items k item below)
    ∙ front_item-spelling (get_or items k item) (spellings (drop (suc k) items)) (valid_at items k item below all)

-- past the last item there is none: this stands for it
abbrev pub no_item : Item
no_item = record { kind = Put; key = []; value = [] }

-- the item with this number, from 1 on
abbrev pub numbered : List Item → ℕ → Item
numbered items number = get_or items (number - 1) no_item

-- what stands at the place with this number
pub record HasPlace (bytes : List ℕ) (items : List Item) (number : ℕ) (place : Place) : Type 0 where
  pub reads : front_item (drop place.at bytes) ≡ Some (numbered items number, spellings (drop (suc (number - 1)) items))
  pub before : place.before ≡ last_in (bucket_of (numbered items number).key) (take (number - 1) items)
  pub smaller : place.before < number

pub has_place : (bytes : List ℕ) (places : List Place) (heads : List ℕ) (items : List Item) (number : ℕ) (place : Place) → IsIndex bytes places heads items → 0 < number → number ≤ length items
    → place ≡ get_or places (number - 1) place → HasPlace bytes items number place
has_place bytes places heads items number place index some within place_is =
    let read = items_of-reads (length places) bytes items index.read in
    let same : place ≡ place_behind (take (number - 1) items) (numbered items number) =
    place_is ∙ ap (λ places. get_or places (number - 1) place) index.places_are ∙ place_at [] items (number - 1) no_item place (omega arith) in
    let before_is : place.before ≡ last_in (bucket_of (numbered items number).key) (take (number - 1) items) = ap (λ (p : Place). p.before) same in
    let bound = last_in-bound (bucket_of (numbered items number).key) (take (number - 1) items) in
    let len = length-take-le (number - 1) items (omega arith) in
    record {
      reads = ap (λ (p : Place). front_item (drop p.at bytes)) same ∙ ap (λ bytes. front_item (drop (total_cost (take (number - 1) items)) bytes)) index.whole ∙ read_at items (number - 1) no_item (omega arith) read.valid;
      before = before_is;
      smaller = omega arith;
    }

-- the head of the key's bucket is where the walk begins
pub head_begins : (heads : List ℕ) (items : List Item) (key : List ℕ) (b number : ℕ) → length heads ≡ 65536 → ((b : ℕ) → b < 65536 → slice_index heads b ≡ last_in b items) → b ≡ bucket_of key → b < 65536
    → number ≡ get_or heads b number → IsAt key items number
head_begins heads items key b number buckets heads_are b_is below head =
    let number_is : last_in (bucket_of key) items ≡ number = ap (λ b. last_in b items) (sym b_is) ∙ sym (head_is heads items b number buckets heads_are below head) in
    subst (IsAt key items) number_is (begins key items no_item)

-- what was read at a place is the item that stands there
pub same_item : (read bytes : List ℕ) (at : ℕ) (a b : Item) (r s : List ℕ) → read ≡ bytes → Some (a, r) ≡ front_item (drop at read) → front_item (drop at bytes) ≡ Some (b, s) → a ≡ b
same_item read bytes at a b r s bytes_are first second =
    ap (λ (o : Option (Item × List ℕ)). option_map_or (λ (p : Item × List ℕ). p.0) o a) (first ∙ ap (λ bytes. front_item (drop at bytes)) bytes_are ∙ second)
