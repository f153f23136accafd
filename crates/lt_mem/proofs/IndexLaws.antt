-- Places and heads, one item more at a time.
use Rattle.std.proofs.Common.{◌≡◌, ℕ, zero, suc, ◌+◌, ◌<◌, ◌≤◌, refl, sym, ap, subst, ◌∙◌, List, [], ◌∷◌, ◌++◌, length, take, get_or, set, true, false, cond, inl, inr, add-zero, arith, append_assoc}
use Rattle.std.specs.Prelude.{◌==◌, ◌*◌, nat_le, slice_index, unwrap_or, replicate}
use Rattle.std.specs.List.{list_all}
use Rattle.std.proofs.lemmas.Bool.{and_parts, leb-true}
use Rattle.std.proofs.lemmas.List.{length-append, append-nil, length-set, get_or-set_other, length-replicate, get_or-replicate}
use Rattle.std.proofs.lemmas.Grind.{get_or-set_at, get_or_default_zero}
use Rattle.std.proofs.lemmas.Bool.Decides.{eqb_tells}
use Rattle.std.proofs.lemmas.List.Sums.{sum_by-append, sum_by-cons}
use Rattle.lt_terms.specs.Items.{Item, is_key, is_valid, value_limit, item_cost, total_cost, spelling, items_of}
use Rattle.lt_bucket.specs.Reading.{items_in}
use Rattle.lt_bucket.proofs.ItemsOf.{items_of-reads}
use Rattle.lt_bucket.proofs.Growing.{items-more}
use Rattle.lt_mem.specs.declared.table.Place.{Place}
use Rattle.lt_mem.specs.Index.{bucket_of, last_from, last_in, place_behind, places_from, IsIndex}
use Rattle.lt_terms.proofs.SpellingLaws.{length-spellings, spellings-more}

-- the last item of a bucket, behind one more
last_from-more : (n found b : ℕ) (items : List Item) (item : Item) → last_from n found b (items ++ item ∷ []) ≡ cond (bucket_of item.key == b) (n + length items + 1) (last_from n found b items)
unfolding last_from
last_from-more n found b [] item = ap (λ m. cond (bucket_of item.key == b) (m + 1) found) (sym (add-zero n))
last_from-more n found b (first ∷ items) item =
    last_from-more (n + 1) (cond (bucket_of first.key == b) (n + 1) found) b items item
    ∙ ap (λ m. cond (bucket_of item.key == b) m (last_from (n + 1) (cond (bucket_of first.key == b) (n + 1) found) b items)) (omega arith)

pub last_in-more : (b : ℕ) (items : List Item) (item : Item) → last_in b (items ++ item ∷ []) ≡ cond (bucket_of item.key == b) (length items + 1) (last_in b items)
last_in-more b items item = last_from-more 0 0 b items item ∙ ap (λ m. cond (bucket_of item.key == b) m (last_in b items)) (omega arith)

-- no number is past the last item
bounded : (n found b : ℕ) (items : List Item) → found ≤ n → last_from n found b items ≤ n + length items
unfolding last_from
bounded n found b [] small = omega arith
bounded n found b (first ∷ items) small =
    let next : cond (bucket_of first.key == b) (n + 1) found ≤ n + 1 =
    elim (bucket_of first.key == b) as (λ t. cond t (n + 1) found ≤ n + 1) [ true ↦ omega arith | false ↦ omega arith ] in
    let more = bounded (n + 1) (cond (bucket_of first.key == b) (n + 1) found) b items next in
    omega arith

pub last_in-bound : (b : ℕ) (items : List Item) → last_in b items ≤ length items
last_in-bound b items = let h = bounded 0 0 b items (omega arith) in omega arith

-- the places, with one more
places_from-more : (before items : List Item) (item : Item) → places_from before (items ++ item ∷ []) ≡ places_from before items ++ place_behind (before ++ items) item ∷ []
unfolding places_from
places_from-more before [] item = ap (λ before. place_behind before item ∷ []) (sym (append-nil before))
places_from-more before (first ∷ items) item =
    ap (λ places. place_behind before first ∷ places)
    (places_from-more (before ++ first ∷ []) items item
    ∙ ap (λ all. places_from (before ++ first ∷ []) items ++ place_behind all item ∷ []) (append_assoc before (first ∷ []) items))

-- the place of one item
pub place_at : (before items : List Item) (k : ℕ) (item : Item) (place : Place) → k < length items → get_or (places_from before items) k place ≡ place_behind (before ++ take k items) (get_or items k item)
unfolding places_from
place_at before [] k item place within = absurd (omega arith)
place_at before (first ∷ items) zero item place within = ap (λ before. place_behind before first) (sym (append-nil before))
place_at before (first ∷ items) (suc k) item place within =
    place_at (before ++ first ∷ []) items k item place (omega arith)
    ∙ ap (λ all. place_behind all (get_or items k item)) (append_assoc before (first ∷ []) (take k items))

-- the index of no items
pub index-none : (heads : List ℕ) → length heads ≡ 65536 → ((b : ℕ) → b < 65536 → slice_index heads b ≡ 0) → IsIndex [] [] heads []
unfolding items_of places_from last_from
index-none heads buckets zeros = record { read = refl; whole = refl; fits = omega arith; places_are = refl; buckets = buckets; heads_are = zeros }

heads-more : (heads : List ℕ) (items : List Item) (item : Item) (b : ℕ) → length heads ≡ 65536 → b < 65536 → bucket_of item.key < 65536 → slice_index heads b ≡ last_in b items → slice_index (set heads (bucket_of item.key) (length items + 1)) b ≡ last_in b (items ++ item ∷ [])
heads-more heads items item b buckets below small head_is =
    elim (eqb_tells (bucket_of item.key) b) [
      | inl same ↦ get_or-set_at heads (bucket_of item.key) b (length items + 1) 0 (omega arith) (omega (arith, same.1)) ∙ ap (λ t. cond t (length items + 1) (last_in b items)) (sym same.0) ∙ sym (last_in-more b items item)
      | inr other ↦ get_or-set_other heads (bucket_of item.key) b (length items + 1) 0 (λ e. other.1 (sym e)) ∙ head_is ∙ ap (λ t. cond t (length items + 1) (last_in b items)) (sym other.0) ∙ sym (last_in-more b items item)
    ]

-- the index with one more item
pub index-more : (bytes : List ℕ) (places : List Place) (heads : List ℕ) (items : List Item) (item : Item) (place : Place) (number : ℕ) → IsIndex bytes places heads items → is_valid item ≡ true → total_cost items + item_cost item ≤ 204092
    → bucket_of item.key < 65536 → place ≡ place_behind items item → number ≡ length places + 1 → IsIndex (bytes ++ spelling item) (places ++ place ∷ []) (set heads (bucket_of item.key) number) (items ++ item ∷ [])
index-more bytes places heads items item place number index valid room small place_is number_is =
    let read = items_of-reads (length places) bytes items index.read in
    let one : total_cost (item ∷ []) ≡ item_cost item = sum_by-cons item_cost item [] ∙ add-zero (item_cost item) in
    let cost = sum_by-append item_cost items (item ∷ []) in
    let number_too : length items + 1 ≡ number = let c = read.count_is in omega arith in
    record {
      read = ap (λ n. items_of n (bytes ++ spelling item)) (length-append places (place ∷ [])) ∙ items-more (length places) bytes items item index.whole read.count_is read.valid valid;
      whole = ap (λ bytes. bytes ++ spelling item) index.whole ∙ sym (spellings-more items item);
      fits = omega arith;
      places_are = ap (λ place. places ++ place ∷ []) place_is ∙ ap (λ places. places ++ place_behind items item ∷ []) index.places_are ∙ sym (places_from-more [] items item);
      buckets = length-set heads (bucket_of item.key) number ∙ index.buckets;
      heads_are = λ b below. ap (λ n. slice_index (set heads (bucket_of item.key) n) b) (sym number_too) ∙ heads-more heads items item b index.buckets below small (index.heads_are b below);
    }

-- the bytes are what the items cost
pub index-bytes : (bytes : List ℕ) (places : List Place) (heads : List ℕ) (items : List Item) → IsIndex bytes places heads items → length bytes ≡ total_cost items
index-bytes bytes places heads items index = ap length index.whole ∙ length-spellings items

-- and there are as many places
pub index-count : (bytes : List ℕ) (places : List Place) (heads : List ℕ) (items : List Item) → IsIndex bytes places heads items → length items ≡ length places
index-count bytes places heads items index = (items_of-reads (length places) bytes items index.read).count_is

-- a valid item costs five at least
pub five : (item : Item) → is_valid item ≡ true → 5 ≤ item_cost item
five item valid =
    let key = and_parts (is_key item.key) (nat_le (length item.value) (value_limit item.kind)) valid in
    let long : 1 ≤ length item.key = leb-true _ _ (and_parts (nat_le 1 (length item.key)) (nat_le (length item.key) 255) key.0).0 in
    omega arith

five_each : (items : List Item) → list_all is_valid items ≡ true → 5 * length items ≤ total_cost items
five_each [] all = omega arith
five_each (item ∷ items) all =
    let both = and_parts (is_valid item) (list_all is_valid items) all in
    let one = five item both.0 in
    let rest = five_each items both.1 in
    let cost : total_cost (item ∷ items) ≡ item_cost item + total_cost items = sum_by-cons item_cost item items in
    omega arith

pub cost_of_places : (bytes : List ℕ) (places : List Place) (heads : List ℕ) (items : List Item) → IsIndex bytes places heads items → 5 * length places ≤ total_cost items
cost_of_places bytes places heads items index =
    let read = items_of-reads (length places) bytes items index.read in
    let all = five_each items read.valid in
    let c = read.count_is in
    omega arith

-- the index of what the bytes spell
pub index-itself : (bytes : List ℕ) (places : List Place) (heads : List ℕ) (items : List Item) → IsIndex bytes places heads items → items_in (length places) bytes ≡ items
index-itself bytes places heads items index = ap (λ o. unwrap_or o []) index.read

-- with nothing in it
pub items-empty : (bytes : List ℕ) (places : List Place) → bytes ≡ [] → places ≡ [] → items_in (length places) bytes ≡ []
unfolding items_of
items-empty bytes places no_bytes no_places = ap (λ bytes. items_in (length places) bytes) no_bytes ∙ ap (λ (places : List Place). items_in (length places) []) no_places

pub index-empty : (bytes : List ℕ) (places : List Place) (heads : List ℕ) (n : ℕ) → bytes ≡ [] → places ≡ [] → heads ≡ replicate n 0 → n ≡ 65536 → IsIndex bytes places heads (items_in (length places) bytes)
index-empty bytes places heads n no_bytes no_places zeros n_is =
    let buckets : length heads ≡ 65536 = ap length zeros ∙ length-replicate n 0 ∙ n_is in
    let each : (b : ℕ) → b < 65536 → slice_index heads b ≡ 0 = λ b below. ap (λ heads. slice_index heads b) zeros ∙ get_or-replicate n b 0 0 (omega arith) in
    let none : IsIndex bytes places heads [] = subst (λ (bytes : List ℕ). IsIndex bytes places heads []) (sym no_bytes) (subst (λ (places : List Place). IsIndex [] places heads []) (sym no_places) (index-none heads buckets each)) in
    subst (IsIndex bytes places heads) (sym (items-empty bytes places no_bytes no_places)) none

-- the place of one more
pub place_is : (at before : ℕ) (items : List Item) (item : Item) → at ≡ total_cost items → before ≡ last_in (bucket_of item.key) items → ◌≡◌ {A = Place} (record { at = at; before = before }) (place_behind items item)
place_is at before items item at_is before_is =
    ap (λ at. record { at = at; before = before }) at_is ∙ ap (λ before. record { at = total_cost items; before = before }) before_is

pub grown : (bytes longer : List ℕ) (places more : List Place) (heads changed : List ℕ) (items : List Item) (item : Item) (place : Place) (b number : ℕ) → IsIndex bytes places heads items → is_valid item ≡ true
    → total_cost items + item_cost item ≤ 204092 → b ≡ bucket_of item.key → b < 65536 → place ≡ place_behind items item → number ≡ length places + 1
    → longer ≡ bytes ++ spelling item → more ≡ places ++ place ∷ [] → changed ≡ set heads b number → IsIndex longer more changed (items ++ item ∷ [])
grown bytes longer places more heads changed items item place b number index valid room b_is below place_is number_is longer_is more_is changed_is =
    let index' = index-more bytes places heads items item place number index valid room (subst (λ b. b < 65536) b_is below) place_is number_is in
    subst (λ (bytes : List ℕ). IsIndex bytes more changed (items ++ item ∷ [])) (sym longer_is)
    (subst (λ (places : List Place). IsIndex (bytes ++ spelling item) places changed (items ++ item ∷ [])) (sym more_is)
    (subst (λ (heads : List ℕ). IsIndex (bytes ++ spelling item) (places ++ place ∷ []) heads (items ++ item ∷ [])) (sym (changed_is ∙ ap (λ b. set heads b number) b_is)) index'))

pub index-renewed : (bytes : List ℕ) (places : List Place) (heads : List ℕ) (items : List Item) → IsIndex bytes places heads items → IsIndex bytes places heads (items_in (length places) bytes)
index-renewed bytes places heads items index = subst (IsIndex bytes places heads) (sym (index-itself bytes places heads items index)) index

-- what was read of the heads
pub head_is : (heads : List ℕ) (items : List Item) (b number : ℕ) → length heads ≡ 65536 → ((b : ℕ) → b < 65536 → slice_index heads b ≡ last_in b items) → b < 65536 → number ≡ get_or heads b number → number ≡ last_in b items
head_is heads items b number buckets heads_are below head = head ∙ get_or_default_zero heads b number (omega arith) ∙ heads_are b below

-- all items are valid
pub index-valid : (bytes : List ℕ) (places : List Place) (heads : List ℕ) (items : List Item) → IsIndex bytes places heads items → list_all is_valid items ≡ true
index-valid bytes places heads items index = (items_of-reads (length places) bytes items index.read).valid
