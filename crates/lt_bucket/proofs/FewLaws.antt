-- How many items a bucket has at most.
use Rattle.std.proofs.Common.{◌≡◌, ℕ, zero, suc, ◌+◌, ◌-◌, ◌*◌, ◌≤◌, refl, sym, ap, ◌∙◌, List, [], ◌∷◌, length, take, drop, true, Option, Some, None, arith, length-append, leb-true}
use Rattle.std.specs.Prelude.{IsTrue, nat_le, slice_index}
use Rattle.std.specs.Option.{option_and_then, option_map}
use Rattle.std.proofs.lemmas.Bool.{and_parts}
use Rattle.std.proofs.lemmas.List.{length-take, length-drop}
use Rattle.std.proofs.lemmas.Option.{none-some}
use Rattle.lt_terms.specs.Bytes.{u16_at, u32_at}
use Rattle.lt_terms.specs.Items.{Item, is_key, is_valid, value_limit, front_item, items_of}
use Rattle.lt_terms.proofs.ItemLaws.{guard_option, cut_item-cuts}
use Rattle.lt_tables.specs.declared.Sends.{Sends}
use Rattle.lt_tables.specs.Bucket.{Bucket, capacity, sends_of, bucket_of_page_1}
use Rattle.lt_bucket.specs.Reading.{SpellsBucket}

some_key : (item : Item) → is_valid item ≡ true → 1 ≤ length item.key
some_key item valid =
    let key = and_parts (is_key item.key) (nat_le (length item.value) (value_limit item.kind)) valid in
    leb-true _ _ (and_parts (nat_le 1 (length item.key)) (nat_le (length item.key) 255) key.0).0

-- an item takes at least five bytes
front_takes : (bytes : List ℕ) (found : Item × List ℕ) → front_item bytes ≡ Some found → length found.1 + 5 ≤ length bytes
unfolding front_item
front_takes bytes found h =
    let test = guard_option (nat_le 4 (length bytes)) _ found h in
    let cut = cut_item-cuts _ _ _ (drop 4 bytes) found test.1 in
    let long : 4 ≤ length bytes = leb-true _ _ test.0 in
    let some = some_key found.0 cut.valid in
    let whole : length (drop 4 bytes) ≡ length found.0.key + (length found.0.value + length found.1) =
    ap length cut.whole ∙ length-append found.0.key _ ∙ ap (λ n. length found.0.key + n) (length-append found.0.value found.1) in
    let behind = length-drop 4 bytes in
    omega (arith, whole, behind, long, some)

others : (o : Option (List Item)) (first : Item) (items : List Item) → option_map (λ rest. first ∷ rest) o ≡ Some items → (rest : List Item) × (o ≡ Some rest) × (first ∷ rest ≡ items)
others None first items h = absurd (none-some items h)
others (Some rest) first items h = (rest, refl, cc)

one_first : (n : ℕ) (o : Option (Item × List ℕ)) (items : List Item) → option_and_then (λ (first : Item × List ℕ). option_map (λ rest. first.0 ∷ rest) (items_of n first.1)) o ≡ Some items
    → (found : Item × List ℕ) × (o ≡ Some found) × (option_map (λ rest. found.0 ∷ rest) (items_of n found.1) ≡ Some items)
one_first n None items h = absurd (none-some items h)
one_first n (Some found) items h = (found, refl, h)

-- so do all
items_take : (n : ℕ) (bytes : List ℕ) (items : List Item) → items_of n bytes ≡ Some items → 5 * length items ≤ length bytes
unfolding items_of
items_take zero [] items h = let none : [] ≡ items = cc in let size : 0 ≡ length items = ap length none in omega (arith, size)
items_take zero (b ∷ bytes) items h = absurd (none-some items h)
items_take (suc n) bytes items h =
    let first = one_first n (front_item bytes) items h in
    let rest = others (items_of n first.0.1) first.0.0 items first.2 in
    let more = items_take n first.0.1 rest.0 rest.1 in
    let one = front_takes bytes first.0 first.1 in
    let size : suc (length rest.0) ≡ length items = ap length rest.2 in
    omega (arith, more, one, size)

pub items_are : (o : Option (Option Sends)) (is : Option (List Item)) (b : Bucket) → option_and_then (λ sends. option_map (λ items. record { sends = sends; items = items }) is) o ≡ Some b → is ≡ Some b.items
items_are None is b h = absurd (none-some b h)
items_are (Some x) None b h = absurd (none-some b h)
items_are (Some x) (Some items) b h = let same : record { sends = x; items = items } ≡ b = cc in ap Some (ap (λ (b : Bucket). b.items) same)

few_on : (page : List ℕ) (b : Bucket) → bucket_of_page_1 page ≡ Some b → length b.items ≤ 816
unfolding bucket_of_page_1
few_on page b h =
    let test = guard_option _ _ b h in
    let small : u16_at page 2 ≤ capacity = leb-true _ _ (and_parts _ _ (and_parts _ _ (and_parts _ _ test.0).0).0).0 in
    let read = items_are (sends_of (slice_index page 4) (slice_index page 5) (u32_at page 6)) _ b test.1 in
    let long = items_take _ _ b.items read in
    let area : length (take (16 + u16_at page 2 - 16) (drop 16 page)) ≤ u16_at page 2 = omega (arith, length-take (16 + u16_at page 2 - 16) (drop 16 page)) in
    omega (arith, long, area, small)

-- the items of a bucket
pub few_items : (page : List ℕ) (sends : Option Sends) (items : List Item) → SpellsBucket page sends items → length items ≤ 816
few_items page sends items is = few_on page (record { sends = sends; items = items }) is
