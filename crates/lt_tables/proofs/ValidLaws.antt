-- Items that are read from a page are valid.
use Rattle.std.proofs.Common.{◌≡◌, ℕ, zero, suc, ◌+◌, refl, subst, List, [], ◌∷◌, ◌++◌, length, drop, Bool, true, false, cond, Option, Some, None}
use Rattle.std.specs.Prelude.{IsTrue, slice_index, slice_range, nat_le}
use Rattle.std.specs.List.{AllByRecursion, flat_map}
use Rattle.std.specs.Option.{option_and_then, option_map, option_map_or}
use Rattle.std.proofs.lemmas.Option.{none-some}
use Rattle.lt_terms.specs.Bytes.{u16_at, u32_at}
use Rattle.lt_terms.specs.Items.{Item, is_valid, kind_of_byte, cut_item, front_item, items_of}
use Rattle.lt_terms.proofs.ItemLaws.{cut_item-cuts, guard_option}
use Rattle.lt_tables.specs.declared.Sends.{Sends}
use Rattle.lt_tables.specs.Bucket.{Bucket, bucket_of_page_1, sends_of, items_on}
use Rattle.lt_tables.specs.Placement.{columns}
use Rattle.lt_tables.specs.Table.{table_items}

-- each item is valid
abbrev pub AllValid : List Item → Type 0
AllValid items = AllByRecursion (λ (v : Item). IsTrue (is_valid v)) items

pub front_item-valid : (bytes : List ℕ) (found : Item × List ℕ) → front_item bytes ≡ Some found → IsTrue (is_valid found.0)
unfolding front_item
front_item-valid bytes found h = (cut_item-cuts (kind_of_byte (slice_index bytes 0)) (slice_index bytes 1) (u16_at bytes 2) (drop 4 bytes) found (guard_option (nat_le 4 (length bytes)) (cut_item (kind_of_byte (slice_index bytes 0)) (slice_index bytes 1) (u16_at bytes 2) (drop 4 bytes)) found h).1).valid

pub items_of-valid : (n : ℕ) (bytes : List ℕ) (items : List Item) → items_of n bytes ≡ Some items → AllValid items
unfolding items_of
items_of-valid zero [] items h = nothing items h
  where
    nothing : (items : List Item) → Some [] ≡ Some items → AllValid items
    nothing [] h = tt
    nothing (v ∷ items) h = cc
items_of-valid zero (b ∷ bytes) items h = absurd (none-some items h)
items_of-valid (suc n) bytes items h = by_front (front_item bytes) refl h (λ rest vs e. items_of-valid n rest vs e)
  where
    by_rest : (v : Item) (o : Option (List Item)) (items : List Item) → IsTrue (is_valid v) → ((vs : List Item) → o ≡ Some vs → AllValid vs) → option_map (λ rest. v ∷ rest) o ≡ Some items → AllValid items
    by_rest v None items p q h = absurd (none-some items h)
    by_rest v (Some vs) items p q h = subst (λ xs. AllValid xs) (let e : v ∷ vs ≡ items = cc in e) (p, q vs refl)

    by_front : (o : Option (Item × List ℕ)) → front_item bytes ≡ o → option_and_then (λ first. option_map (λ rest. first.0 ∷ rest) (items_of n first.1)) o ≡ Some items → ((rest : List ℕ) (vs : List Item) → items_of n rest ≡ Some vs → AllValid vs) → AllValid items
    by_front None is h ih = absurd (none-some items h)
    by_front (Some found) is h ih = by_rest found.0 (items_of n found.1) items (front_item-valid bytes found is) (ih found.1) h

bucket_valid : (o : Option (Option Sends)) (is : Option (List Item)) → ((vs : List Item) → is ≡ Some vs → AllValid vs) → (test : Bool)
    → AllValid (option_map_or (λ (b : Bucket). b.items) (cond test (option_and_then (λ sends. option_map (λ items. record { sends = sends; items = items }) is) o) None) [])
bucket_valid None is p true = tt
bucket_valid (Some s) None p true = tt
bucket_valid (Some s) (Some vs) p true = p vs refl
bucket_valid o is p false = tt

-- the items of a page are valid, whatever it holds
pub items_on-valid : (page : List ℕ) → AllValid (items_on page)
unfolding bucket_of_page_1
items_on-valid page = bucket_valid (sends_of (slice_index page 4) (slice_index page 5) (u32_at page 6)) (items_of (u16_at page 0) (slice_range page 16 (16 + u16_at page 2)))
    (λ vs h. items_of-valid (u16_at page 0) (slice_range page 16 (16 + u16_at page 2)) vs h) _

pub AllValid-append : (xs ys : List Item) → AllValid xs → AllValid ys → AllValid (xs ++ ys)
AllValid-append [] ys a b = b
AllValid-append (x ∷ xs) ys a b = (a.0, AllValid-append xs ys a.1 b)

pub AllValid-flat_map : {A : Type 0} (f : A → List Item) (xs : List A) → ((x : A) → AllValid (f x)) → AllValid (flat_map f xs)
AllValid-flat_map f [] h = tt
AllValid-flat_map f (x ∷ xs) h = AllValid-append (f x) (flat_map f xs) (h x) (AllValid-flat_map f xs h)

-- so are those of a table
pub table_items-valid : (block : ℕ → List ℕ) → AllValid (table_items block)
table_items-valid block = AllValid-flat_map (λ c. items_on (block c)) columns (λ c. items_on-valid (block c))
