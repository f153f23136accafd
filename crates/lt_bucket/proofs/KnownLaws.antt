-- What is known of a page that spells a bucket.
use Rattle.std.proofs.Common.{◌≡◌, ℕ, ◌+◌, ◌≤◌, refl, sym, ap, ◌∙◌, List, [], true, Option, Some, None, leb-true}
use Rattle.std.specs.Prelude.{IsTrue, is_some, unwrap_or, slice_index, slice_range}
use Rattle.std.specs.Option.{option_and_then, option_map}
use Rattle.std.proofs.lemmas.Bool.{and_parts}
use Rattle.std.proofs.lemmas.Option.{none-some}
use Rattle.lt_terms.specs.Bytes.{u16_at, u32_at}
use Rattle.lt_terms.specs.Items.{Item, items_of}
use Rattle.lt_terms.proofs.ItemLaws.{guard_option}
use Rattle.lt_tables.specs.declared.Sends.{Sends}
use Rattle.lt_tables.specs.Bucket.{Bucket, capacity, sends_of, bucket_of, bucket_of_page_1}
use Rattle.lt_bucket.specs.Reading.{SpellsBucket, items_in}
use Rattle.lt_bucket.proofs.FewLaws.{items_are}

-- its header can be read, its items fill their area, and these are the bucket
pub record IsKnown (page : List ℕ) : Type 0 where
  pub small : u16_at page 2 ≤ capacity
  pub sends : IsTrue (is_some (sends_of (slice_index page 4) (slice_index page 5) (u32_at page 6)))
  pub items : IsTrue (is_some (items_of (u16_at page 0) (slice_range page 16 (16 + u16_at page 2))))
  pub is : (x : Option Sends) → sends_of (slice_index page 4) (slice_index page 5) (u32_at page 6) ≡ Some x
      → SpellsBucket page x (items_in (u16_at page 0) (slice_range page 16 (16 + u16_at page 2)))

sends_are : (o : Option (Option Sends)) (is : Option (List Item)) (b : Bucket) → option_and_then (λ sends. option_map (λ items. record { sends = sends; items = items }) is) o ≡ Some b → o ≡ Some b.sends
sends_are None is b h = absurd (none-some b h)
sends_are (Some x) None b h = absurd (none-some b h)
sends_are (Some x) (Some items) b h = let same : record { sends = x; items = items } ≡ b = cc in ap Some (ap (λ (b : Bucket). b.sends) same)

same_some : (x y : Option Sends) → Some x ≡ Some y → x ≡ y
same_some x y h = cc

known_of : (page : List ℕ) (b : Bucket) → bucket_of_page_1 page ≡ Some b → IsKnown page
unfolding bucket_of_page_1
known_of page b h =
    let test = guard_option _ _ b h in
    let small : u16_at page 2 ≤ capacity = leb-true _ _ (and_parts _ _ (and_parts _ _ (and_parts _ _ test.0).0).0).0 in
    let items : items_of (u16_at page 0) (slice_range page 16 (16 + u16_at page 2)) ≡ Some b.items = items_are (sends_of (slice_index page 4) (slice_index page 5) (u32_at page 6)) _ b test.1 in
    let sends : sends_of (slice_index page 4) (slice_index page 5) (u32_at page 6) ≡ Some b.sends = sends_are (sends_of (slice_index page 4) (slice_index page 5) (u32_at page 6)) _ b test.1 in
    record {
      small = small;
      sends = ap is_some sends;
      items = ap is_some items;
      is = λ x same.
          h
          ∙ ap (λ s. Some (record { sends = s; items = b.items })) (same_some b.sends x (sym sends ∙ same))
          ∙ ap (λ l. Some (record { sends = x; items = l })) (sym (ap (λ o. unwrap_or o []) items));
    }

pub known-page : (page : List ℕ) → IsTrue (is_some (bucket_of page)) → IsKnown page
known-page page h = by_bucket (bucket_of_page_1 page) refl h
  where
    by_bucket : (o : Option Bucket) → bucket_of_page_1 page ≡ o → is_some o ≡ true → IsKnown page
    by_bucket None is h = absurd (cc)
    by_bucket (Some b) is h = known_of page b is

-- the header as it was read
pub header_read : (page : List ℕ) (flag target mark : ℕ) (o : Option (Option Sends)) → o ≡ sends_of flag target mark → flag ≡ slice_index page 4 → target ≡ slice_index page 5 → mark ≡ u32_at page 6
    → o ≡ sends_of (slice_index page 4) (slice_index page 5) (u32_at page 6)
header_read page flag target mark o is f t m =
    is
    ∙ ap (λ x. sends_of x target mark) f
    ∙ ap (λ x. sends_of (slice_index page 4) x mark) t
    ∙ ap (λ x. sends_of (slice_index page 4) (slice_index page 5) x) m

-- the area as it was read
pub area_read : (page bytes : List ℕ) (count used : ℕ) → bytes ≡ slice_range page 16 (16 + used) → count ≡ u16_at page 0 → used ≡ u16_at page 2
    → items_of count bytes ≡ items_of (u16_at page 0) (slice_range page 16 (16 + u16_at page 2))
area_read page bytes count used is c u =
    ap (items_of count) (is ∙ ap (λ n. slice_range page 16 (16 + n)) u)
    ∙ ap (λ n. items_of n (slice_range page 16 (16 + u16_at page 2))) c
