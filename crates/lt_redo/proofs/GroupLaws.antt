-- Items that are gathered on a page.
use Rattle.std.proofs.Common.{◌≡◌, ℕ, suc, ◌+◌, ◌-◌, ◌<◌, ◌≤◌, refl, sym, ap, subst, ◌∙◌, List, [], ◌∷◌, ◌++◌, length, take, drop, true, ◌&&◌, ◌^◌, Option, Some, None, IsTrue, nat_le, arith, append_assoc}
use Rattle.std.specs.Prelude.{unwrap_or, slice_range, if◌then◌else◌}
use Rattle.std.proofs.lemmas.Bool.{le-leb}
use Rattle.std.proofs.lemmas.Nat.{from_be_bytes-to_be_bytes_2}
use Rattle.std.specs.List.{AllByRecursion}
use Rattle.std.proofs.lemmas.List.{take_at, drop_at, length-append, drop-drop, drop-take, drop-append-le, length-take-le}
use Rattle.std.proofs.lemmas.List.Sums.{sum_by_push}
use Rattle.std.proofs.Math.Seq.{drop-append-add}
use Rattle.lt_terms.specs.Bytes.{u16_at, zeros, zero_block, all_zero}
use Rattle.lt_terms.specs.Items.{Item, is_valid, item_cost, items_of, spelling, spellings, total_cost}
use Rattle.lt_terms.proofs.ItemLaws.{items_of-spellings}
use Rattle.lt_layout.proofs.FillLaws.{drop-zeros}
use Rattle.lt_item.specs.Views.{item_written}
use Rattle.lt_format.specs.Log.{group_room, group_page, group_on}
use Rattle.lt_redo.specs.Group.{items_on, IsGathered}
use Rattle.lt_terms.proofs.SpellingLaws.{length-spelling, length-spellings, spellings-more, all_zero-zeros}

valid_push : (items : List Item) (item : Item) → AllByRecursion (λ i. IsTrue (is_valid i)) items → IsTrue (is_valid item) → AllByRecursion (λ i. IsTrue (is_valid i)) (items ++ item ∷ [])
valid_push [] item all last = (last, tt)
valid_push (first ∷ items) item all last = (all.0, valid_push items item all.1 last)

cost-push : (items : List Item) (item : Item) → total_cost (items ++ item ∷ []) ≡ total_cost items + item_cost item
cost-push items item = sum_by_push item_cost items item

-- the gathered items are read off the page
pub items_on-gathered : (page : List ℕ) (count used : ℕ) (items : List Item) → IsGathered page count used items → items_on page count used ≡ items
items_on-gathered page count used items g =
    let size : used ≡ length (spellings items) = g.used_is ∙ sym (length-spellings items) in
    let bytes : slice_range page 4 (4 + used) ≡ spellings items = ap (λ n. take n (drop 4 page)) (omega arith) ∙ ap (take used) g.tail ∙ take_at (spellings items) _ used (sym size) in
    ap (λ xs. unwrap_or (items_of count xs) []) bytes ∙ ap (λ n. unwrap_or (items_of n (spellings items)) []) g.count_is ∙ ap (λ o. unwrap_or o []) (items_of-spellings items g.valid)

-- what stands behind the header after more bytes
tail_more : (page front bytes : List ℕ) (used : ℕ) → length page ≡ 4096 → drop 4 page ≡ front ++ zeros (4092 - length front) → used ≡ length front → length front + length bytes ≤ 4092
    → drop 4 (take (4 + used) page ++ bytes ++ drop (4 + used + length bytes) page) ≡ (front ++ bytes) ++ zeros (4092 - length (front ++ bytes))
tail_more page front bytes used whole tail size room =
    let there : drop 4 (take (4 + used) page) ≡ front = drop-take 4 used page ∙ ap (take used) tail ∙ take_at front _ used (sym size) in
    let rest : drop (4 + used + length bytes) page ≡ zeros (4092 - length (front ++ bytes)) =
    ap (λ n. drop n page) (omega arith) ∙ sym (drop-drop (length front + length bytes) 4 page) ∙ ap (drop (length front + length bytes)) tail
    ∙ drop-append-add front (zeros (4092 - length front)) (length bytes) ∙ drop-zeros (length bytes) (4092 - length front) ∙ ap zeros (omega (arith, length-append front bytes)) in
    let long : 4 ≤ length (take (4 + used) page) = omega (arith, length-take-le (4 + used) page (omega arith)) in
    ap (drop 4) (append_assoc (take (4 + used) page) bytes (drop (4 + used + length bytes) page)) ∙ drop-append-le 4 (take (4 + used) page) _ long
    ∙ ap (λ xs. xs ++ (bytes ++ drop (4 + used + length bytes) page)) there ∙ ap (λ xs. front ++ (bytes ++ xs)) rest ∙ sym (append_assoc front bytes (zeros (4092 - length (front ++ bytes))))

-- after one item more
tail_push : (page : List ℕ) (used : ℕ) (items : List Item) (item : Item) → length page ≡ 4096 → drop 4 page ≡ spellings items ++ zeros (4092 - length (spellings items)) → used ≡ length (spellings items) → used + item_cost item ≤ group_room
    → drop 4 (item_written page (4 + used) item) ≡ spellings (items ++ item ∷ []) ++ zeros (4092 - length (spellings (items ++ item ∷ [])))
tail_push page used items item whole tail size room =
    ap (λ n. drop 4 (take (4 + used) page ++ spelling item ++ drop (4 + used + n) page)) (sym (length-spelling item))
    ∙ tail_more page (spellings items) (spelling item) used whole tail size (omega (arith, size, room, length-spelling item))
    ∙ ap (λ xs. xs ++ zeros (4092 - length xs)) (sym (spellings-more items item))

-- one item more
pub IsGathered-push : (page : List ℕ) (count used : ℕ) (items : List Item) (item : Item) → length page ≡ 4096 → IsGathered page count used items → IsTrue (is_valid item) → used + item_cost item ≤ group_room
    → IsGathered (item_written page (4 + used) item) (count + 1) (used + item_cost item) (items ++ item ∷ [])
IsGathered-push page count used items item whole g valid room = record {
  tail = tail_push page used items item whole g.tail (g.used_is ∙ sym (length-spellings items)) room;
  count_is = let e = g.count_is in omega (arith, length-append items (item ∷ []));
  used_is = ap (λ n. n + item_cost item) g.used_is ∙ sym (cost-push items item);
  few = let few = g.few in omega arith;
  room = room;
  valid = valid_push items item g.valid valid;
}

-- nothing stands on a page of zeros
pub IsGathered-none : (page : List ℕ) → page ≡ zero_block → IsGathered page 0 0 []
IsGathered-none page clear = record {
  tail = ap (drop 4) clear ∙ drop-zeros 4 4096;
  count_is = refl;
  used_is = refl;
  few = omega arith;
  room = omega arith;
  valid = tt;
}

-- what is gathered is what is read
pub IsGathered-read : (page : List ℕ) (count used : ℕ) (items : List Item) → IsGathered page count used items → IsGathered page count used (items_on page count used)
IsGathered-read page count used items g = subst (λ is. IsGathered page count used is) (sym (items_on-gathered page count used items g)) g

-- what is read of a content block, once its numbers are read
abbrev group_with : List ℕ → ℕ → ℕ → Option (List Item)
group_with block count used = if nat_le 1 count && nat_le used group_room && all_zero (drop (4 + used) block) then items_of count (slice_range block 4 (4 + used)) else None

-- a group's content spells the group
pub group_on-group_page : (items : List Item) → AllByRecursion (λ item. IsTrue (is_valid item)) items → 1 ≤ length items → length items < 2 ^ 16 → total_cost items ≤ 4092 → group_on (group_page items) ≡ Some items
unfolding group_on
group_on-group_page items valid some few room =
    let block = group_page items in
    let count : u16_at block 0 ≡ length items = from_be_bytes-to_be_bytes_2 (length items) few in
    let used : u16_at block 2 ≡ total_cost items = from_be_bytes-to_be_bytes_2 (total_cost items) (omega arith) in
    let size = length-spellings items in
    let at_least : nat_le 1 (length items) ≡ true = le-leb _ _ some in
    let at_most : nat_le (total_cost items) 4092 ≡ true = le-leb _ _ room in
    let bytes : slice_range block 4 (4 + total_cost items) ≡ spellings items = ap (λ n. take n (drop 4 block)) (omega arith) ∙ take_at (spellings items) (zeros (4096 - suc (suc (suc (suc (length (spellings items))))))) (total_cost items) size in
    let rest : drop (4 + total_cost items) block ≡ zeros (4096 - suc (suc (suc (suc (length (spellings items)))))) = sym (drop-drop (total_cost items) 4 block) ∙ drop_at (spellings items) (zeros (4096 - suc (suc (suc (suc (length (spellings items))))))) (total_cost items) size in
    let zero_behind : all_zero (drop (4 + total_cost items) block) ≡ true = ap all_zero rest ∙ all_zero-zeros _ in
    ap (λ n. group_with block n (u16_at block 2)) count ∙ ap (λ n. group_with block (length items) n) used ∙ rw (at_least, at_most, zero_behind, bytes) (items_of-spellings items valid)
