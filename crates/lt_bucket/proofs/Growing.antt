-- A page on which items are put one behind the other.
use Rattle.std.proofs.Common.{◌≡◌, ℕ, ◌+◌, ◌≤◌, refl, sym, ap, ◌∙◌, List, [], ◌∷◌, ◌++◌, length, take, drop, true, Some, is_some, add-zero, arith}
use Rattle.std.specs.Prelude.{unwrap_or}
use Rattle.std.specs.List.{list_all}
use Rattle.std.proofs.lemmas.List.{length-append, length-take-le, length-drop, take_at, drop-append-le, drop-take}
use Rattle.std.proofs.lemmas.List.Folds.{list_all-append}
use Rattle.std.proofs.lemmas.List.Sums.{sum_by-append, sum_by-cons}
use Rattle.lt_terms.specs.Items.{Item, is_valid, item_cost, total_cost, spelling, spellings, items_of}
use Rattle.lt_terms.proofs.ItemLaws.{items_of-spellings}
use Rattle.lt_tables.specs.Bucket.{capacity}
use Rattle.lt_item.specs.Views.{item_written}
use Rattle.lt_bucket.specs.Building.{used_bytes, items_used, IsSpelled}
use Rattle.lt_bucket.proofs.ItemsOf.{items_in-reads}
use Rattle.lt_bucket.proofs.BucketPages.{valid_each, count_small}
use Rattle.lt_terms.proofs.SpellingLaws.{length-spelling, spellings-more}

-- the bytes in use, with the item behind them
used-written : (old : List ℕ) (used : ℕ) (item : Item) → 16 + used ≤ length old → used_bytes (item_written old (16 + used) item) (used + length (spelling item)) ≡ used_bytes old used ++ spelling item
used-written old used item within =
    let front : List ℕ = take (16 + used) old in
    let rest : List ℕ = drop (16 + used + item_cost item) old in
    let front_len : length front ≡ 16 + used = length-take-le (16 + used) old within in
    let long : 16 ≤ length front = omega arith in
    let longer : 16 ≤ length (front ++ spelling item) = let l = length-append front (spelling item) in omega arith in
    let inner : drop 16 front ≡ used_bytes old used = drop-take 16 used old in
    let behind : length (used_bytes old used) ≡ used = length-take-le used (drop 16 old) (let l = length-drop 16 old in omega arith) in
    let whole : length (used_bytes old used ++ spelling item) ≡ used + length (spelling item) = length-append (used_bytes old used) (spelling item) ∙ ap (λ n. n + length (spelling item)) behind in
    ap (take (used + length (spelling item)))
    (drop-append-le 16 (front ++ spelling item) rest longer
    ∙ ap (λ bytes. bytes ++ rest) (drop-append-le 16 front (spelling item) long ∙ ap (λ bytes. bytes ++ spelling item) inner))
    ∙ take_at (used_bytes old used ++ spelling item) rest (used + length (spelling item)) whole

-- the items, with one more
pub items-more : (count : ℕ) (bytes : List ℕ) (items : List Item) (item : Item) → bytes ≡ spellings items → length items ≡ count → list_all is_valid items ≡ true → is_valid item ≡ true
    → items_of (count + 1) (bytes ++ spelling item) ≡ Some (items ++ item ∷ [])
items-more count bytes items item whole count_is valid more =
    let count_more : length (items ++ item ∷ []) ≡ count + 1 = length-append items (item ∷ []) ∙ ap (λ n. n + 1) count_is in
    let all : list_all is_valid (items ++ item ∷ []) ≡ true = list_all-append is_valid items (item ∷ []) ∙ (rw (valid, more) refl) in
    ap (λ n. items_of n (bytes ++ spelling item)) (sym count_more)
    ∙ ap (items_of (length (items ++ item ∷ []))) (ap (λ bytes. bytes ++ spelling item) whole ∙ sym (spellings-more items item))
    ∙ items_of-spellings (items ++ item ∷ []) (valid_each (items ++ item ∷ []) all)

-- the page after an item was put behind the others
pub record HasMore (old new : List ℕ) (count used after : ℕ) (item : Item) : Type 0 where
  pub spelled : IsSpelled new (count + 1) after
  pub items : items_used new (count + 1) after ≡ items_used old count used ++ item ∷ []

pub more_spelled : (old new : List ℕ) (count used after : ℕ) (item : Item) → IsSpelled old count used → is_valid item ≡ true → total_cost (items_used old count used) + item_cost item ≤ capacity
    → 16 + used ≤ length old → new ≡ item_written old (16 + used) item → after ≡ used + item_cost item → HasMore old new count used after item
more_spelled old new count used after item spelled valid fits within written after_is =
    let items : List Item = items_used old count used in
    let read = items_in-reads count (used_bytes old used) spelled.items in
    let bytes : used_bytes new after ≡ used_bytes old used ++ spelling item =
    ap (used_bytes new) (after_is ∙ ap (λ n. used + n) (sym (length-spelling item)))
    ∙ ap (λ new. used_bytes new (used + length (spelling item))) written
    ∙ used-written old used item within in
    let more : items_of (count + 1) (used_bytes new after) ≡ Some (items ++ item ∷ []) =
    ap (items_of (count + 1)) bytes ∙ items-more count (used_bytes old used) items item spelled.whole read.count_is read.valid valid in
    let items_is : items_used new (count + 1) after ≡ items ++ item ∷ [] = ap (λ o. unwrap_or o []) more in
    let cost_is : total_cost (items ++ item ∷ []) ≡ used + item_cost item =
    sum_by-append item_cost items (item ∷ [])
    ∙ ap (λ n. n + total_cost (item ∷ [])) spelled.used_is
    ∙ ap (λ n. used + n) (sum_by-cons item_cost item [] ∙ add-zero (item_cost item)) in
    record {
      spelled = record {
        items = ap is_some more;
        whole = bytes ∙ ap (λ bytes. bytes ++ spelling item) spelled.whole ∙ sym (spellings-more items item) ∙ ap spellings (sym items_is);
        used_is = ap total_cost items_is ∙ cost_is ∙ sym after_is;
        fits = let u = spelled.used_is in omega arith;
      };
      items = items_is;
    }

-- there are no more items than bytes
pub count_fits : (page : List ℕ) (count used : ℕ) → IsSpelled page count used → count ≤ used
count_fits page count used spelled =
    let read = items_in-reads count (used_bytes page used) spelled.items in
    let few = count_small (items_used page count used) in
    let c = read.count_is in
    let u = spelled.used_is in
    omega arith
