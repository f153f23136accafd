-- How long spellings are, and bytes that are 0.
use Rattle.std.proofs.Common.{◌≡◌, ℕ, zero, suc, ◌+◌, ap, refl, sym, ◌∙◌, List, [], ◌∷◌, ◌++◌, length, true, append-nil, arith}
use Rattle.std.proofs.lemmas.Grind.{flat_map-append}
use Rattle.std.proofs.lemmas.List.{length-append, length-replicate}
use Rattle.std.proofs.lemmas.List.Sums.{sum_by-cons}
use Rattle.lt_terms.specs.Bytes.{all_zero, zeros}
use Rattle.lt_terms.specs.Items.{Item, item_cost, spelling, spellings, total_cost}

pub length-zeros : (n : ℕ) → length (zeros n) ≡ n
unfolding zeros
length-zeros n = length-replicate n 0

pub all_zero-zeros : (n : ℕ) → all_zero (zeros n) ≡ true
unfolding zeros
all_zero-zeros zero = refl
all_zero-zeros (suc n) = all_zero-zeros n

-- a spelling is as long as the item costs
pub length-spelling : (item : Item) → length (spelling item) ≡ item_cost item
length-spelling item = let e = length-append item.key item.value in omega arith

pub length-spellings : (items : List Item) → length (spellings items) ≡ total_cost items
length-spellings [] = refl
length-spellings (v ∷ items) =
    length-append (spelling v) (spellings items)
    ∙ ap (λ n. n + length (spellings items)) (length-spelling v)
    ∙ ap (λ n. item_cost v + n) (length-spellings items)
    ∙ sym (sum_by-cons item_cost v items)

pub spellings-more : (items : List Item) (item : Item) → spellings (items ++ item ∷ []) ≡ spellings items ++ spelling item
spellings-more items item = flat_map-append spelling items (item ∷ []) ∙ ap (λ bytes. spellings items ++ bytes) (append-nil (spelling item))
