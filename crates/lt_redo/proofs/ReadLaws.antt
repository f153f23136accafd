-- Items that were read of bytes.
use Rattle.std.proofs.Common.{◌≡◌, ℕ, zero, suc, ◌+◌, ◌-◌, ◌≤◌, refl, sym, ap, subst, ◌∙◌, List, [], ◌∷◌, ◌++◌, length, drop, true, Option, Some, None, arith}
use Rattle.std.specs.Prelude.{nat_le}
use Rattle.std.specs.List.{list_all}
use Rattle.std.specs.Option.{option_and_then, option_map}
use Rattle.std.proofs.lemmas.List.{length-append, length-drop}
use Rattle.std.proofs.lemmas.List.Sums.{sum_by-cons}
use Rattle.std.proofs.lemmas.Bool.{leb-true}
use Rattle.std.proofs.lemmas.Option.{none-some}
use Rattle.lt_terms.specs.Items.{Item, is_valid, item_cost, total_cost, front_item, items_of}
use Rattle.lt_terms.proofs.ItemLaws.{cut_item-cuts, guard_option}

-- the bytes have this item and behind it the rest
record IsOneRead (bytes rest : List ℕ) (item : Item) : Type 0 where
  pub size : length bytes ≡ item_cost item + length rest
  pub valid : is_valid item ≡ true

one_read : (bytes : List ℕ) (found : Item × List ℕ) → front_item bytes ≡ Some found → IsOneRead bytes found.1 found.0
unfolding front_item
one_read bytes found h =
    let read = guard_option (nat_le 4 (length bytes)) _ found h in
    let cut = cut_item-cuts _ _ _ _ found read.1 in
    let long : 4 ≤ length bytes = leb-true _ _ read.0 in
    let behind : length (drop 4 bytes) ≡ length bytes - 4 = length-drop 4 bytes in
    let whole : length (drop 4 bytes) ≡ length found.0.key + (length found.0.value + length found.1) = ap length cut.whole ∙ length-append found.0.key (found.0.value ++ found.1) ∙ ap (λ n. length found.0.key + n) (length-append found.0.value found.1) in
    record { size = omega arith; valid = cut.valid }

-- the items are valid, and cost as much as there are bytes
pub record AreRead (bytes : List ℕ) (items : List Item) : Type 0 where
  pub cost : total_cost items ≡ length bytes
  pub valid : list_all is_valid items ≡ true

one_more : (bytes rest : List ℕ) (first : Item) (others items : List Item) → IsOneRead bytes rest first → AreRead rest others → first ∷ others ≡ items → AreRead bytes items
one_more bytes rest first others items one read is =
    let cons : total_cost (first ∷ others) ≡ item_cost first + total_cost others = sum_by-cons item_cost first others in
    subst (AreRead bytes) is (record { cost = omega (arith, cons, one.size, read.cost); valid = rw one.valid read.valid })

reads_others : (bytes rest : List ℕ) (first : Item) (items : List Item) (o : Option (List Item)) → IsOneRead bytes rest first → ((others : List Item) → o ≡ Some others → AreRead rest others) → option_map (λ others. first ∷ others) o ≡ Some items → AreRead bytes items
reads_others bytes rest first items None one others h = absurd (none-some items h)
reads_others bytes rest first items (Some more) one others h = one_more bytes rest first more items one (others more refl) (cc)

reads_first : (n : ℕ) (bytes : List ℕ) (items : List Item) (o : Option (Item × List ℕ)) → front_item bytes ≡ o → ((bytes : List ℕ) (others : List Item) → items_of n bytes ≡ Some others → AreRead bytes others)
    → option_and_then (λ (first : Item × List ℕ). option_map (λ others. first.0 ∷ others) (items_of n first.1)) o ≡ Some items → AreRead bytes items
reads_first n bytes items None is others h = absurd (none-some items h)
reads_first n bytes items (Some found) is others h = reads_others bytes found.1 found.0 items (items_of n found.1) (one_read bytes found is) (others found.1) h

pub items_of-reads : (n : ℕ) (bytes : List ℕ) (items : List Item) → items_of n bytes ≡ Some items → AreRead bytes items
unfolding items_of
items_of-reads zero [] items read = let none : [] ≡ items = cc in subst (AreRead []) none (record { cost = refl; valid = refl })
items_of-reads zero (b ∷ bytes) items read = absurd (none-some items read)
items_of-reads (suc n) bytes items read = reads_first n bytes items (front_item bytes) refl (items_of-reads n) read

-- as many items as were asked for are read
count_of_rest : (n : ℕ) (first : Item) (items : List Item) (o : Option (List Item)) → ((others : List Item) → o ≡ Some others → length others ≡ n) → option_map (λ others. first ∷ others) o ≡ Some items → length items ≡ suc n
count_of_rest n first items None others h = absurd (none-some items h)
count_of_rest n first items (Some more) others h = let is : first ∷ more ≡ items = cc in ap length (sym is) ∙ ap suc (others more refl)

count_of_first : (n : ℕ) (items : List Item) (o : Option (Item × List ℕ)) → ((bytes : List ℕ) (others : List Item) → items_of n bytes ≡ Some others → length others ≡ n)
    → option_and_then (λ (first : Item × List ℕ). option_map (λ others. first.0 ∷ others) (items_of n first.1)) o ≡ Some items → length items ≡ suc n
count_of_first n items None others h = absurd (none-some items h)
count_of_first n items (Some found) others h = count_of_rest n found.0 items (items_of n found.1) (others found.1) h

pub items_of-count : (n : ℕ) (bytes : List ℕ) (items : List Item) → items_of n bytes ≡ Some items → length items ≡ n
unfolding items_of
items_of-count zero [] items read = let none : [] ≡ items = cc in ap length (sym none)
items_of-count zero (b ∷ bytes) items read = absurd (none-some items read)
items_of-count (suc n) bytes items read = count_of_first n items (front_item bytes) (items_of-count n) read
