-- Items that fill bytes, read one after another.
use Rattle.std.proofs.Common.{◌≡◌, ℕ, zero, suc, ◌-◌, ◌≤◌, refl, sym, ap, subst, ◌∙◌, List, [], ◌∷◌, length, drop, true, false, Option, Some, None, is_some, arith}
use Rattle.std.specs.Prelude.{◌==◌, IsTrue, unwrap_or}
use Rattle.std.specs.List.{list_all}
use Rattle.std.specs.Option.{option_and_then, option_map}
use Rattle.std.proofs.lemmas.List.{length-drop}
use Rattle.std.proofs.lemmas.Bool.{eq-eqb, ne_eqb}
use Rattle.std.proofs.lemmas.Option.{none-some}
use Rattle.lt_terms.specs.Items.{Item, is_valid, front_item, items_of}
use Rattle.lt_bucket.specs.Reading.{items_in}
use Rattle.lt_tables.proofs.ValidLaws.{front_item-valid}

-- where no item stands, no items do
pub items_of-none : (n m : ℕ) (bytes : List ℕ) → n ≡ suc m → front_item bytes ≡ None → items_of n bytes ≡ None
unfolding items_of
items_of-none n m bytes n_is none = rw (n_is, none) refl

-- behind an item stand the others
pub items_of-one : (n m : ℕ) (bytes : List ℕ) (found : Item × List ℕ) → n ≡ suc m → front_item bytes ≡ Some found → items_of n bytes ≡ option_map (λ rest. found.0 ∷ rest) (items_of m found.1)
unfolding items_of
items_of-one n m bytes found n_is read = rw (n_is, read) refl

is_some-map : {A B : Type 0} (f : A → B) (o : Option A) → is_some (option_map f o) ≡ is_some o
is_some-map f None = refl
is_some-map f (Some x) = refl

-- whether items stand behind an item decides whether items stand there
pub is_some-one : (n m : ℕ) (bytes : List ℕ) (found : Item × List ℕ) → n ≡ suc m → front_item bytes ≡ Some found → is_some (items_of n bytes) ≡ is_some (items_of m found.1)
is_some-one n m bytes found n_is read =
    ap is_some (items_of-one n m bytes found n_is read) ∙ is_some-map (λ rest. found.0 ∷ rest) (items_of m found.1)

-- behind the last one stands nothing
none_left : (rest : List ℕ) (at end : ℕ) → length rest ≡ end - at → at ≤ end → is_some (items_of 0 rest) ≡ (at == end)
unfolding items_of
none_left [] at end left within = sym (eq-eqb at end (omega arith))
none_left (b ∷ rest) at end left within = sym (ne_eqb at end (λ same. omega arith))

is_some-end : (n at : ℕ) (bytes : List ℕ) → n ≡ 0 → at ≤ length bytes → is_some (items_of n (drop at bytes)) ≡ (at == length bytes)
is_some-end n at bytes n_is within =
    ap (λ n. is_some (items_of n (drop at bytes))) n_is ∙ none_left (drop at bytes) at (length bytes) (length-drop at bytes) within

pub is_some-whole : (n at : ℕ) (bytes : List ℕ) → n ≡ 0 → at ≡ length bytes → is_some (items_of n (drop at bytes)) ≡ true
is_some-whole n at bytes n_is whole = is_some-end n at bytes n_is (omega arith) ∙ eq-eqb at (length bytes) whole

pub is_some-part : (n at : ℕ) (bytes : List ℕ) → n ≡ 0 → at ≤ length bytes → (at ≡ length bytes → ⊥) → is_some (items_of n (drop at bytes)) ≡ false
is_some-part n at bytes n_is within part = is_some-end n at bytes n_is within ∙ ne_eqb at (length bytes) part

-- no items are the empty list
pub items_in-none : (n : ℕ) (bytes : List ℕ) → n ≡ 0 → items_in n bytes ≡ []
unfolding items_of
items_in-none n [] n_is = rw n_is refl
items_in-none n (b ∷ bytes) n_is = rw n_is refl

unwrapped_one : (item : Item) (o : Option (List Item)) → is_some o ≡ true → unwrap_or (option_map (λ rest. item ∷ rest) o) [] ≡ item ∷ unwrap_or o []
unwrapped_one item None h = absurd (cc)
unwrapped_one item (Some items) h = refl

-- the first item and the others
pub items_in-one : (n m : ℕ) (bytes : List ℕ) (found : Item × List ℕ) → n ≡ suc m → front_item bytes ≡ Some found → IsTrue (is_some (items_of n bytes)) → items_in n bytes ≡ found.0 ∷ items_in m found.1
items_in-one n m bytes found n_is read some =
    ap (λ o. unwrap_or o []) (items_of-one n m bytes found n_is read)
    ∙ unwrapped_one found.0 (items_of m found.1) (sym (is_some-one n m bytes found n_is read) ∙ some)

-- what items that fill bytes are
pub record AreRead (count : ℕ) (items : List Item) : Type 0 where
  pub count_is : length items ≡ count
  pub valid : list_all is_valid items ≡ true

one_more : (n : ℕ) (first : Item) (rest items : List Item) → is_valid first ≡ true → AreRead n rest → first ∷ rest ≡ items → AreRead (suc n) items
one_more n first rest items valid read items_are =
    subst (AreRead (suc n)) items_are (record { count_is = ap suc read.count_is; valid = rw valid read.valid })

reads_others : (n : ℕ) (first : Item) (items : List Item) (o : Option (List Item)) → is_valid first ≡ true → ((rest : List Item) → o ≡ Some rest → AreRead n rest) → option_map (λ rest. first ∷ rest) o ≡ Some items → AreRead (suc n) items
reads_others n first items None valid others h = absurd (none-some items h)
reads_others n first items (Some rest) valid others h = one_more n first rest items valid (others rest refl) (cc)

reads_first : (n : ℕ) (bytes : List ℕ) (items : List Item) (o : Option (Item × List ℕ)) → front_item bytes ≡ o → ((bytes : List ℕ) (rest : List Item) → items_of n bytes ≡ Some rest → AreRead n rest)
    → option_and_then (λ (first : Item × List ℕ). option_map (λ rest. first.0 ∷ rest) (items_of n first.1)) o ≡ Some items → AreRead (suc n) items
reads_first n bytes items None is others h = absurd (none-some items h)
reads_first n bytes items (Some found) is others h = reads_others n found.0 items (items_of n found.1) (front_item-valid bytes found is) (others found.1) h

pub items_of-reads : (n : ℕ) (bytes : List ℕ) (items : List Item) → items_of n bytes ≡ Some items → AreRead n items
unfolding items_of
items_of-reads zero [] items read = let none : [] ≡ items = cc in subst (AreRead 0) none (record { count_is = refl; valid = refl })
items_of-reads zero (b ∷ bytes) items read = absurd (none-some items read)
items_of-reads (suc n) bytes items read = reads_first n bytes items (front_item bytes) refl (items_of-reads n) read

pub unwrapped : (o : Option (List Item)) → is_some o ≡ true → o ≡ Some (unwrap_or o [])
unwrapped None h = absurd (cc)
unwrapped (Some items) h = refl

pub items_in-reads : (n : ℕ) (bytes : List ℕ) → IsTrue (is_some (items_of n bytes)) → AreRead n (items_in n bytes)
items_in-reads n bytes some = items_of-reads n bytes (items_in n bytes) (unwrapped (items_of n bytes) some)

pub nothing : (o : Option (List Item)) → is_some o ≡ false → o ≡ None
nothing None h = refl
nothing (Some items) h = absurd (cc)

pub is_some-none : (n m : ℕ) (bytes : List ℕ) → n ≡ suc m → front_item bytes ≡ None → is_some (items_of n bytes) ≡ false
is_some-none n m bytes n_is none = ap is_some (items_of-none n m bytes n_is none)
