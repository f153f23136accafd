-- A bucket that fits is read again from its page.
use Rattle.std.proofs.Common.{◌≡◌, ℕ, suc, ◌+◌, ◌-◌, ◌<◌, ◌≤◌, ◌^◌, refl, ap, ◌∙◌, List, [], ◌∷◌, ◌++◌, length, take, drop, true, Option, Some, None, arith, le-leb, lt-ltb, take_at, drop_at}
use Rattle.std.specs.Prelude.{IsTrue, nat_le, nat_lt}
use Rattle.std.specs.List.{list_all, AllByRecursion}
use Rattle.std.specs.Option.{ForSome}
use Rattle.std.proofs.lemmas.Bool.{and_parts}
use Rattle.std.proofs.lemmas.List.Sums.{sum_by-cons}
use Rattle.std.proofs.lemmas.Nat.{from_be_bytes-to_be_bytes_2, from_be_bytes-to_be_bytes_4}
use Rattle.lt_terms.specs.Bytes.{zeros}
use Rattle.lt_terms.specs.Items.{Item, is_valid, item_cost, total_cost, spellings}
use Rattle.lt_terms.proofs.ItemLaws.{items_of-spellings}
use Rattle.lt_tables.specs.declared.Sends.{Sends}
use Rattle.lt_tables.specs.Bucket.{capacity, bucket_of, bucket_page_1, bucket_of_page_1}
use Rattle.lt_terms.proofs.SpellingLaws.{length-spellings, all_zero-zeros}

pub valid_each : (items : List Item) → list_all is_valid items ≡ true → AllByRecursion (λ item. IsTrue (is_valid item)) items
valid_each [] h = tt
valid_each (v ∷ items) h = let p = and_parts (is_valid v) (list_all is_valid items) h in (p.0, valid_each items p.1)

-- items take at least four bytes each
pub count_small : (items : List Item) → length items ≤ total_cost items
count_small [] = omega arith
count_small (v ∷ items) = let h = count_small items in let e : total_cost (v ∷ items) ≡ item_cost v + total_cost items = sum_by-cons item_cost v items in omega arith

behind : (items : List Item) (k : ℕ) → drop (total_cost items) (spellings items ++ zeros k) ≡ zeros k
behind items k = drop_at (spellings items) (zeros k) (total_cost items) (length-spellings items)

before : (items : List Item) (k : ℕ) → take (total_cost items) (spellings items ++ zeros k) ≡ spellings items
before items k = take_at (spellings items) (zeros k) (total_cost items) (length-spellings items)

drop_16 : (a b c d e f g h i j k l m n o p : ℕ) (rest : List ℕ) (u : ℕ) → drop (16 + u) (a ∷ b ∷ c ∷ d ∷ e ∷ f ∷ g ∷ h ∷ i ∷ j ∷ k ∷ l ∷ m ∷ n ∷ o ∷ p ∷ rest) ≡ drop u rest
drop_16 a b c d e f g h i j k l m n o p rest u =
    let more : 16 + u ≡ suc (suc (suc (suc (suc (suc (suc (suc (suc (suc (suc (suc (suc (suc (suc (suc u))))))))))))))) = omega arith in
    ap (λ x. drop x (a ∷ b ∷ c ∷ d ∷ e ∷ f ∷ g ∷ h ∷ i ∷ j ∷ k ∷ l ∷ m ∷ n ∷ o ∷ p ∷ rest)) more

less_16 : (u : ℕ) → 16 + u - 16 ≡ u
less_16 u = omega arith

keeps_all : (items : List Item) → list_all is_valid items ≡ true → total_cost items ≤ capacity → bucket_of (bucket_page_1 (record { sends = None; items = items })) ≡ Some (record { sends = None; items = items })
unfolding bucket_of_page_1 zeros
keeps_all items valid small =
    let few = count_small items in
    let used_is = from_be_bytes-to_be_bytes_2 (total_cost items) (omega arith) in
    let count_is = from_be_bytes-to_be_bytes_2 (length items) (omega arith) in
    let room : nat_le (total_cost items) capacity ≡ true = le-leb _ _ small in
    let rest : drop (16 + total_cost items) (bucket_page_1 (record { sends = None; items = items })) ≡ zeros _ = drop_16 _ _ _ _ _ _ _ _ _ _ _ _ _ _ _ _ _ (total_cost items) ∙ behind items _ in
    rw (used_is, room, rest, all_zero-zeros, count_is, less_16, before items, items_of-spellings items (valid_each items valid)) refl

sends_some : (s : Sends) (items : List Item) → list_all is_valid items ≡ true → total_cost items ≤ capacity → s.target < 64 → s.mark < 2 ^ 32 → bucket_of (bucket_page_1 (record { sends = Some s; items = items })) ≡ Some (record { sends = Some s; items = items })
unfolding bucket_of_page_1 zeros
sends_some s items valid small target mark =
    let few = count_small items in
    let used_is = from_be_bytes-to_be_bytes_2 (total_cost items) (omega arith) in
    let count_is = from_be_bytes-to_be_bytes_2 (length items) (omega arith) in
    let mark_is = from_be_bytes-to_be_bytes_4 s.mark mark in
    let room : nat_le (total_cost items) capacity ≡ true = le-leb _ _ small in
    let column : nat_lt s.target 64 ≡ true = lt-ltb _ _ target in
    let rest : drop (16 + total_cost items) (bucket_page_1 (record { sends = Some s; items = items })) ≡ zeros _ = drop_16 _ _ _ _ _ _ _ _ _ _ _ _ _ _ _ _ _ (total_cost items) ∙ behind items _ in
    rw (used_is, room, rest, all_zero-zeros, count_is, less_16, before items, items_of-spellings items (valid_each items valid), column, mark_is) refl

pub bucket_of-page : (sends : Option Sends) (items : List Item) → list_all is_valid items ≡ true → total_cost items ≤ capacity → ForSome sends (λ s. s.target < 64) → ForSome sends (λ s. s.mark < 2 ^ 32)
    → bucket_of (bucket_page_1 (record { sends = sends; items = items })) ≡ Some (record { sends = sends; items = items })
bucket_of-page None items valid small target mark = keeps_all items valid small
bucket_of-page (Some s) items valid small target mark = sends_some s items valid small (target s refl) (mark s refl)
