-- Fields that are spelled in bytes are read.
use Rattle.std.proofs.Common.{◌≡◌, ℕ, ◌+◌, ◌*◌, ◌^◌, ◌<◌, ◌≤◌, refl, sym, ap, ◌∙◌, List, [], ◌∷◌, ◌++◌, length, Bool, true, not, ◌&&◌, Ok, arith, length-append}
use Rattle.std.specs.Prelude.{get_or, ◌==◌, nat_le, nat_lt}
use Rattle.std.specs.Int.{Width, w8, w16, w32, w64, byte_len, from_be_bytes}
use Rattle.std.proofs.lemmas.List.{get_or_append_left, get_or-append-add}
use Rattle.std.proofs.lemmas.List.FromFn.{fill_by_all}
use Rattle.std.proofs.lemmas.Nat.{from_be_bytes-to_be_bytes_2, from_be_bytes-to_be_bytes_4, from_be_bytes-to_be_bytes_8}
use Rattle.std.proofs.lemmas.Bool.{and_parts, and_from, ltb-true, le-leb, eq-eqb, not_from_false}
use Rattle.lt_terms.specs.Bytes.{u16, u32, u64, is_in}
use Rattle.lt_format.specs.Trie.{all_below}
use Rattle.lt_format.specs.Snapshot.{numbers, number_in, field, extents_at}
use Rattle.lt_format.proofs.Numbers.{times, absent-times}

-- the bytes from an offset on are these
abbrev pub Spells : (ℕ → ℕ) → ℕ → List ℕ → Type 0
Spells bytes at xs = (i : ℕ) → i < length xs → bytes (at + i) ≡ get_or xs i 0

pub spells-front : (bytes : ℕ → ℕ) (at : ℕ) (xs ys : List ℕ) → Spells bytes at (xs ++ ys) → Spells bytes at xs
spells-front bytes at xs ys s i within = s i (omega (arith, length-append xs ys)) ∙ get_or_append_left xs ys 0 i within

pub spells-rest : (bytes : ℕ → ℕ) (at next : ℕ) (xs ys : List ℕ) → Spells bytes at (xs ++ ys) → at + length xs ≡ next → Spells bytes next ys
spells-rest bytes at next xs ys s reached i within =
    let place : next + i ≡ at + (length xs + i) = omega arith in
    ap bytes place ∙ s (length xs + i) (omega (arith, length-append xs ys)) ∙ get_or-append-add xs ys i 0

-- a field that stands
pub field-reads : (w : Width) (bytes : ℕ → ℕ) (limit : ℕ) (stands : ℕ → Bool) (at next n : ℕ) → number_in w bytes at ≡ n → at + byte_len w ≡ next → next ≤ limit → stands n ≡ true → field bytes limit w stands at ≡ Ok (n, next)
field-reads w bytes limit stands at next n read ends room stand =
    let fits : nat_le (at + byte_len w) limit ≡ true = le-leb (at + byte_len w) limit (omega arith) in
    let passes : stands (number_in w bytes at) ≡ true = ap stands read ∙ stand in
    rw (fits, passes) (ap (λ (p : ℕ × ℕ). Ok p) (λ i. (read i, ends i)))

number_in-spelled : (w : Width) (bytes : ℕ → ℕ) (at : ℕ) (xs : List ℕ) → length xs ≡ byte_len w → Spells bytes at xs → number_in w bytes at ≡ from_be_bytes w xs
number_in-spelled w bytes at xs len s = ap (from_be_bytes w) (sym (fill_by_all (λ i. bytes (at + i)) xs (byte_len w) 0 len (λ k within. sym (s k (omega arith)))))

pub u8-reads : (bytes : ℕ → ℕ) (limit : ℕ) (stands : ℕ → Bool) (at next n : ℕ) (rest : List ℕ) → Spells bytes at (n ∷ rest) → at + 1 ≡ next → next ≤ limit → stands n ≡ true → field bytes limit w8 stands at ≡ Ok (n, next)
u8-reads bytes limit stands at next n rest s =
    field-reads w8 bytes limit stands at next n (number_in-spelled w8 bytes at (n ∷ []) refl (spells-front bytes at (n ∷ []) rest s) ∙ byte)
  where
    byte : from_be_bytes w8 (n ∷ []) ≡ n
    byte = omega arith

pub u16-reads : (bytes : ℕ → ℕ) (limit : ℕ) (stands : ℕ → Bool) (at next n : ℕ) (rest : List ℕ) → Spells bytes at (u16 n ++ rest) → n < 2 ^ 16 → at + 2 ≡ next → next ≤ limit → stands n ≡ true → field bytes limit w16 stands at ≡ Ok (n, next)
u16-reads bytes limit stands at next n rest s small =
    field-reads w16 bytes limit stands at next n (number_in-spelled w16 bytes at (u16 n) refl (spells-front bytes at (u16 n) rest s) ∙ from_be_bytes-to_be_bytes_2 n small)

pub u32-reads : (bytes : ℕ → ℕ) (limit : ℕ) (stands : ℕ → Bool) (at next n : ℕ) (rest : List ℕ) → Spells bytes at (u32 n ++ rest) → n < 2 ^ 32 → at + 4 ≡ next → next ≤ limit → stands n ≡ true → field bytes limit w32 stands at ≡ Ok (n, next)
u32-reads bytes limit stands at next n rest s small =
    field-reads w32 bytes limit stands at next n (number_in-spelled w32 bytes at (u32 n) refl (spells-front bytes at (u32 n) rest s) ∙ from_be_bytes-to_be_bytes_4 n small)

pub u64-number : (bytes : ℕ → ℕ) (at n : ℕ) (rest : List ℕ) → Spells bytes at (u64 n ++ rest) → n < 2 ^ 64 → number_in w64 bytes at ≡ n
u64-number bytes at n rest s small = number_in-spelled w64 bytes at (u64 n) refl (spells-front bytes at (u64 n) rest s) ∙ from_be_bytes-to_be_bytes_8 n small

pub u64-reads : (bytes : ℕ → ℕ) (limit : ℕ) (stands : ℕ → Bool) (at next n : ℕ) (rest : List ℕ) → Spells bytes at (u64 n ++ rest) → n < 2 ^ 64 → at + 8 ≡ next → next ≤ limit → stands n ≡ true → field bytes limit w64 stands at ≡ Ok (n, next)
u64-reads bytes limit stands at next n rest s small = field-reads w64 bytes limit stands at next n (u64-number bytes at n rest s small)

-- extent numbers that stand: below the number of extents, no two the same, and none named before
pub record AreFresh (extents : ℕ) (xs before : List ℕ) : Type 0 where
  pub below : all_below extents xs ≡ true
  pub once : (x : ℕ) → times x xs + times x before ≤ 1

first_fresh : (extents x : ℕ) (xs before : List ℕ) → AreFresh extents (x ∷ xs) before → (nat_lt x extents && not (is_in x before)) ≡ true
first_fresh extents x xs before f =
    let same : (x == x) ≡ true = eq-eqb x x refl in
    let here = rw same at (f.once x) in
    and_from (nat_lt x extents) (not (is_in x before)) (and_parts (nat_lt x extents) (all_below extents xs) f.below).0
    (not_from_false (is_in x before) (absent-times x before (omega (arith, here))))

rest_fresh : (extents x : ℕ) (xs before : List ℕ) → AreFresh extents (x ∷ xs) before → AreFresh extents xs (x ∷ before)
rest_fresh extents x xs before f = record { below = (and_parts (nat_lt x extents) (all_below extents xs) f.below).1; once = λ y. omega (arith, f.once y) }

-- they are read
pub extents_at-reads : (bytes : ℕ → ℕ) (limit extents : ℕ) (xs rest before : List ℕ) (at next : ℕ) → extents < 2 ^ 32 → AreFresh extents xs before → Spells bytes at (numbers xs ++ rest) → at + 4 * length xs ≡ next → next ≤ limit → extents_at bytes limit extents (length xs) before at ≡ Ok (xs, next)
unfolding extents_at
extents_at-reads bytes limit extents [] rest before at next few f s reached room = ap (λ n. Ok ([], n)) (omega arith)
extents_at-reads bytes limit extents (x ∷ xs) rest before at next few f s reached room =
    let small : x < extents = ltb-true x extents (and_parts (nat_lt x extents) (all_below extents xs) f.below).0 in
    let first = u32-reads bytes limit (λ y. nat_lt y extents && not (is_in y before)) at (at + 4) x (numbers xs ++ rest) s (omega arith) refl (omega arith) (first_fresh extents x xs before f) in
    let others = extents_at-reads bytes limit extents xs rest (x ∷ before) (at + 4) next few (rest_fresh extents x xs before f) (spells-rest bytes at (at + 4) (u32 x) (numbers xs ++ rest) s refl) (omega arith) room in
    rw (first, others) refl
