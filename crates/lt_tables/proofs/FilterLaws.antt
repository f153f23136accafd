-- The bits of a filter block, and that no other page has these bits.
use Rattle.std.proofs.Common.{◌≡◌, ℕ, zero, suc, ◌+◌, ◌-◌, ◌*◌, ◌/◌, ◌%◌, ◌<◌, ◌≤◌, refl, ap, ◌∙◌, Bool, true, false, cond, sym, ⊎_elim, arith, List, [], ◌∷◌, ◌++◌, length, get_or, get_or-append-add}
use Rattle.std.proofs.lemmas.List.{get_or_append_left, length-append, ext_get_or, get_or-replicate, length-replicate}
use Rattle.std.proofs.lemmas.List.Elements.{filter-append}
use Rattle.std.proofs.lemmas.Grind.{flat_map-append}
use Rattle.std.proofs.lemmas.Bool.{cases_eq, eq-eqb, ne_eqb}
use Rattle.std.proofs.lemmas.Nat.Bits.{bit_at-lt, bit_at-zero, same_from_bits_below}
use Rattle.std.proofs.lemmas.List.FromFn.{length-map-range_with_len, get_or-map-range_with_len}
use Rattle.std.specs.List.{flat_map, range_with_len, filter}
use Rattle.lt_terms.specs.Items.{Item}
use Rattle.std.specs.Prelude.{◌==◌, ◌&&◌, ◌||◌}
use Rattle.std.specs.Int.{bit_at}
use Rattle.lt_terms.specs.Bytes.{IsBlock, zero_block, zeros, is_in}
use Rattle.lt_terms.specs.Hashes.{home_column, key_positions}
use Rattle.lt_terms.proofs.AmongLaws.{in_append}
use Rattle.lt_tables.specs.Filter.{byte_of, bytes_of_bits, filter_of, is_set, is_set_in, home_positions, filter_block, AddsPositions, HasFilters}
use Rattle.std.proofs.Math.Bool.{or-false}

weigh : (b : Bool) (w : ℕ) → cond b w 0 ≡ w * cond b 1 0
weigh true w = omega arith
weigh false w = omega arith

small : (b : Bool) → cond b 1 0 ≤ 1
small true = omega arith
small false = omega arith

one_is : (b : Bool) → (cond b 1 0 == 1) ≡ b
one_is true = refl
one_is false = refl

sum_bit_0 : (a b c d e f g h : ℕ) → a ≤ 1 → b ≤ 1 → c ≤ 1 → d ≤ 1 → e ≤ 1 → f ≤ 1 → g ≤ 1 → h ≤ 1 → (128 * a + 64 * b + 32 * c + 16 * d + 8 * e + 4 * f + 2 * g + h) / 128 % 2 ≡ a
sum_bit_0 a b c d e f g h pa pb pc pd pe pf pg ph = omega arith

sum_bit_1 : (a b c d e f g h : ℕ) → a ≤ 1 → b ≤ 1 → c ≤ 1 → d ≤ 1 → e ≤ 1 → f ≤ 1 → g ≤ 1 → h ≤ 1 → (128 * a + 64 * b + 32 * c + 16 * d + 8 * e + 4 * f + 2 * g + h) / 64 % 2 ≡ b
sum_bit_1 a b c d e f g h pa pb pc pd pe pf pg ph = omega arith

sum_bit_2 : (a b c d e f g h : ℕ) → a ≤ 1 → b ≤ 1 → c ≤ 1 → d ≤ 1 → e ≤ 1 → f ≤ 1 → g ≤ 1 → h ≤ 1 → (128 * a + 64 * b + 32 * c + 16 * d + 8 * e + 4 * f + 2 * g + h) / 32 % 2 ≡ c
sum_bit_2 a b c d e f g h pa pb pc pd pe pf pg ph = omega arith

sum_bit_3 : (a b c d e f g h : ℕ) → a ≤ 1 → b ≤ 1 → c ≤ 1 → d ≤ 1 → e ≤ 1 → f ≤ 1 → g ≤ 1 → h ≤ 1 → (128 * a + 64 * b + 32 * c + 16 * d + 8 * e + 4 * f + 2 * g + h) / 16 % 2 ≡ d
sum_bit_3 a b c d e f g h pa pb pc pd pe pf pg ph = omega arith

sum_bit_4 : (a b c d e f g h : ℕ) → a ≤ 1 → b ≤ 1 → c ≤ 1 → d ≤ 1 → e ≤ 1 → f ≤ 1 → g ≤ 1 → h ≤ 1 → (128 * a + 64 * b + 32 * c + 16 * d + 8 * e + 4 * f + 2 * g + h) / 8 % 2 ≡ e
sum_bit_4 a b c d e f g h pa pb pc pd pe pf pg ph = omega arith

sum_bit_5 : (a b c d e f g h : ℕ) → a ≤ 1 → b ≤ 1 → c ≤ 1 → d ≤ 1 → e ≤ 1 → f ≤ 1 → g ≤ 1 → h ≤ 1 → (128 * a + 64 * b + 32 * c + 16 * d + 8 * e + 4 * f + 2 * g + h) / 4 % 2 ≡ f
sum_bit_5 a b c d e f g h pa pb pc pd pe pf pg ph = omega arith

sum_bit_6 : (a b c d e f g h : ℕ) → a ≤ 1 → b ≤ 1 → c ≤ 1 → d ≤ 1 → e ≤ 1 → f ≤ 1 → g ≤ 1 → h ≤ 1 → (128 * a + 64 * b + 32 * c + 16 * d + 8 * e + 4 * f + 2 * g + h) / 2 % 2 ≡ g
sum_bit_6 a b c d e f g h pa pb pc pd pe pf pg ph = omega arith

sum_bit_7 : (a b c d e f g h : ℕ) → a ≤ 1 → b ≤ 1 → c ≤ 1 → d ≤ 1 → e ≤ 1 → f ≤ 1 → g ≤ 1 → h ≤ 1 → (128 * a + 64 * b + 32 * c + 16 * d + 8 * e + 4 * f + 2 * g + h) / 1 % 2 ≡ h
sum_bit_7 a b c d e f g h pa pb pc pd pe pf pg ph = omega arith

byte_sum : (t : ℕ → Bool) → byte_of t ≡ 128 * cond (t 0) 1 0 + 64 * cond (t 1) 1 0 + 32 * cond (t 2) 1 0 + 16 * cond (t 3) 1 0 + 8 * cond (t 4) 1 0 + 4 * cond (t 5) 1 0 + 2 * cond (t 6) 1 0 + cond (t 7) 1 0
byte_sum t =
    let w0 = weigh (t 0) 128 in
    let w1 = weigh (t 1) 64 in
    let w2 = weigh (t 2) 32 in
    let w3 = weigh (t 3) 16 in
    let w4 = weigh (t 4) 8 in
    let w5 = weigh (t 5) 4 in
    let w6 = weigh (t 6) 2 in
    let w7 = weigh (t 7) 1 in
    omega arith

-- bit k of the byte, from the highest on
pub bit_at-byte_of : (t : ℕ → Bool) (k : ℕ) → k < 8 → (bit_at (byte_of t) (7 - k) == 1) ≡ t k
bit_at-byte_of t zero l = ap (λ n. n / 128 % 2 == 1) (byte_sum t) ∙ ap (λ n. n == 1) (sum_bit_0 (cond (t 0) 1 0) (cond (t 1) 1 0) (cond (t 2) 1 0) (cond (t 3) 1 0) (cond (t 4) 1 0) (cond (t 5) 1 0) (cond (t 6) 1 0) (cond (t 7) 1 0) (small (t 0)) (small (t 1)) (small (t 2)) (small (t 3)) (small (t 4)) (small (t 5)) (small (t 6)) (small (t 7))) ∙ one_is (t 0)
bit_at-byte_of t (suc zero) l = ap (λ n. n / 64 % 2 == 1) (byte_sum t) ∙ ap (λ n. n == 1) (sum_bit_1 (cond (t 0) 1 0) (cond (t 1) 1 0) (cond (t 2) 1 0) (cond (t 3) 1 0) (cond (t 4) 1 0) (cond (t 5) 1 0) (cond (t 6) 1 0) (cond (t 7) 1 0) (small (t 0)) (small (t 1)) (small (t 2)) (small (t 3)) (small (t 4)) (small (t 5)) (small (t 6)) (small (t 7))) ∙ one_is (t 1)
bit_at-byte_of t (suc (suc zero)) l = ap (λ n. n / 32 % 2 == 1) (byte_sum t) ∙ ap (λ n. n == 1) (sum_bit_2 (cond (t 0) 1 0) (cond (t 1) 1 0) (cond (t 2) 1 0) (cond (t 3) 1 0) (cond (t 4) 1 0) (cond (t 5) 1 0) (cond (t 6) 1 0) (cond (t 7) 1 0) (small (t 0)) (small (t 1)) (small (t 2)) (small (t 3)) (small (t 4)) (small (t 5)) (small (t 6)) (small (t 7))) ∙ one_is (t 2)
bit_at-byte_of t (suc (suc (suc zero))) l = ap (λ n. n / 16 % 2 == 1) (byte_sum t) ∙ ap (λ n. n == 1) (sum_bit_3 (cond (t 0) 1 0) (cond (t 1) 1 0) (cond (t 2) 1 0) (cond (t 3) 1 0) (cond (t 4) 1 0) (cond (t 5) 1 0) (cond (t 6) 1 0) (cond (t 7) 1 0) (small (t 0)) (small (t 1)) (small (t 2)) (small (t 3)) (small (t 4)) (small (t 5)) (small (t 6)) (small (t 7))) ∙ one_is (t 3)
bit_at-byte_of t (suc (suc (suc (suc zero)))) l = ap (λ n. n / 8 % 2 == 1) (byte_sum t) ∙ ap (λ n. n == 1) (sum_bit_4 (cond (t 0) 1 0) (cond (t 1) 1 0) (cond (t 2) 1 0) (cond (t 3) 1 0) (cond (t 4) 1 0) (cond (t 5) 1 0) (cond (t 6) 1 0) (cond (t 7) 1 0) (small (t 0)) (small (t 1)) (small (t 2)) (small (t 3)) (small (t 4)) (small (t 5)) (small (t 6)) (small (t 7))) ∙ one_is (t 4)
bit_at-byte_of t (suc (suc (suc (suc (suc zero))))) l = ap (λ n. n / 4 % 2 == 1) (byte_sum t) ∙ ap (λ n. n == 1) (sum_bit_5 (cond (t 0) 1 0) (cond (t 1) 1 0) (cond (t 2) 1 0) (cond (t 3) 1 0) (cond (t 4) 1 0) (cond (t 5) 1 0) (cond (t 6) 1 0) (cond (t 7) 1 0) (small (t 0)) (small (t 1)) (small (t 2)) (small (t 3)) (small (t 4)) (small (t 5)) (small (t 6)) (small (t 7))) ∙ one_is (t 5)
bit_at-byte_of t (suc (suc (suc (suc (suc (suc zero)))))) l = ap (λ n. n / 2 % 2 == 1) (byte_sum t) ∙ ap (λ n. n == 1) (sum_bit_6 (cond (t 0) 1 0) (cond (t 1) 1 0) (cond (t 2) 1 0) (cond (t 3) 1 0) (cond (t 4) 1 0) (cond (t 5) 1 0) (cond (t 6) 1 0) (cond (t 7) 1 0) (small (t 0)) (small (t 1)) (small (t 2)) (small (t 3)) (small (t 4)) (small (t 5)) (small (t 6)) (small (t 7))) ∙ one_is (t 6)
bit_at-byte_of t (suc (suc (suc (suc (suc (suc (suc zero))))))) l = ap (λ n. n / 1 % 2 == 1) (byte_sum t) ∙ ap (λ n. n == 1) (sum_bit_7 (cond (t 0) 1 0) (cond (t 1) 1 0) (cond (t 2) 1 0) (cond (t 3) 1 0) (cond (t 4) 1 0) (cond (t 5) 1 0) (cond (t 6) 1 0) (cond (t 7) 1 0) (small (t 0)) (small (t 1)) (small (t 2)) (small (t 3)) (small (t 4)) (small (t 5)) (small (t 6)) (small (t 7))) ∙ one_is (t 7)
bit_at-byte_of t (suc (suc (suc (suc (suc (suc (suc (suc k)))))))) l = absurd (omega arith)

-- byte j of row i of rows of 64 bytes
row_at : (f : ℕ → List ℕ) (a n i j : ℕ) → ((c : ℕ) → length (f c) ≡ 64) → i < n → j < 64 → get_or (flat_map f (range_with_len a n)) (64 * i + j) 0 ≡ get_or (f (a + i)) j 0
row_at f a zero i j len low small = absurd (omega arith)
row_at f a (suc n) zero j len low small =
    let l : length (f a) ≡ 64 = len a in
    let here : 64 * 0 + j ≡ j = omega arith in
    let same : a ≡ a + 0 = omega arith in
    ap (λ k. get_or (f a ++ flat_map f (range_with_len (a + 1) n)) k 0) here
    ∙ get_or_append_left (f a) (flat_map f (range_with_len (a + 1) n)) 0 j (omega arith)
    ∙ ap (λ c. get_or (f c) j 0) same
row_at f a (suc n) (suc i) j len low small =
    let l : length (f a) ≡ 64 = len a in
    let there : 64 * suc i + j ≡ length (f a) + (64 * i + j) = omega arith in
    let same : (a + 1) + i ≡ a + suc i = omega arith in
    ap (λ k. get_or (f a ++ flat_map f (range_with_len (a + 1) n)) k 0) there
    ∙ get_or-append-add (f a) (flat_map f (range_with_len (a + 1) n)) (64 * i + j) 0
    ∙ row_at f (a + 1) n i j len (omega arith) small
    ∙ ap (λ c. get_or (f c) j 0) same

length-filter_of : (ps : List ℕ) → length (filter_of ps) ≡ 64
unfolding bytes_of_bits
length-filter_of ps = length-map-range_with_len (λ i. byte_of (λ k. is_in (8 * i + k) ps)) 0 64

byte_in : (ps : List ℕ) (j : ℕ) → j < 64 → get_or (filter_of ps) j 0 ≡ byte_of (λ k. is_in (8 * j + k) ps)
unfolding bytes_of_bits
byte_in ps j small = get_or-map-range_with_len (λ i. byte_of (λ k. is_in (8 * i + k) ps)) 0 64 j j 0 small (omega arith)

-- A FILTER has exactly its positions
pub is_set_in-filter_block : (items : List Item) (c p : ℕ) → c < 64 → p < 512 → is_set_in (filter_block items) c p ≡ is_in p (home_positions items c)
unfolding filter_block
is_set_in-filter_block items c p column small =
    let byte : (512 * c + p) / 8 ≡ 64 * c + p / 8 = omega arith in
    let bit : (512 * c + p) % 8 ≡ p % 8 = omega arith in
    let whole : 8 * (p / 8) + p % 8 ≡ p = omega arith in
    let zero_more : 0 + c ≡ c = omega arith in
    ap (λ k. bit_at (get_or (filter_block items) k 0) (7 - (512 * c + p) % 8) == 1) byte
    ∙ ap (λ k. bit_at (get_or (filter_block items) (64 * c + p / 8) 0) (7 - k) == 1) bit
    ∙ ap (λ b. bit_at b (7 - p % 8) == 1) (row_at (λ c. filter_of (home_positions items c)) 0 64 c (p / 8) (λ c. length-filter_of (home_positions items c)) column (omega arith)
    ∙ ap (λ k. get_or (filter_of (home_positions items k)) (p / 8) 0) zero_more ∙ byte_in (home_positions items c) (p / 8) (omega arith))
    ∙ bit_at-byte_of (λ k. is_in (8 * (p / 8) + k) (home_positions items c)) (p % 8) (omega arith)
    ∙ ap (λ q. is_in q (home_positions items c)) whole

-- ---- no other page has these bits

byte_small : (t : ℕ → Bool) → byte_of t < 256
byte_small t =
    let sum = byte_sum t in
    let b0 = small (t 0) in
    let b1 = small (t 1) in
    let b2 = small (t 2) in
    let b3 = small (t 3) in
    let b4 = small (t 4) in
    let b5 = small (t 5) in
    let b6 = small (t 6) in
    let b7 = small (t 7) in
    omega arith

rows_length : (f : ℕ → List ℕ) (a n : ℕ) → ((c : ℕ) → length (f c) ≡ 64) → length (flat_map f (range_with_len a n)) ≡ 64 * n
rows_length f a zero len = refl
rows_length f a (suc n) len =
    let here = len a in
    let rest = rows_length f (a + 1) n len in
    length-append (f a) (flat_map f (range_with_len (a + 1) n)) ∙ (let all : length (f a) + length (flat_map f (range_with_len (a + 1) n)) ≡ 64 * suc n = omega arith in all)

pub length-filter_block : (items : List Item) → length (filter_block items) ≡ 4096
unfolding filter_block
length-filter_block items = rows_length (λ c. filter_of (home_positions items c)) 0 64 (λ c. length-filter_of (home_positions items c))

block_byte : (items : List Item) (i : ℕ) → i < 4096 → get_or (filter_block items) i 0 ≡ byte_of (λ k. is_in (8 * (i % 64) + k) (home_positions items (i / 64)))
unfolding filter_block
block_byte items i below =
    let split : i ≡ 64 * (i / 64) + i % 64 = omega arith in
    let same : 0 + i / 64 ≡ i / 64 = omega arith in
    ap (λ k. get_or (filter_block items) k 0) split
    ∙ row_at (λ c. filter_of (home_positions items c)) 0 64 (i / 64) (i % 64) (λ c. length-filter_of (home_positions items c)) (omega arith) (omega arith)
    ∙ ap (λ k. get_or (filter_of (home_positions items k)) (i % 64) 0) same
    ∙ byte_in (home_positions items (i / 64)) (i % 64) (omega arith)

bit_is : (m n : ℕ) → m < 2 → n < 2 → (m == 1) ≡ (n == 1) → m ≡ n
bit_is zero zero p q h = refl
bit_is zero (suc zero) p q h = cc
bit_is (suc zero) zero p q h = cc
bit_is (suc zero) (suc zero) p q h = refl
bit_is (suc (suc m)) n p q h = absurd (omega arith)
bit_is zero (suc (suc n)) p q h = absurd (omega arith)
bit_is (suc zero) (suc (suc n)) p q h = absurd (omega arith)

page_byte : (items : List Item) (page : List ℕ) → IsBlock page → HasFilters items page → (i : ℕ) → i < 4096 → get_or page i 0 ≡ get_or (filter_block items) i 0
page_byte items page block has i below =
    same_byte ∙ sym (block_byte items i below)
  where
    bit : (j : ℕ) → j < 8 → bit_at (get_or page i 0) j ≡ bit_at (byte_of (λ k. is_in (8 * (i % 64) + k) (home_positions items (i / 64)))) j
    bit j low =
        let t = λ (k : ℕ). is_in (8 * (i % 64) + k) (home_positions items (i / 64)) in
        let k : ℕ = 7 - j in
        let back : j ≡ 7 - k = omega arith in
        let place : 8 * (i % 64) + k < 512 = omega arith in
        let at : (512 * (i / 64) + (8 * (i % 64) + k)) / 8 ≡ i = omega arith in
        let in_byte : 7 - (512 * (i / 64) + (8 * (i % 64) + k)) % 8 ≡ j = omega arith in
        let set : (bit_at (get_or page i 0) j == 1) ≡ t k = sym (ap (λ n. bit_at (get_or page n 0) (7 - (512 * (i / 64) + (8 * (i % 64) + k)) % 8) == 1) at ∙ ap (λ n. bit_at (get_or page i 0) n == 1) in_byte) ∙ has.bits (i / 64) (8 * (i % 64) + k) (omega arith) place in
        let of_byte : (bit_at (byte_of t) j == 1) ≡ t k = ap (λ n. bit_at (byte_of t) n == 1) back ∙ bit_at-byte_of t k (omega arith) in
        bit_is (bit_at (get_or page i 0) j) (bit_at (byte_of t) j) (bit_at-lt (get_or page i 0) j) (bit_at-lt (byte_of t) j) (set ∙ sym of_byte)

    same_byte : get_or page i 0 ≡ byte_of (λ k. is_in (8 * (i % 64) + k) (home_positions items (i / 64)))
    same_byte = same_from_bits_below 8 (get_or page i 0) (byte_of (λ k. is_in (8 * (i % 64) + k) (home_positions items (i / 64)))) (block.bytes i 0 (let len = block.len in omega arith)) (byte_small (λ k. is_in (8 * (i % 64) + k) (home_positions items (i / 64)))) bit

pub HasFilters-block : (items : List Item) (page : List ℕ) → IsBlock page → HasFilters items page → page ≡ filter_block items
HasFilters-block items page block has =
    let len = block.len in
    let long = length-filter_block items in
    ext_get_or 0 page (filter_block items) (omega arith) (λ i below. page_byte items page block has i (omega arith))

-- ---- filters item by item

pub HasFilters-nil : HasFilters [] zero_block
unfolding zeros
HasFilters-nil = record {
  len = length-replicate {A = ℕ} 4096 0;
  bits = λ c p column place. ap (λ byte. bit_at byte (7 - (512 * c + p) % 8) == 1) (get_or-replicate {A = ℕ} 4096 ((512 * c + p) / 8) 0 0 (omega arith)) ∙ ap (λ n. n == 1) (bit_at-zero (7 - (512 * c + p) % 8));
}

positions_more : (items : List Item) (item : Item) (c p : ℕ) → is_in p (home_positions (items ++ item ∷ []) c) ≡ (is_in p (home_positions items c) || (home_column item.key == c && is_in p (key_positions item.key)))
positions_more items item c p =
    ap (λ xs. is_in p (flat_map (λ (item : Item). key_positions item.key) xs)) (filter-append (λ (item : Item). home_column item.key == c) items (item ∷ []))
    ∙ ap (is_in p) (flat_map-append (λ (item : Item). key_positions item.key) (filter (λ (item : Item). home_column item.key == c) items) (cond (home_column item.key == c) (item ∷ []) []))
    ∙ in_append p (home_positions items c) (flat_map (λ (item : Item). key_positions item.key) (cond (home_column item.key == c) (item ∷ []) []))
    ∙ ap (λ b. is_in p (home_positions items c) || b) (own (home_column item.key == c))
  where
    own : (b : Bool) → is_in p (flat_map (λ (item : Item). key_positions item.key) (cond b (item ∷ []) [])) ≡ (b && is_in p (key_positions item.key))
    own true = in_append p (key_positions item.key) [] ∙ or-false (is_in p (key_positions item.key))
    own false = refl

or_by : (own was : Bool) → cond own true was ≡ (was || own)
or_by true true = refl
or_by true false = refl
or_by false true = refl
or_by false false = refl

pub eqb_sym : (m n : ℕ) → (m == n) ≡ (n == m)
eqb_sym m n = ⊎_elim (λ (same : m ≡ n). eq-eqb m n same ∙ sym (eq-eqb n m (sym same))) (λ (other : m ≡ n → ⊥). ne_eqb m n other ∙ sym (ne_eqb n m (λ back. other (sym back)))) (cases_eq m n)

pub HasFilters-more : (items : List Item) (item : Item) (old new : List ℕ) → HasFilters items old → AddsPositions old new (home_column item.key) (key_positions item.key) → HasFilters (items ++ item ∷ []) new
HasFilters-more items item old new has adds = record {
  len = adds.len ∙ has.len;
  bits = λ c p column place.
      let filter_is : (512 * c + p) / 512 ≡ c = omega arith in
      let place_is : (512 * c + p) % 512 ≡ p = omega arith in
      let len = has.len in
      adds.bits (512 * c + p) (omega arith)
      ∙ ap (λ n. cond (n == home_column item.key && is_in ((512 * c + p) % 512) (key_positions item.key)) true (is_set old (512 * c + p))) filter_is
      ∙ ap (λ n. cond (c == home_column item.key && is_in n (key_positions item.key)) true (is_set old (512 * c + p))) place_is
      ∙ ap (λ b. cond (b && is_in p (key_positions item.key)) true (is_set old (512 * c + p))) (eqb_sym c (home_column item.key))
      ∙ ap (λ b. cond (home_column item.key == c && is_in p (key_positions item.key)) true b) (has.bits c p column place)
      ∙ or_by (home_column item.key == c && is_in p (key_positions item.key)) (is_in p (home_positions items c))
      ∙ sym (positions_more items item c p);
}
