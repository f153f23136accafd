-- The filters in a group's blocks are those of its tables.
use Rattle.std.proofs.Common.{◌≡◌, ℕ, zero, suc, ◌+◌, ◌-◌, ◌*◌, ◌/◌, ◌%◌, ◌<◌, refl, sym, ap, ◌∙◌, List, [], ◌∷◌, ◌++◌, length, drop, ◌&&◌, arith, get_or}
use Rattle.std.specs.Prelude.{◌==◌}
use Rattle.std.specs.Int.{bit_at}
use Rattle.std.specs.List.{flat_map, AllByRecursion}
use Rattle.std.proofs.lemmas.List.{get_or_append_left, get_or-append-add, get_or-take, get_or-drop, length-append, length-take-le, length-drop}
use Rattle.lt_terms.specs.Bytes.{zeros}
use Rattle.lt_terms.specs.Hashes.{key_positions}
use Rattle.lt_tables.proofs.HashLaws.{positions-small}
use Rattle.lt_tables.specs.Filter.{is_set_in, covers, covers_positions, filter_in, group_block}

-- pages of 4,096 bytes
abbrev pub ArePages : List (List ℕ) → Type 0
ArePages pages = AllByRecursion (λ (page : List ℕ). length page ≡ 4096) pages

filter_len : (page : List ℕ) (c : ℕ) → length page ≡ 4096 → c < 64 → length (filter_in page c) ≡ 64
filter_len page c len small =
    let rest : length (drop (64 * c) page) ≡ length page - 64 * c = length-drop (64 * c) page in
    let span : 64 * c + 64 - 64 * c ≡ 64 = omega arith in
    length-take-le (64 * c + 64 - 64 * c) (drop (64 * c) page) (omega arith) ∙ span

filter_at : (page : List ℕ) (c k : ℕ) → k < 64 → get_or (filter_in page c) k 0 ≡ get_or page (64 * c + k) 0
filter_at page c k small = get_or-take (64 * c + 64 - 64 * c) (drop (64 * c) page) k 0 (omega arith) ∙ get_or-drop (64 * c) page k 0

joined_len : (pages : List (List ℕ)) (c : ℕ) → ArePages pages → c < 64 → length (flat_map (λ page. filter_in page c) pages) ≡ 64 * length pages
joined_len [] c all small = refl
joined_len (p ∷ pages) c all small =
    let here = filter_len p c all.0 small in
    let rest = joined_len pages c all.1 small in
    let both = length-append (filter_in p c) (flat_map (λ page. filter_in page c) pages) in
    omega (arith, here, rest, both)

joined_at : (pages : List (List ℕ)) (c i k : ℕ) → ArePages pages → c < 64 → k < 64 → i < length pages → get_or (flat_map (λ page. filter_in page c) pages) (64 * i + k) 0 ≡ get_or (get_or pages i []) (64 * c + k) 0
joined_at [] c i k all small inside within = absurd (omega arith)
joined_at (p ∷ pages) c zero k all small inside within =
    let len = filter_len p c all.0 small in
    let start : 64 * 0 + k ≡ k = omega arith in
    ap (λ n. get_or (filter_in p c ++ flat_map (λ page. filter_in page c) pages) n 0) start
    ∙ get_or_append_left (filter_in p c) (flat_map (λ page. filter_in page c) pages) 0 k (omega (arith, len)) ∙ filter_at p c k inside
joined_at (p ∷ pages) c (suc i) k all small inside within =
    let len = filter_len p c all.0 small in
    let place : 64 * suc i + k ≡ length (filter_in p c) + (64 * i + k) = omega (arith, len) in
    ap (λ n. get_or (filter_in p c ++ flat_map (λ page. filter_in page c) pages) n 0) place
    ∙ get_or-append-add (filter_in p c) (flat_map (λ page. filter_in page c) pages) (64 * i + k) 0
    ∙ joined_at pages c i k all.1 small inside (omega arith)

group_at : (pages : List (List ℕ)) (c i k : ℕ) → ArePages pages → c < 64 → k < 64 → i < length pages → get_or (group_block pages c) (64 * i + k) 0 ≡ get_or (get_or pages i []) (64 * c + k) 0
group_at pages c i k all small inside within =
    let len = joined_len pages c all small in
    get_or_append_left (flat_map (λ page. filter_in page c) pages) (zeros (4096 - length (flat_map (λ page. filter_in page c) pages))) 0 (64 * i + k) (omega (arith, len))
    ∙ joined_at pages c i k all small inside within

bit_same : (pages : List (List ℕ)) (c i p : ℕ) → ArePages pages → c < 64 → i < length pages → p < 512 → is_set_in (group_block pages c) i p ≡ is_set_in (get_or pages i []) c p
bit_same pages c i p all small within below =
    let byte_here : (512 * i + p) / 8 ≡ 64 * i + p / 8 = omega arith in
    let bit_here : (512 * i + p) % 8 ≡ p % 8 = omega arith in
    let byte_there : (512 * c + p) / 8 ≡ 64 * c + p / 8 = omega arith in
    let bit_there : (512 * c + p) % 8 ≡ p % 8 = omega arith in
    let same : get_or (group_block pages c) (64 * i + p / 8) 0 ≡ get_or (get_or pages i []) (64 * c + p / 8) 0 = group_at pages c i (p / 8) all small (omega arith) within in
    (λ j. bit_at (get_or (group_block pages c) (byte_here j) 0) (7 - bit_here j) == 1)
    ∙ ap (λ b. bit_at b (7 - p % 8) == 1) same
    ∙ sym (λ j. bit_at (get_or (get_or pages i []) (byte_there j) 0) (7 - bit_there j) == 1)

bits_same : (pages : List (List ℕ)) (c i : ℕ) (ps : List ℕ) → ArePages pages → c < 64 → i < length pages → AllByRecursion (λ p. p < 512) ps → covers_positions (group_block pages c) i ps ≡ covers_positions (get_or pages i []) c ps
bits_same pages c i [] all small within below = refl
bits_same pages c i (p ∷ ps) all small within below = λ j. bit_same pages c i p all small within below.0 j && bits_same pages c i ps all small within below.1 j

-- THE FILTER in a group's block answers as the table's own
pub groups-cover : (pages : List (List ℕ)) (c i : ℕ) (key : List ℕ) → ArePages pages → c < 64 → i < length pages → covers (group_block pages c) i key ≡ covers (get_or pages i []) c key
groups-cover pages c i key all small within = bits_same pages c i (key_positions key) all small within (positions-small key)
