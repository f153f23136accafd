-- Buckets and the page that spells one, and what a look-up of a key answers.
use Rattle.std.specs.Prelude.{ℕ, ◌+◌, Bool, true, ◌&&◌, List, [], ◌∷◌, ◌++◌, length, drop, Option, Some, None}
use Rattle.std.specs.Prelude.{nat_lt, nat_le, ◌==◌, if◌then◌else◌, slice_index, slice_range}
use Rattle.std.specs.Option.{option_and_then, option_map, option_map_or}
use Rattle.std.specs.List.{find, list_all}
use Rattle.lt_terms.specs.Bytes.{u16, u32, u16_at, u32_at, zeros, block_of, all_zero, same_bytes}
use Rattle.lt_terms.specs.Items.{Item, total_cost, spellings, items_of, is_valid}
use Rattle.lt_terms.specs.Hashes.{key_suffix}
use Rattle.lt_tables.specs.declared.Sends.{Sends}

-- the items of a bucket in their order, and where it sends others
pub record Bucket : Type 0 where
  pub sends : Option Sends
  pub items : List Item

-- what the items of a bucket cost at most
abbrev pub capacity : ℕ
capacity = 4080

-- a bucket of valid items that fit, whose target is a column
abbrev pub fits_bucket : Bucket → Bool
fits_bucket b =
    list_all is_valid b.items && nat_le (total_cost b.items) capacity
    && option_map_or (λ (s : Sends). nat_lt s.target 64 && nat_lt s.mark 4294967296) b.sends true

-- bytes 4 to 9: whether it sends, the target and the mark
abbrev pub sends_bytes : Option Sends → List ℕ
sends_bytes None = zeros 6
sends_bytes (Some s) = (1 ∷ s.target ∷ []) ++ u32 s.mark

-- the page that spells a bucket in format 1
abbrev pub bucket_page_1 : Bucket → List ℕ
bucket_page_1 b =
    block_of (u16 (length b.items) ++ u16 (total_cost b.items) ++ sends_bytes b.sends ++ (1 ∷ zeros 5)
    ++ spellings b.items)

-- where the bytes 4 to 9 of a page send; nothing where they are not so spelled
abbrev pub sends_of : ℕ → ℕ → ℕ → Option (Option Sends)
sends_of flag target mark =
    if flag == 0 && target == 0 && mark == 0 then Some None
    else if flag == 1 && nat_lt target 64 then Some (Some (record { target = target; mark = mark }))
    else None

-- the bucket that a page spells in format 1
unfoldable pub bucket_of_page_1 : List ℕ → Option Bucket
bucket_of_page_1 page =
    let used = u16_at page 2 in
    if nat_le used capacity && slice_index page 10 == 1 && all_zero (slice_range page 11 16)
    && all_zero (drop (16 + used) page)
    then option_and_then (λ sends. option_map (λ items. record { sends = sends; items = items })
    (items_of (u16_at page 0) (slice_range page 16 (16 + used))))
    (sends_of (slice_index page 4) (slice_index page 5) (u32_at page 6))
    else None

-- what a look-up of a key in a bucket answers: the item, the column where it may be, or neither
pub data Look : Type 0 where
  here : Item → Look
  moved : ℕ → Look
  absent : Look

-- where a key of this suffix is sent
abbrev pub sent_to : Option Sends → ℕ → Look
sent_to None suffix = absent
sent_to (Some s) suffix = if nat_le s.mark suffix then moved s.target else absent

-- what was found in the bucket; else this answer
abbrev pub look_of : Option Item → Look → Look
look_of (Some item) other = here item
look_of None other = other

-- the first item of the key; else the target, where the bucket sends and the mark is at most the key's suffix
abbrev pub look_in_1 : List ℕ → Bucket → Look
look_in_1 key b = look_of (find (λ item. same_bytes item.key key) b.items) (sent_to b.sends (key_suffix key))

-- Below is what the layers above ask of a page. A second format joins here, beside the first: it changes these four
-- lines, and nothing above them.

-- the bucket that a page spells
abbrev pub bucket_of : List ℕ → Option Bucket
bucket_of page = bucket_of_page_1 page

-- what a look-up of a key answers; nothing where the page spells no bucket
abbrev pub look_on : List ℕ → List ℕ → Option Look
look_on page key = option_map (look_in_1 key) (bucket_of_page_1 page)

-- the items of the page; none where it spells no bucket
abbrev pub items_on : List ℕ → List Item
items_on page = option_map_or (λ (b : Bucket). b.items) (bucket_of page) []

-- where the page sends; nothing where it spells no bucket, or one that does not send
abbrev pub sends_on : List ℕ → Option Sends
sends_on page = option_and_then (λ (b : Bucket). b.sends) (bucket_of page)
