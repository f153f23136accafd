-- The log in a log area: groups of items, up to the first closed gate.
use Rattle.std.specs.Prelude.{ℕ, zero, suc, ◌+◌, ◌^◌, Bool, ◌&&◌, List, [], ◌∷◌, ◌++◌, length, drop, Option, Some}
use Rattle.std.specs.Prelude.{None, Result, Ok, Err, nat_le, nat_lt, if◌then◌else◌, slice_range}
use Rattle.std.specs.List.{flat_map}
use Rattle.lt_terms.specs.Bytes.{Image, block_at, block_of, u16, u16_at, all_zero}
use Rattle.lt_terms.specs.Items.{Item, total_cost, spellings, items_of}
use Rattle.lt_format.specs.declared.geometry.Geometry.{Geometry}
use Rattle.lt_format.specs.Layout.{is_open, log_gate, log_content, first_open, closed_from}

-- what the items of a group cost at most
abbrev pub group_room : ℕ
group_room = 4092

-- what the items of a whole log cost at most
abbrev pub log_room : ℕ
log_room = 204092

-- the content block of a group: how many items, what they cost, the items, and zeros
abbrev pub group_page : List Item → List ℕ
group_page items = block_of (u16 (length items) ++ u16 (total_cost items) ++ spellings items)

-- the group that a content block spells: at least one item
unfoldable pub group_on : List ℕ → Option (List Item)
group_on block =
    let used = u16_at block 2 in
    if nat_le 1 (u16_at block 0) && nat_le used group_room && all_zero (drop (4 + used) block)
    then items_of (u16_at block 0) (slice_range block 4 (4 + used)) else None

-- all items of the groups
abbrev pub items_in : List (List Item) → List Item
items_in groups = flat_map (λ items. items) groups

-- the log stays within its room, and the number of writes within 64 bits; `writes` is the manifest's number
abbrev pub log_fits : ℕ → List Item → Bool
log_fits writes items = nat_le (total_cost items) log_room && nat_lt (writes + length items) (2 ^ 64)

-- the groups with one more, if it is spelled and fits
abbrev pub with_group : ℕ → List (List Item) → Option (List Item) → Option (List (List Item))
with_group writes groups None = None
with_group writes groups (Some items) =
    let more = groups ++ items ∷ [] in if log_fits writes (items_in more) then Some more else None

-- what is read with these groups, or the block that is damaged where there are none
abbrev pub read_with : {A : Type 0} → Option (List (List Item)) → ℕ → (List (List Item) → Result A ℕ) → Result A ℕ
read_with None block rest = Err block
read_with (Some groups) block rest = rest groups

-- the groups read so far and those of n slots of a log area from slot i on, or the first damaged block
unfoldable pub log_from : Geometry → Image → ℕ → ℕ → ℕ → ℕ → List (List Item) → Result (List (List Item)) ℕ
log_from g image b writes i zero groups = Ok groups
log_from g image b writes i (suc n) groups =
    if is_open (block_at image (log_gate g b i))
    then read_with (with_group writes groups (group_on (block_at image (log_content g b i)))) (log_content g b i)
    (λ more. log_from g image b writes (i + 1) n more)
    else closed_from (first_open image (log_gate g b) (i + 1) n) groups

-- the groups of the open gates of a log area, or the first damaged block
abbrev pub log_groups : Geometry → Image → ℕ → ℕ → Result (List (List Item)) ℕ
log_groups g image b writes = log_from g image b writes 0 g.slots []
