-- How a page is read.
use Rattle.std.specs.Prelude.{◌≡◌, ℕ, ◌+◌, ◌&&◌, List, [], Option, Some, None, nat_le, ◌==◌, if◌then◌else◌}
use Rattle.std.specs.Prelude.{unwrap_or, slice_index, slice_range, drop}
use Rattle.lt_terms.specs.Bytes.{u16_at, all_zero}
use Rattle.lt_terms.specs.Items.{Item, items_of}
use Rattle.lt_tables.specs.declared.Sends.{Sends}
use Rattle.lt_tables.specs.Bucket.{bucket_of, capacity}

-- the items that fill the bytes, if they do
abbrev pub items_in : ℕ → List ℕ → List Item
items_in count bytes = unwrap_or (items_of count bytes) []

-- the bytes of a page where its items stand, if the bytes about them are as they must be
abbrev pub items_area : List ℕ → Option (List ℕ)
items_area page =
    let used = u16_at page 2 in
    if nat_le used capacity && slice_index page 10 == 1 && all_zero (slice_range page 11 16)
    && all_zero (drop (16 + used) page)
    then Some (slice_range page 16 (16 + used))
    else None

-- the page spells the bucket with these
abbrev pub SpellsBucket : List ℕ → Option Sends → List Item → Type 0
SpellsBucket page sends items = bucket_of page ≡ Some (record { sends = sends; items = items })
