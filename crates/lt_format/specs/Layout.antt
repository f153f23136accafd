-- Which block holds what, the superblock, the selector and the gates.
use Rattle.std.specs.Prelude.{ℕ, zero, suc, ◌+◌, ◌*◌, ◌%◌, Bool, ◌&&◌, List, [], ◌∷◌, ◌++◌, take, drop, Option}
use Rattle.std.specs.Prelude.{Some, None, Result, Ok, Err, nat_le, ◌==◌, if◌then◌else◌, slice_index, codes}
use Rattle.lt_terms.specs.Bytes.{Image, block_at, u16, u16_at, block_of, all_zero, same_bytes}
use Rattle.lt_format.specs.declared.geometry.Geometry.{Geometry}

-- 2 to 5 levels, 1 to 512 slots
abbrev pub is_geometry : Geometry → Bool
is_geometry g = nat_le 2 g.levels && nat_le g.levels 5 && nat_le 1 g.slots && nat_le g.slots 512

-- the block of the selector
abbrev pub selector_block : ℕ
selector_block = 1

-- the first block of a manifest area
abbrev pub area_block : ℕ → ℕ
area_block a = 2 + 433 * a

-- how many blocks of a manifest area a snapshot may take
abbrev pub snapshot_blocks : ℕ
snapshot_blocks = 305

-- the gate of edit slot i of area a; its content is the next block
abbrev pub edit_gate : ℕ → ℕ → ℕ
edit_gate a i = area_block a + snapshot_blocks + 2 * i

-- how many edit slots a manifest area has
abbrev pub edit_slots : ℕ
edit_slots = 64

-- the gate of log slot i of log area b
abbrev pub log_gate : Geometry → ℕ → ℕ → ℕ
log_gate g b i = 868 + 2 * g.slots * b + 2 * i

-- the block of its content
abbrev pub log_content : Geometry → ℕ → ℕ → ℕ
log_content g b i = log_gate g b i + 1

-- the first block of extent x
abbrev pub extent_block : Geometry → ℕ → ℕ
extent_block g x = 868 + 4 * g.slots + 65 * x

-- how many blocks an extent has
abbrev pub extent_blocks : ℕ
extent_blocks = 65

-- how many blocks a store with this many extents needs
abbrev pub blocks_needed : Geometry → ℕ → ℕ
blocks_needed g extents = extent_block g extents

-- `LSMTRIE1`, the levels, the slots, and zeros
abbrev pub superblock : Geometry → List ℕ
superblock g = block_of (codes "LSMTRIE1" ++ g.levels ∷ [] ++ u16 g.slots)

-- the geometry whose superblock this is
unfoldable pub geometry_of : List ℕ → Option Geometry
geometry_of block =
    let g : Geometry = record { levels = slice_index block 8; slots = u16_at block 9 } in
    if same_bytes (take 8 block) (codes "LSMTRIE1") && is_geometry g && all_zero (drop 11 block) then Some g else None

-- the manifest area that is current: the lowest bit of the selector's first byte
abbrev pub selected : List ℕ → ℕ
selected block = slice_index block 0 % 2

-- a gate is open where its first byte is 1
abbrev pub is_open : List ℕ → Bool
is_open block = slice_index block 0 == 1

-- the page that is written as a gate: 1 or 0, and zeros
abbrev pub gate_page : Bool → List ℕ
gate_page opened = block_of ((if opened then 1 else 0) ∷ [])

-- the first open gate of n slots from slot i on, where this function gives the gates
unfoldable pub first_open : Image → (ℕ → ℕ) → ℕ → ℕ → Option ℕ
first_open image gate i zero = None
first_open image gate i (suc n) =
    if is_open (block_at image (gate i)) then Some (gate i) else first_open image gate (i + 1) n

-- what was read up to a closed gate, if no gate behind it is open; else the first that is
abbrev pub closed_from : {A : Type 0} → Option ℕ → A → Result A ℕ
closed_from None read = Ok read
closed_from (Some gate) read = Err gate
