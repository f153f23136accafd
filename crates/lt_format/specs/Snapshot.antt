-- The snapshot in a manifest area: its spelling, and reading it with the first field that does not stand.
-- An area is read as a function from offsets to bytes, since its fields run across blocks and most of its 305
-- blocks are not looked at.
-- The manifest that an image names, and what a commit makes of it.
use Rattle.std.specs.Prelude.{◌≡◌, ℕ, zero, suc, ◌+◌, ◌-◌, ◌*◌, ◌/◌, ◌%◌, ◌^◌, ◌<◌, Bool, true, not, ◌&&◌, List, []}
use Rattle.std.specs.Prelude.{◌∷◌, ◌++◌, length, map, Option, Some, None, Result, Ok, Err, nat_le, nat_lt, ◌==◌}
use Rattle.std.specs.Prelude.{if◌then◌else◌, slice_index, slice_range, IsTrue, ◌≤◌}
use Rattle.std.specs.Int.{Width, w8, w16, w32, w64, byte_len, from_be_bytes}
use Rattle.std.specs.List.{flat_map, range_with_len}
use Rattle.std.specs.Ordering.{is_lt}
use Rattle.lt_terms.specs.Bytes.{Image, block_at, block_len, block_of, u16, u32, u64, zeros, is_in}
use Rattle.lt_format.specs.declared.node_id.NodeId.{NodeId}
use Rattle.lt_format.specs.declared.geometry.Geometry.{Geometry}
use Rattle.lt_format.specs.declared.header.Header.{Header}
use Rattle.lt_format.specs.Layout.{area_block, blocks_needed, geometry_of, selected, selector_block}
use Rattle.lt_format.specs.Trie.{Node, Trie, node_cmp, node_extents, groups_for, IsTrie, all_below}
use Rattle.lt_format.specs.Changes.{Change, flush, deal, rewrite, new_extents, fits, after_change}

-- a trie and what a manifest says beside it
pub record Manifest : Type 0 where
  pub header : Header
  pub trie : Trie

-- numbers in four bytes each
abbrev pub numbers : List ℕ → List ℕ
numbers ns = flat_map u32 ns

-- the entry of a node
abbrev pub node_bytes : NodeId × Node → List ℕ
node_bytes (id, n) =
    id.level ∷ [] ++ u16 id.number ++ u32 n.base ++ u32 (length n.tables) ++ u32 (length n.groups)
    ++ numbers n.tables ++ numbers n.groups

-- the entries of a trie's nodes
abbrev pub nodes_bytes : Trie → List ℕ
nodes_bytes trie = flat_map node_bytes trie

-- the bytes of a snapshot: a header of 40 bytes and the nodes
abbrev pub snapshot_bytes : Manifest → List ℕ
snapshot_bytes m =
    (1 ∷ m.header.log_area ∷ 0 ∷ 0 ∷ []) ++ u32 m.header.extents ++ u64 m.header.writes ++ u32 (length m.trie)
    ++ u32 (40 + length (nodes_bytes m.trie)) ++ zeros 16 ++ nodes_bytes m.trie

-- block k of the area that a writer leaves: the bytes of the snapshot there, and zeros
abbrev pub snapshot_page : Manifest → ℕ → List ℕ
snapshot_page m k = block_of (slice_range (snapshot_bytes m) (block_len * k) (block_len * (k + 1)))

-- how many blocks the writer writes
abbrev pub pages_of : Manifest → ℕ
pages_of m = (length (snapshot_bytes m) + (block_len - 1)) / block_len

-- what is read next, with what was read; the first error stays
infixl 10 ◌>>=◌
abbrev pub ◌>>=◌ : {A B : Type 0} → Result A ℕ → (A → Result B ℕ) → Result B ℕ
(Ok x) >>= f = f x
(Err e) >>= f = Err e

-- the number in the bytes from an offset on
abbrev pub number_in : Width → (ℕ → ℕ) → ℕ → ℕ
number_in w bytes at = from_be_bytes w (map (λ i. bytes (at + i)) (range_with_len 0 (byte_len w)))

-- What reading answers is a value and the offset after it, or the offset of the first field that does not stand. A
-- field stands where it ends at the limit or before, and passes its test.
abbrev pub field : (ℕ → ℕ) → ℕ → Width → (ℕ → Bool) → ℕ → Result (ℕ × ℕ) ℕ
field bytes limit w stands at =
    let n = number_in w bytes at in
    if nat_le (at + byte_len w) limit && stands n then Ok (n, at + byte_len w) else Err at

-- extent numbers, each below the number of extents and not named before
unfoldable pub extents_at : (ℕ → ℕ) → ℕ → ℕ → ℕ → List ℕ → ℕ → Result (List ℕ × ℕ) ℕ
extents_at bytes limit extents zero before at = Ok ([], at)
extents_at bytes limit extents (suc n) before at = do
  x ← field bytes limit w32 (λ x. nat_lt x extents && not (is_in x before)) at
  rest ← extents_at bytes limit extents n (x.0 ∷ before) x.1
  Ok (x.0 ∷ rest.0, rest.1)

-- the node comes after the one before it, if there is one
abbrev pub follows : Option NodeId → NodeId → Bool
follows None id = true
follows (Some before) id = is_lt (node_cmp before id)

-- a node of a trie with these levels, after this one, where these extents were named before
unfoldable pub node_read : (ℕ → ℕ) → ℕ → ℕ → ℕ → Option NodeId → List ℕ → ℕ → Result ((NodeId × Node) × ℕ) ℕ
node_read bytes limit levels extents last_id before at = do
  level ← field bytes limit w8 (λ l. nat_lt l levels) at
  number ← field bytes limit w16 (λ n. nat_lt n (8 ^ level.0)
      && follows last_id (record { level = level.0; number = n })) level.1
  base ← field bytes limit w32 (λ m. nat_le m (if level.0 + 1 == levels then extents else 0)) number.1
  tables_len ← field bytes limit w32 (λ t. nat_le 1 t && nat_le t extents) base.1
  groups_len ← field bytes limit w32 (λ g. g ==
      (if level.0 + 1 == levels then groups_for tables_len.0 else 0)) tables_len.1
  tables ← extents_at bytes limit extents tables_len.0 before groups_len.1
  groups ← extents_at bytes limit extents groups_len.0 (tables.0 ++ before) tables.1
  Ok (
    (
      record { level = level.0; number = number.0 },
      record { base = base.0; tables = tables.0; groups = groups.0 },
    ),
    groups.1,
  )

-- the name of a node
abbrev pub id_of : NodeId × Node → NodeId
id_of e = e.0

-- the extents that a node names
abbrev pub extents_of : NodeId × Node → List ℕ
extents_of e = node_extents e.1

-- a trie read as so many nodes, one after another, or the place of the first field that does not stand
unfoldable pub nodes_read : (ℕ → ℕ) → ℕ → ℕ → ℕ → ℕ → Option NodeId → List ℕ → ℕ → Result (Trie × ℕ) ℕ
nodes_read bytes limit levels extents zero last_id before at = Ok ([], at)
nodes_read bytes limit levels extents (suc n) last_id before at = do
  node ← node_read bytes limit levels extents last_id before at
  rest ← nodes_read bytes limit levels extents n (Some (id_of node.0)) (extents_of node.0 ++ before) node.1
  Ok (node.0 ∷ rest.0, rest.1)

-- what the header says: the manifest's header, how many nodes follow, and the length of the whole
pub record Front : Type 0 where
  pub header : Header
  pub nodes : ℕ
  pub total : ℕ

-- any number stands
abbrev pub always : ℕ → Bool
always n = true

-- only 0 stands
abbrev pub is_zero : ℕ → Bool
is_zero n = n == 0

-- a number of extents that a device with this many blocks has room for
abbrev pub extents_stand : Geometry → ℕ → ℕ → Bool
extents_stand g blocks e = nat_le 1 e && nat_le e 65536 && nat_le (blocks_needed g e) blocks

-- the header, on a device of this many blocks
unfoldable pub front_read : Geometry → ℕ → (ℕ → ℕ) → Result Front ℕ
front_read g blocks bytes = do
  format ← field bytes 40 w8 (λ n. n == 1) 0
  area ← field bytes 40 w8 (λ n. nat_le n 1) 1
  gap ← field bytes 40 w16 is_zero 2
  extents ← field bytes 40 w32 (extents_stand g blocks) 4
  writes ← field bytes 40 w64 always 8
  nodes ← field bytes 40 w32 (λ n. nat_le n extents.0) 16
  total ← field bytes 40 w32 (λ n. nat_le 40 n && nat_le n (40 + 19 * extents.0)) 20
  gap_high ← field bytes 40 w64 is_zero 24
  gap_low ← field bytes 40 w64 is_zero 32
  Ok (record {
    header = record { log_area = area.0; extents = extents.0; writes = writes.0 };
    nodes = nodes.0;
    total = total.0;
  })

-- the offset of the field that gives the length
abbrev pub total_offset : ℕ
total_offset = 20

-- the manifest that the bytes of an area spell
unfoldable pub snapshot_read : Geometry → ℕ → (ℕ → ℕ) → Result Manifest ℕ
snapshot_read g blocks bytes = do
  front ← front_read g blocks bytes
  nodes ← nodes_read bytes front.total g.levels front.header.extents front.nodes None [] 40
  if nodes.1 == front.total then Ok (record { header = front.header; trie = nodes.0 }) else Err total_offset

-- what a manifest of a store is, on a device of this many blocks
pub record IsManifest (g : Geometry) (blocks : ℕ) (m : Manifest) : Type 0 where
  pub area : m.header.log_area < 2
  pub extents : IsTrue (extents_stand g blocks m.header.extents)
  pub writes : m.header.writes < 2 ^ 64
  pub trie : IsTrie g.levels m.header.extents m.trie

-- byte n of a manifest area of an image
abbrev pub area_byte : Image → ℕ → ℕ → ℕ
area_byte image a n = slice_index (block_at image (area_block a + n / block_len)) (n % block_len)

-- an offset in the area as the block that holds it
abbrev pub as_block : {A : Type 0} → ℕ → Result A ℕ → Result A ℕ
as_block a (Ok x) = Ok x
as_block a (Err offset) = Err (area_block a + offset / block_len)

-- the manifest that the snapshot of an area of an image spells, or the first damaged block
abbrev pub snapshot_in : Geometry → Image → ℕ → Result Manifest ℕ
snapshot_in g image a = as_block a (snapshot_read g (length image) (area_byte image a))

-- the geometry, the manifest area that is current, and the manifest
pub record Named : Type 0 where
  pub geometry : Geometry
  pub area : ℕ
  pub manifest : Manifest

-- a geometry whose fixed regions the device has room for; where there is none block 0 is damaged
abbrev pub roomy : ℕ → Option Geometry → Result Geometry ℕ
roomy blocks None = Err 0
roomy blocks (Some g) = if nat_le (blocks_needed g 0) blocks then Ok g else Err 0

-- the geometry of an image, or the damage of its superblock
unfoldable pub geometry_in : Image → Result Geometry ℕ
geometry_in image = roomy (length image) (geometry_of (block_at image 0))

-- the manifest of the area that is current, or the first damaged block
unfoldable pub manifest_in : Geometry → Image → Result Named ℕ
manifest_in g image = do
  manifest ← snapshot_in g image (selected (block_at image selector_block))
  Ok (record { geometry = g; area = selected (block_at image selector_block); manifest = manifest })

-- the superblock and the manifest of the area that is current, or the first damaged block
unfoldable pub manifest_of : Image → Result Named ℕ
manifest_of image = do
  g ← geometry_in image
  manifest_in g image

-- the block is the selector or one of the two manifest areas
abbrev pub InManifest : ℕ → Type 0
InManifest n = (1 ≤ n) × (n < 868)

-- the log area and the writes after a change: a flush goes to the other area, and everything else leaves both
abbrev pub log_moves : Change → Header → Header → Bool
log_moves (flush tables) old new = new.log_area + old.log_area == 1 && nat_le old.writes new.writes
log_moves (deal node dropped children) old new = new.log_area == old.log_area && new.writes == old.writes
log_moves (rewrite node tables groups) old new = new.log_area == old.log_area && new.writes == old.writes

-- the change fits the trie, its new extents are extents of the store, and the header stands with it
abbrev pub may_commit : ℕ → Manifest → Change → Header → Bool
may_commit levels m change header =
    fits levels m.trie change && all_below m.header.extents (new_extents change)
    && header.extents == m.header.extents && log_moves change m.header header

-- the manifest after a commit
abbrev pub after_commit : Manifest → Change → Header → Manifest
after_commit m change header = record { header = header; trie = after_change m.trie change }

-- the manifest of a fresh store, in area 0
abbrev pub fresh : Geometry → ℕ → Named
fresh g extents = record {
  geometry = g;
  area = 0;
  manifest =
      record { header = record { log_area = 0; extents = extents; writes = 0 }; trie = [] };
}

-- the image has this geometry, and names this manifest in the area that is current
pub record Names (named : Named) (image : Image) : Type 0 where
  pub read : manifest_of image ≡ Ok named
