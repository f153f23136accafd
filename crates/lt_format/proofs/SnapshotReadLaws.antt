-- A manifest is read again from the bytes of its snapshot, and from the pages that a writer leaves.
use Rattle.std.proofs.Common.{◌≡◌, ℕ, ◌+◌, ◌-◌, ◌*◌, ◌/◌, ◌%◌, ◌<◌, ◌≤◌, refl, sym, ap, subst, ◌∙◌, List, [], ◌∷◌, ◌++◌, length, take, drop, true, ◌&&◌, None, Ok, arith, append-nil}
use Rattle.std.specs.Prelude.{get_or, ◌==◌, nat_le, slice_range}
use Rattle.std.proofs.lemmas.List.{get_or_append_left, get_or-take, get_or-drop, length-take, length-drop}
use Rattle.std.proofs.lemmas.Bool.{and_parts, and_from, leb-true, le-leb, eq-eqb}
use Rattle.lt_terms.specs.Bytes.{Image, block_at, padded, u16, u32, u64, zeros}
use Rattle.lt_format.specs.declared.geometry.Geometry.{Geometry}
use Rattle.lt_format.specs.Layout.{is_geometry, area_block, snapshot_blocks, blocks_needed}
use Rattle.lt_format.specs.Trie.{named, IsTrie}
use Rattle.lt_format.specs.Snapshot.{Manifest, IsManifest, nodes_bytes, snapshot_bytes, snapshot_page, pages_of, front_read, snapshot_read, snapshot_in, area_byte, as_block, extents_stand, is_zero}
use Rattle.lt_format.proofs.Numbers.{times-distinct, length-distinct}
use Rattle.lt_format.proofs.SpellLaws.{Spells, spells-rest, u8-reads, u16-reads, u32-reads, u64-number, u64-reads, AreFresh}
use Rattle.lt_format.proofs.NodeReadLaws.{nodes_read-reads, nodes_short}

-- ---- lengths

record IsShort (m : Manifest) : Type 0 where
  nodes : length m.trie ≤ m.header.extents
  bytes : length (nodes_bytes m.trie) ≤ 19 * m.header.extents
  extents : m.header.extents ≤ 65536

is_short : (g : Geometry) (blocks : ℕ) (m : Manifest) → IsManifest g blocks m → IsShort m
is_short g blocks m i =
    let t : IsTrie g.levels m.header.extents m.trie = i.trie in
    let some : length (named m.trie) ≤ m.header.extents = length-distinct m.header.extents (named m.trie) t.distinct t.below in
    let short = nodes_short g.levels m.header.extents m.trie t.nodes in
    let b = and_parts _ (nat_le (blocks_needed g m.header.extents) blocks) i.extents in
    let a = and_parts (nat_le 1 m.header.extents) (nat_le m.header.extents 65536) b.0 in
    record { nodes = omega (arith, short.0); bytes = omega (arith, short.1); extents = leb-true _ _ a.1 }

-- the bytes after the fields of the header
abbrev total_of : Manifest → ℕ
total_of m = 40 + length (nodes_bytes m.trie)

abbrev after_area : Manifest → List ℕ
after_area m = u16 0 ++ (u32 m.header.extents ++ (u64 m.header.writes ++ (u32 (length m.trie) ++ (u32 (total_of m) ++ (u64 0 ++ (u64 0 ++ nodes_bytes m.trie))))))

header_bytes : (m : Manifest) → snapshot_bytes m ≡ 1 ∷ m.header.log_area ∷ after_area m
unfolding zeros
header_bytes m = refl

pub length-snapshot : (m : Manifest) → length (snapshot_bytes m) ≡ total_of m
unfolding zeros
length-snapshot m = omega arith

-- the pages fit in an area
pub pages-fit : (g : Geometry) (blocks : ℕ) (m : Manifest) → IsManifest g blocks m → pages_of m ≤ snapshot_blocks
pages-fit g blocks m i =
    let short = is_short g blocks m i in
    let bytes : length (nodes_bytes m.trie) ≤ 19 * m.header.extents = short.bytes in
    let extents : m.header.extents ≤ 65536 = short.extents in
    rw (length-snapshot m) (omega arith)

-- ---- the header

front_read-reads : (g : Geometry) (blocks : ℕ) (m : Manifest) (bytes : ℕ → ℕ) → IsManifest g blocks m → Spells bytes 0 (snapshot_bytes m) → front_read g blocks bytes ≡ Ok (record { header = m.header; nodes = length m.trie; total = total_of m })
unfolding front_read
front_read-reads g blocks m bytes i s =
    let short = is_short g blocks m i in
    let area : m.header.log_area < 2 = i.area in
    let few : m.header.extents ≤ 65536 = short.extents in
    let nodes : length m.trie ≤ m.header.extents = short.nodes in
    let size : length (nodes_bytes m.trie) ≤ 19 * m.header.extents = short.bytes in
    let low : nat_le 40 (total_of m) ≡ true = le-leb 40 (total_of m) (omega arith) in
    let high : nat_le (total_of m) (40 + 19 * m.header.extents) ≡ true = le-leb (total_of m) (40 + 19 * m.header.extents) (omega arith) in
    let x7 : List ℕ = nodes_bytes m.trie in
    let x6 : List ℕ = u64 0 ++ x7 in
    let x5 : List ℕ = u64 0 ++ x6 in
    let x4 : List ℕ = u32 (total_of m) ++ x5 in
    let x3 : List ℕ = u32 (length m.trie) ++ x4 in
    let x2 : List ℕ = u64 m.header.writes ++ x3 in
    let x1 : List ℕ = u32 m.header.extents ++ x2 in
    let s0 : Spells bytes 0 (1 ∷ m.header.log_area ∷ after_area m) = subst (Spells bytes 0) (header_bytes m) s in
    let s1 = spells-rest bytes 0 1 (1 ∷ []) (m.header.log_area ∷ after_area m) s0 refl in
    let s2 = spells-rest bytes 1 2 (m.header.log_area ∷ []) (after_area m) s1 refl in
    let s3 = spells-rest bytes 2 4 (u16 0) x1 s2 refl in
    let s4 = spells-rest bytes 4 8 (u32 m.header.extents) x2 s3 refl in
    let s5 = spells-rest bytes 8 16 (u64 m.header.writes) x3 s4 refl in
    let s6 = spells-rest bytes 16 20 (u32 (length m.trie)) x4 s5 refl in
    let s7 = spells-rest bytes 20 24 (u32 (total_of m)) x5 s6 refl in
    let s8 = spells-rest bytes 24 32 (u64 0) x6 s7 refl in
    let r0 = u8-reads bytes 40 (λ n. n == 1) 0 1 1 (m.header.log_area ∷ after_area m) s0 refl (omega arith) refl in
    let r1 = u8-reads bytes 40 (λ n. nat_le n 1) 1 2 m.header.log_area (after_area m) s1 refl (omega arith) (le-leb _ _ (omega arith)) in
    let r2 = u16-reads bytes 40 is_zero 2 4 0 x1 s2 (omega arith) refl (omega arith) refl in
    let r3 = u32-reads bytes 40 (extents_stand g blocks) 4 8 m.header.extents x2 s3 (omega arith) refl (omega arith) i.extents in
    let r4 = u64-number bytes 8 m.header.writes x3 s4 i.writes in
    let r5 = u32-reads bytes 40 (λ n. nat_le n m.header.extents) 16 20 (length m.trie) x4 s5 (omega arith) refl (omega arith) (le-leb _ _ nodes) in
    let r6 = u32-reads bytes 40 (λ n. nat_le 40 n && nat_le n (40 + 19 * m.header.extents)) 20 24 (total_of m) x5 s6 (omega arith) refl (omega arith) (and_from (nat_le 40 (total_of m)) (nat_le (total_of m) (40 + 19 * m.header.extents)) low high) in
    let r7 = u64-reads bytes 40 is_zero 24 32 0 x6 s7 (omega arith) refl (omega arith) refl in
    let r8 = u64-reads bytes 40 is_zero 32 40 0 x7 s8 (omega arith) refl (omega arith) refl in
    rw (r0, r1, r2, r3, r4, r5, r6, r7, r8) refl

-- ---- the whole

abbrev front_bytes : Manifest → List ℕ
front_bytes m = (1 ∷ m.header.log_area ∷ 0 ∷ 0 ∷ []) ++ u32 m.header.extents ++ u64 m.header.writes ++ u32 (length m.trie) ++ u32 (total_of m) ++ zeros 16

length-front : (m : Manifest) → 0 + length (front_bytes m) ≡ 40
unfolding zeros
length-front m = refl

from_start : (bytes : ℕ → ℕ) (xs : List ℕ) → ((i : ℕ) → i < length xs → bytes i ≡ get_or xs i 0) → Spells bytes 0 xs
from_start bytes xs same i within = ap bytes (omega arith) ∙ same i within

pub snapshot_read-reads : (g : Geometry) (blocks : ℕ) (m : Manifest) (bytes : ℕ → ℕ) → is_geometry g ≡ true → IsManifest g blocks m → ((i : ℕ) → i < length (snapshot_bytes m) → bytes i ≡ get_or (snapshot_bytes m) i 0) → snapshot_read g blocks bytes ≡ Ok m
unfolding snapshot_read
snapshot_read-reads g blocks m bytes valid i same =
    let s : Spells bytes 0 (snapshot_bytes m) = from_start bytes (snapshot_bytes m) same in
    let t : IsTrie g.levels m.header.extents m.trie = i.trie in
    let deep : g.levels ≤ 5 = leb-true g.levels 5 (and_parts (nat_le 2 g.levels) (nat_le g.levels 5) (and_parts _ (nat_le 1 g.slots) (and_parts _ (nat_le g.slots 512) valid).0).0).1 in
    let fresh : AreFresh m.header.extents (named m.trie) [] = record { below = t.below; once = λ x. omega (arith, times-distinct (named m.trie) t.distinct x) } in
    let behind : Spells bytes 40 (nodes_bytes m.trie) = spells-rest bytes 0 40 (front_bytes m) (nodes_bytes m.trie) s (length-front m) in
    let here : Spells bytes 40 (nodes_bytes m.trie ++ []) = subst (Spells bytes 40) (sym (append-nil (nodes_bytes m.trie))) behind in
    let front = front_read-reads g blocks m bytes i s in
    let nodes = nodes_read-reads bytes (total_of m) g.levels m.header.extents None [] 40 (total_of m) m.trie [] deep (is_short g blocks m i).extents t.nodes t.rising refl fresh here refl (omega arith) in
    let done : (total_of m == total_of m) ≡ true = eq-eqb (total_of m) (total_of m) refl in
    rw (front, nodes, done) refl

-- ---- pages

slice_page : (size k r : ℕ) (xs : List ℕ) → r < size → size * k + r < length xs → get_or (padded size (slice_range xs (size * k) (size * (k + 1)))) r 0 ≡ get_or xs (size * k + r) 0
slice_page size k r xs small within =
    let here : List ℕ = drop (size * k) xs in
    let part : List ℕ = take (size * (k + 1) - size * k) here in
    let inside : r < size * (k + 1) - size * k = omega arith in
    let long : r < length part = omega (arith, length-take (size * (k + 1) - size * k) here, length-drop (size * k) xs) in
    get_or_append_left part (zeros (size - length part)) 0 r long
    ∙ get_or-take (size * (k + 1) - size * k) here r 0 inside
    ∙ get_or-drop (size * k) xs r 0

block-page : (m : Manifest) (k r : ℕ) → r < 4096 → 4096 * k + r < length (snapshot_bytes m) → get_or (snapshot_page m k) r 0 ≡ get_or (snapshot_bytes m) (4096 * k + r) 0
block-page m k r small within = slice_page 4096 k r (snapshot_bytes m) small within

pub pages-read : (g : Geometry) (image : Image) (a : ℕ) (m : Manifest) → is_geometry g ≡ true → IsManifest g (length image) m → ((k : ℕ) → k < pages_of m → block_at image (area_block a + k) ≡ snapshot_page m k) → snapshot_in g image a ≡ Ok m
pages-read g image a m valid i pages =
    ap (as_block a) (snapshot_read-reads g (length image) m (area_byte image a) valid i byte)
  where
    byte : (n : ℕ) → n < length (snapshot_bytes m) → area_byte image a n ≡ get_or (snapshot_bytes m) n 0
    byte n within =
        let page : n / 4096 < pages_of m = omega arith in
        let whole : 4096 * (n / 4096) + n % 4096 ≡ n = omega arith in
        ap (λ (block : List ℕ). get_or block (n % 4096) 0) (pages (n / 4096) page)
        ∙ block-page m (n / 4096) (n % 4096) (omega arith) (omega arith)
        ∙ ap (λ k. get_or (snapshot_bytes m) k 0) whole
