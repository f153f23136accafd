-- Reading a snapshot looks at the bytes below its length alone, and so at the blocks of its area; reading a log looks at the blocks of its slots alone.
use Rattle.std.proofs.Common.{◌≡◌, ℕ, zero, suc, ◌+◌, ◌*◌, ◌/◌, ◌%◌, ◌<◌, ◌≤◌, refl, ap, ◌∙◌, cond, List, [], length, Option, None, Result, Ok, Err, arith}
use Rattle.std.specs.Prelude.{◌==◌, slice_index}
use Rattle.lt_terms.specs.Bytes.{Image, block_at, block_len}
use Rattle.lt_terms.specs.Items.{Item}
use Rattle.lt_format.specs.declared.geometry.Geometry.{Geometry}
use Rattle.lt_format.specs.Layout.{area_block, snapshot_blocks, selected, selector_block, geometry_of, is_open, log_gate, log_content, first_open, closed_from}
use Rattle.lt_format.specs.Log.{group_on, with_group, read_with, log_from}
use Rattle.lt_format.specs.Trie.{Trie}
use Rattle.lt_format.specs.Snapshot.{Manifest, Front, ◌>>=◌, nodes_read, front_read, snapshot_read, snapshot_in, area_byte, as_block, total_offset, geometry_in, manifest_in, manifest_of, roomy}
use Rattle.lt_format.proofs.AlikeLaws.{front_read-same, nodes_read-same}
use Rattle.lt_format.proofs.ReadLaws.{front_ok}

-- ---- snapshots

abbrev area_bytes : ℕ
area_bytes = block_len * snapshot_blocks

-- what is read behind the header
abbrev pub ended : Front → Trie × ℕ → Result Manifest ℕ
ended front nodes = cond (nodes.1 == front.total) (Ok (record { header = front.header; trie = nodes.0 })) (Err total_offset)

abbrev pub behind : Geometry → (ℕ → ℕ) → Front → Result Manifest ℕ
behind g bytes front = nodes_read bytes front.total g.levels front.header.extents front.nodes None [] 40 >>= ended front

snapshot_read-same : (g : Geometry) (blocks : ℕ) (one two : ℕ → ℕ) → ((i : ℕ) → i < area_bytes → two i ≡ one i) → snapshot_read g blocks two ≡ snapshot_read g blocks one
unfolding snapshot_read
snapshot_read-same g blocks one two same = ap (λ r. r >>= behind g two) front_same ∙ decide (front_read g blocks one) refl
  where
    front_same : front_read g blocks two ≡ front_read g blocks one
    front_same = front_read-same g blocks two one (λ i small. same i (omega arith))

    decide : (r : Result Front ℕ) → front_read g blocks one ≡ r → r >>= behind g two ≡ r >>= behind g one
    decide (Ok front) is =
        let short = (front_ok g blocks one front is).short in
        λ i. nodes_read-same two one front.total (λ k small. same k (omega arith)) g.levels front.header.extents front.nodes None [] [] 40 (λ z. refl) i >>= ended front
    decide (Err e) is = refl

-- A SNAPSHOT is told by the blocks of its area
pub snapshot-local : (g : Geometry) (image left : Image) (a : ℕ) → length left ≡ length image → ((n : ℕ) → n < snapshot_blocks → block_at left (area_block a + n) ≡ block_at image (area_block a + n)) → snapshot_in g left a ≡ snapshot_in g image a
snapshot-local g image left a size same =
    ap (as_block a) (
    ap (λ n. snapshot_read g n (area_byte left a)) size
    ∙ snapshot_read-same g (length image) (area_byte image a) (area_byte left a) (λ i small. ap (λ block. slice_index block (i % block_len)) (same (i / block_len) (omega arith))))

selected-small : (block : List ℕ) → selected block < 2
selected-small block = omega arith

-- A MANIFEST is told by the superblock, the selector and the manifest areas
pub manifest-local : (image left : Image) → length left ≡ length image → ((n : ℕ) → n < 868 → block_at left n ≡ block_at image n) → manifest_of left ≡ manifest_of image
unfolding manifest_of manifest_in geometry_in
manifest-local image left size same =
    let first = same 0 (omega arith) in
    let selector = same 1 (omega arith) in
    let a : ℕ = selected (block_at image selector_block) in
    let small : a < 2 = selected-small (block_at image selector_block) in
    let snapshot = λ (g : Geometry). ap (λ block. snapshot_in g left (selected block)) selector ∙ snapshot-local g image left a size (λ n low. same (area_block a + n) (omega arith)) in
    λ i. roomy (size i) (geometry_of (first i)) >>= (λ g. snapshot g i >>= (λ manifest. Ok (record { geometry = g; area = selected (selector i); manifest = manifest })))

-- ---- the log

-- a block at a number is the same in both images
abbrev pub SameBlock : Image → Image → ℕ → Type 0
SameBlock old new n = block_at new n ≡ block_at old n

pub first_open-same : (old new : Image) (gate : ℕ → ℕ) (i n : ℕ) → ((k : ℕ) → i ≤ k → k < i + n → SameBlock old new (gate k)) → first_open new gate i n ≡ first_open old gate i n
unfolding first_open
first_open-same old new gate i zero same = refl
first_open-same old new gate i (suc n) same =
    let here : SameBlock old new (gate i) = same i (omega arith) (omega arith) in
    let rest : first_open new gate (i + 1) n ≡ first_open old gate (i + 1) n = first_open-same old new gate (i + 1) n (λ k low high. same k (omega arith) (omega arith)) in
    λ j. cond (is_open (here j)) (Option.Some (gate i)) (rest j)

pub log_from-same : (g : Geometry) (old new : Image) (b writes i n : ℕ) (groups : List (List Item)) → ((k : ℕ) → i ≤ k → k < i + n → SameBlock old new (log_gate g b k) × SameBlock old new (log_content g b k)) → log_from g new b writes i n groups ≡ log_from g old b writes i n groups
unfolding log_from
log_from-same g old new b writes i zero groups same = refl
log_from-same g old new b writes i (suc n) groups same =
    let here = same i (omega arith) (omega arith) in
    let first : first_open new (log_gate g b) (i + 1) n ≡ first_open old (log_gate g b) (i + 1) n = first_open-same old new (log_gate g b) (i + 1) n (λ k low high. (same k (omega arith) (omega arith)).0) in
    λ j. cond (is_open (here.0 j))
    (read_with (with_group writes groups (group_on (here.1 j))) (log_content g b i) (λ more. log_from-same g old new b writes (i + 1) n more (λ k low high. same k (omega arith) (omega arith)) j))
    (closed_from (first j) groups)
