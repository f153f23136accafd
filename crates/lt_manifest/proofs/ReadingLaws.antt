-- The bytes of an area, as they are read block by block.
use Rattle.std.proofs.Common.{◌≡◌, ⊎_elim, ℕ, ◌+◌, ◌*◌, ◌/◌, ◌%◌, ◌<◌, ◌≤◌, refl, sym, ap, ◌∙◌, List, [], ◌++◌, length, take, true, false, cond, ◌&&◌, None, Result, Ok, Err, arith, length-append}
use Rattle.std.specs.Prelude.{get_or, slice_index, nat_le, ◌==◌}
use Rattle.std.proofs.lemmas.Bool.{cases_lt, and_parts, eq-eqb, leb-true, ne_eqb}
use Rattle.std.proofs.lemmas.List.{length-take, get_or-take, get_or_append_left, get_or-append-add}
use Rattle.lt_terms.specs.Bytes.{Image, block_at}
use Rattle.lt_format.specs.declared.geometry.Geometry.{Geometry}
use Rattle.lt_format.specs.Layout.{area_block, blocks_needed}
use Rattle.lt_format.specs.Trie.{Trie}
use Rattle.lt_format.specs.Snapshot.{Manifest, Front, front_read, nodes_read, snapshot_read, snapshot_in, as_block, area_byte, total_offset, extents_stand, ◌>>=◌}
use Rattle.lt_manifest.specs.Area.{AreBytesFrom, after_front}
use Rattle.lt_format.proofs.AlikeLaws.{front_read-same, nodes_read-same}

-- the header is read of the first block
pub header-read : (g : Geometry) (blocks : ℕ) (image : Image) (a : ℕ) (page bytes : List ℕ) → page ≡ block_at image (area_block a) → bytes ≡ take 40 page → front_read g blocks (area_byte image a) ≡ front_read g blocks (slice_index bytes)
header-read g blocks image a page bytes read is = front_read-same g blocks (area_byte image a) (slice_index bytes) same
  where
    same : (i : ℕ) → i < 40 → area_byte image a i ≡ get_or bytes i 0
    same i within =
        let here : area_block a + i / 4096 ≡ area_block a = omega arith in
        let rest : i % 4096 ≡ i = omega arith in
        ap (λ k. get_or (block_at image k) (i % 4096) 0) here ∙ ap (λ k. get_or (block_at image (area_block a)) k 0) rest
        ∙ ap (λ (p : List ℕ). get_or p i 0) (sym read) ∙ sym (get_or-take 40 page i 0 within) ∙ ap (λ (p : List ℕ). get_or p i 0) (sym is)

pub bytes-more : (image : Image) (first count : ℕ) (page bytes : List ℕ) → length page ≡ 4096 → length bytes ≡ 4096 * count → page ≡ block_at image (first + count) → AreBytesFrom image first bytes → AreBytesFrom image first (bytes ++ page)
bytes-more image first count page bytes len whole read so_far = record { each = each }
  where
    each : (n : ℕ) → n < length (bytes ++ page) → get_or (bytes ++ page) n 0 ≡ get_or (block_at image (first + n / 4096)) (n % 4096) 0
    each n within = ⊎_elim
        (λ (earlier : n < length bytes). get_or_append_left bytes page 0 n earlier ∙ so_far.each n earlier)
        (λ (behind : length bytes ≤ n).
        let both = length-append bytes page in
        let split : n ≡ length bytes + n % 4096 = omega arith in
        let at : first + count ≡ first + n / 4096 = omega arith in
        ap (λ k. get_or (bytes ++ page) k 0) split ∙ get_or-append-add bytes page (n % 4096) 0 ∙ ap (λ (p : List ℕ). get_or p (n % 4096) 0) read ∙ ap (λ k. get_or (block_at image k) (n % 4096) 0) at)
        (cases_lt n (length bytes))

-- the first of these bytes
pub bytes-front : (image : Image) (first count : ℕ) (bytes part : List ℕ) → part ≡ take count bytes → AreBytesFrom image first bytes → AreBytesFrom image first part
bytes-front image first count bytes part is are = record {
  each = λ n within.
      let inside : n < length bytes = omega (arith, within, ap length is, length-take count bytes) in
      let below : n < count = omega (arith, within, ap length is, length-take count bytes) in
      ap (λ (p : List ℕ). get_or p n 0) is ∙ get_or-take count bytes n 0 below ∙ are.each n inside;
}

-- what follows the header asks of the bytes of the snapshot alone
pub after_front-same : (g : Geometry) (image : Image) (a : ℕ) (front : Front) (bytes : List ℕ) → AreBytesFrom image (area_block a) bytes → length bytes ≡ front.total → after_front g (area_byte image a) front ≡ after_front g (slice_index bytes) front
after_front-same g image a front bytes are is =
    ap (λ (r : Result (Trie × ℕ) ℕ). r >>= (λ (nodes : Trie × ℕ). cond (nodes.1 == front.total) (Ok (record { header = front.header; trie = nodes.0 })) (Err total_offset)))
    (nodes_read-same (area_byte image a) (slice_index bytes) front.total (λ i below. sym (are.each i (omega arith))) g.levels front.header.extents front.nodes None [] [] 40 (λ z. refl))

-- what follows the header is its nodes, which end where the header says
module _ (g : Geometry) (bytes : ℕ → ℕ) (front : Front) where
  pub after_front-ok : (trie : Trie) (place : ℕ) → nodes_read bytes front.total g.levels front.header.extents front.nodes None [] 40 ≡ Ok (trie, place) → place ≡ front.total → after_front g bytes front ≡ Ok (record { header = front.header; trie = trie })
  after_front-ok trie place read ends = let same : (place == front.total) ≡ true = eq-eqb place front.total ends in rw (read, same) refl

  pub after_front-short : (trie : Trie) (place : ℕ) → nodes_read bytes front.total g.levels front.header.extents front.nodes None [] 40 ≡ Ok (trie, place) → (place ≡ front.total → ⊥) → after_front g bytes front ≡ Err total_offset
  after_front-short trie place read other = let same : (place == front.total) ≡ false = ne_eqb place front.total other in rw (read, same) refl

  pub after_front-fault : (at : ℕ) → nodes_read bytes front.total g.levels front.header.extents front.nodes None [] 40 ≡ Err at → after_front g bytes front ≡ Err at
  after_front-fault at read = rw read refl

-- the snapshot is its header and what follows
pub snapshot-read : (g : Geometry) (blocks : ℕ) (bytes : ℕ → ℕ) (front : Front) → front_read g blocks bytes ≡ Ok front → snapshot_read g blocks bytes ≡ after_front g bytes front
unfolding snapshot_read
snapshot-read g blocks bytes front read = rw read refl

pub snapshot-front_fault : (g : Geometry) (blocks : ℕ) (bytes : ℕ → ℕ) (e : ℕ) → front_read g blocks bytes ≡ Err e → snapshot_read g blocks bytes ≡ Err e
unfolding snapshot_read
snapshot-front_fault g blocks bytes e read = rw read refl

-- ---- the whole snapshot

pub few_extents : (g : Geometry) (blocks e : ℕ) → extents_stand g blocks e ≡ true → (1 ≤ e) × (e ≤ 65536)
few_extents g blocks e h =
    let outer = and_parts (nat_le 1 e && nat_le e 65536) (nat_le (blocks_needed g e) blocks) h in
    let inner = and_parts (nat_le 1 e) (nat_le e 65536) outer.0 in
    (leb-true _ _ inner.0, leb-true _ _ inner.1)

-- the first field of the header that does not stand
pub snapshot_in-front_fault : (g : Geometry) (image : Image) (a n b : ℕ) → length image ≡ n → (e : ℕ) × (front_read g n (area_byte image a) ≡ Err e) × (b ≡ area_block a + e / 4096) → snapshot_in g image a ≡ Err b
snapshot_in-front_fault g image a n b size fault =
    ap (as_block a) (snapshot-front_fault g (length image) (area_byte image a) fault.0 (ap (λ k. front_read g k (area_byte image a)) size ∙ fault.1)) ∙ ap Err (sym fault.2)

pub snapshot_in-ok : (g : Geometry) (image : Image) (a n : ℕ) (front : Front) (bytes : List ℕ) (m : Manifest) → length image ≡ n → front_read g n (area_byte image a) ≡ Ok front → AreBytesFrom image (area_block a) bytes → length bytes ≡ front.total
    → after_front g (slice_index bytes) front ≡ Ok m → snapshot_in g image a ≡ Ok m
snapshot_in-ok g image a n front bytes m size read are is behind =
    ap (as_block a) (snapshot-read g (length image) (area_byte image a) front (ap (λ k. front_read g k (area_byte image a)) size ∙ read) ∙ after_front-same g image a front bytes are is ∙ behind)

pub snapshot_in-fault : (g : Geometry) (image : Image) (a n : ℕ) (front : Front) (bytes : List ℕ) (e b : ℕ) → length image ≡ n → front_read g n (area_byte image a) ≡ Ok front → AreBytesFrom image (area_block a) bytes → length bytes ≡ front.total
    → after_front g (slice_index bytes) front ≡ Err e → b ≡ area_block a + e / 4096 → snapshot_in g image a ≡ Err b
snapshot_in-fault g image a n front bytes e b size read are is behind at =
    ap (as_block a) (snapshot-read g (length image) (area_byte image a) front (ap (λ k. front_read g k (area_byte image a)) size ∙ read) ∙ after_front-same g image a front bytes are is ∙ behind) ∙ ap Err (sym at)
