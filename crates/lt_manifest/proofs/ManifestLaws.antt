-- What a manifest in memory is after it was read, and after a change.
use Rattle.std.proofs.Common.{◌≡◌, ℕ, ◌+◌, ◌-◌, ◌*◌, ◌/◌, ◌^◌, ◌<◌, ◌≤◌, refl, sym, ap, subst, ◌∙◌, true, ◌&&◌, List, [], ◌∷◌, length, Some, Ok, Err, IsTrue, arith}
use Rattle.std.specs.Prelude.{nat_le, ◌==◌}
use Rattle.std.proofs.lemmas.Bool.{and_parts, leb-true, eqb-true}
use Rattle.lt_terms.specs.Bytes.{Image, block_at, block_of}
use Rattle.lt_device.specs.State.{IsFit, SameOutside, State, Wrote, written}
use Rattle.lt_device.proofs.Images.{block_at-set_other}
use Rattle.lt_device.proofs.Steps.{left_whole, written_is, written_shown}
use Rattle.lt_device.proofs.Fits.{wrote_fit}
use Rattle.lt_format.specs.declared.geometry.Geometry.{Geometry}
use Rattle.lt_format.specs.declared.header.Header.{Header}
use Rattle.lt_format.specs.Layout.{is_geometry, blocks_needed, selected, selector_block}
use Rattle.lt_format.specs.Trie.{IsTrie, all_below, named}
use Rattle.lt_format.specs.Changes.{Change, flush, deal, rewrite, new_extents, fits, after_change}
use Rattle.lt_format.specs.Snapshot.{Manifest, IsManifest, nodes_bytes, snapshot_in, snapshot_bytes, extents_stand, Named, manifest_in, may_commit, after_commit, log_moves}
use Rattle.lt_format.proofs.Numbers.{length-distinct}
use Rattle.lt_format.proofs.NodeReadLaws.{nodes_short}
use Rattle.lt_format.proofs.KeepLaws.{after_change-trie}
use Rattle.lt_format.proofs.SnapshotReadLaws.{pages-fit, pages-read}
use Rattle.lt_node.specs.View.{TrieView}
use Rattle.lt_device.specs.Moments.{ConfinedTo, MayLeave, Leaves}
use Rattle.lt_manifest.specs.Promise.{HasNew, HasOldOrNew, IsKept, IsHeld, named_by}
use Rattle.lt_format.specs.Snapshot.{Names, fresh}
use Rattle.lt_format.proofs.RegionLaws.{geometry-deep}
use Rattle.lt_manifest.specs.Written.{HasArea, HasSelected, InArea, page_of, page_count}
use Rattle.lt_manifest.proofs.CommitLaws.{IsNext, area-stays, area-selected, committed, other_written, selector_written, selects, still_old}
use Rattle.lt_manifest.proofs.ReadingLaws.{few_extents}

-- ---- reading

pub manifest_in-ok : (g : Geometry) (image : Image) (page : List ℕ) (area : ℕ) (m : Manifest) → page ≡ block_at image 1 → area ≡ selected page → snapshot_in g image area ≡ Ok m → manifest_in g image ≡ Ok (record { geometry = g; area = area; manifest = m })
unfolding manifest_in
manifest_in-ok g image page area m read is snapshot =
    let at : selected (block_at image selector_block) ≡ area = ap selected (sym read) ∙ sym is in
    rw (at, snapshot) refl

pub manifest_in-fault : (g : Geometry) (image : Image) (page : List ℕ) (area b : ℕ) → page ≡ block_at image 1 → area ≡ selected page → snapshot_in g image area ≡ Err b → manifest_in g image ≡ Err b
unfolding manifest_in
manifest_in-fault g image page area b read is snapshot =
    let at : selected (block_at image selector_block) ≡ area = ap selected (sym read) ∙ sym is in
    rw (at, snapshot) refl

-- ---- a change

log_area-small : (change : Change) (old new : Header) → old.log_area < 2 → log_moves change old new ≡ true → new.log_area < 2
log_area-small (flush tables) old new small moves =
    let turned : new.log_area + old.log_area ≡ 1 = eqb-true _ _ (and_parts (new.log_area + old.log_area == 1) (nat_le old.writes new.writes) moves).0 in
    omega arith
log_area-small (deal node dropped children) old new small moves =
    let same : new.log_area ≡ old.log_area = eqb-true _ _ (and_parts (new.log_area == old.log_area) (new.writes == old.writes) moves).0 in
    omega arith
log_area-small (rewrite node tables groups) old new small moves =
    let same : new.log_area ≡ old.log_area = eqb-true _ _ (and_parts (new.log_area == old.log_area) (new.writes == old.writes) moves).0 in
    omega arith

-- the manifest after a change that may be committed
pub next_stands : (named : Named) (blocks : ℕ) (change : Change) (header : Header) → IsKept named → IsTrue (extents_stand named.geometry blocks named.manifest.header.extents) → IsTrue (may_commit named.geometry.levels named.manifest change header) → header.writes < 2 ^ 64
    → IsManifest named.geometry blocks (after_commit named.manifest change header)
next_stands named blocks change header kept stands may writes =
    let c = and_parts _ (log_moves change named.manifest.header header) may in
    let b = and_parts _ (header.extents == named.manifest.header.extents) c.0 in
    let a = and_parts (fits named.geometry.levels named.manifest.trie change) (all_below named.manifest.header.extents (new_extents change)) b.0 in
    let same : header.extents ≡ named.manifest.header.extents = eqb-true _ _ b.1 in
    let trie : IsTrie named.geometry.levels named.manifest.header.extents (after_change named.manifest.trie change) = after_change-trie named.geometry.levels named.manifest.header.extents named.manifest.trie change (geometry-deep named.geometry kept.geometry) kept.trie a.0 a.1 in
    record {
      area = log_area-small change named.manifest.header header kept.log_area c.1;
      extents = subst (λ e. IsTrue (extents_stand named.geometry blocks e)) (sym same) stands;
      writes = writes;
      trie = subst (λ e. IsTrie named.geometry.levels e (after_change named.manifest.trie change)) (sym same) trie;
    }

-- what stands on a device is kept in memory
pub held_from : (g : Geometry) (blocks area : ℕ) (header : Header) (trie : TrieView) → is_geometry g ≡ true → area < 2 → trie.levels ≡ g.levels → IsManifest g blocks (record { header = header; trie = trie.nodes }) → IsHeld g area header trie
held_from g blocks area header trie valid small levels stands =
    let few = few_extents g blocks header.extents stands.extents in
    record {
      kept = record {
        geometry = valid;
        area = small;
        log_area = stands.area;
        least = few.0;
        most = few.1;
        writes = stands.writes;
        trie = stands.trie;
      };
      levels = levels;
    }

-- its bytes have room in an area
pub bytes-fit : (g : Geometry) (blocks : ℕ) (m : Manifest) → IsManifest g blocks m → length (snapshot_bytes m) ≤ 1249280
bytes-fit g blocks m stands =
    let pages = pages-fit g blocks m stands in
    let few : (length (snapshot_bytes m) + 4095) / 4096 ≤ 305 = pages in
    omega (arith, few)

pub nodes-fit : (g : Geometry) (blocks : ℕ) (m : Manifest) → IsManifest g blocks m → length (nodes_bytes m.trie) ≤ 19 * m.header.extents
nodes-fit g blocks m stands =
    let t : IsTrie g.levels m.header.extents m.trie = stands.trie in
    let some : length (named m.trie) ≤ m.header.extents = length-distinct m.header.extents (named m.trie) t.distinct t.below in
    let short = nodes_short g.levels m.header.extents m.trie t.nodes in
    omega (arith, short.1, some)

-- ---- a fresh one

pub fresh-stands : (g : Geometry) (blocks extents : ℕ) → IsTrue (extents_stand g blocks extents) → IsManifest g blocks (fresh g extents).manifest
fresh-stands g blocks extents stands = record {
  area = omega arith;
  extents = stands;
  writes = omega arith;
  trie = record { rising = refl; nodes = refl; distinct = refl; below = refl };
}

-- the image after the selector was written
module _ (n : ℕ) (old new : State) (page bytes : List ℕ) (wrote : Wrote n 1 old new) (is : new ≡ written old 1 page) (zero_page : page ≡ block_of (0 ∷ [])) (below : 1 < n) (has : (image : Image) → old.shown ≡ Some image → HasArea 0 bytes image) (image : Image) (told : new.shown ≡ Some image) where
  before_is : (before : Image) × (old.shown ≡ Some before) × ((k : ℕ) → (k ≡ 1 → ⊥) → block_at image k ≡ block_at before k)
  before_is =
      let was = written_is 1 old new page is image told in
      (was.0, was.1, λ k other. ap (λ (i : Image). block_at i k) was.2 ∙ block_at-set_other was.0 1 k page other)

  pub fresh-written : HasSelected 0 bytes image
  fresh-written =
      let was = before_is in
      record {
        written = area-stays 0 bytes was.0 image was.2 (has was.0 was.1);
        selector = written_shown n 1 old new page wrote.fit below is image told ∙ zero_page;
      }

  pub fresh-named : (g : Geometry) (extents : ℕ) → is_geometry g ≡ true → IsTrue (extents_stand g n extents) → bytes ≡ snapshot_bytes (fresh g extents).manifest → manifest_in g image ≡ Ok (fresh g extents)
  fresh-named g extents valid stands spelled =
      let size : length image ≡ n = ((wrote_fit n 1 old new wrote).shown image told).size in
      let m : Manifest = (fresh g extents).manifest in
      let snapshot : snapshot_in g image 0 ≡ Ok m = pages-read g image 0 m valid (subst (λ k. IsManifest g k m) (sym size) (fresh-stands g n extents stands))
      (λ k within. fresh-written.written.pages k (subst (λ (b : List ℕ). k < page_count b) (sym spelled) within) ∙ ap (λ (b : List ℕ). page_of b k) spelled) in
      manifest_in-ok g image (block_of (0 ∷ [])) 0 m (sym fresh-written.selector) refl snapshot

-- a device with room for some extents has the selector
pub roomy-below : (g : Geometry) (blocks size extents : ℕ) → IsTrue (extents_stand g blocks extents) → size ≡ blocks → 1 < size
roomy-below g blocks size extents stands same =
    let room : blocks_needed g extents ≤ blocks = leb-true (blocks_needed g extents) blocks (and_parts (nat_le 1 extents && nat_le extents 65536) (nat_le (blocks_needed g extents) blocks) stands).1 in
    omega arith

-- ---- what a commit promises, of a manifest in memory

abbrev pub AnyMoment : Change → Header → State → State → Named → Type 0
AnyMoment change header old new named = (shown : Image) → old.shown ≡ Some shown → ((left : Image) → MayLeave old left → Names named left) → Leaves (HasOldOrNew named (after_commit named.manifest change header) shown) old new

abbrev pub Committed : State → State → Named → Named → Type 0
Committed old new after named = (shown : Image) → old.shown ≡ Some shown → ((left : Image) → MayLeave old left → Names named left) → (left : Image) → MayLeave new left → HasNew after shown left

-- a change that was made in memory, and may be committed
pub record IsReady (g : Geometry) (area blocks : ℕ) (before : Header) (old : TrieView) (change : Change) (header : Header) (trie : TrieView) : Type 0 where
  pub held : IsHeld g area before old
  pub stands : IsTrue (extents_stand g blocks before.extents)
  pub may : IsTrue (may_commit g.levels (record { header = before; trie = old.nodes }) change header)
  pub writes : header.writes < 2 ^ 64
  pub applied : trie ≡ record old { nodes = after_change old.nodes change }

pub ready-from : (g : Geometry) (area blocks : ℕ) (before : Header) (old : TrieView) (change : Change) (asked header : Header) (trie : TrieView) (named : Named)
    → named_by g area before old.nodes ≡ named → IsHeld g area before old → IsTrue (extents_stand named.geometry blocks named.manifest.header.extents)
    → IsTrue (may_commit named.geometry.levels named.manifest change asked) → header ≡ asked → header.writes < 2 ^ 64
    → trie ≡ record old { nodes = after_change old.nodes change } → IsReady g area blocks before old change header trie
ready-from g area blocks before old change asked header trie named view held stands may same writes applied = record {
  held = held;
  stands = subst (λ (n : Named). IsTrue (extents_stand n.geometry blocks n.manifest.header.extents)) (sym view) stands;
  may = subst (λ (h : Header). IsTrue (may_commit g.levels (record { header = before; trie = old.nodes }) change h)) (sym same)
      (subst (λ (n : Named). IsTrue (may_commit n.geometry.levels n.manifest change asked)) (sym view) may);
  writes = writes;
  applied = applied;
}

module _ (g : Geometry) (area blocks : ℕ) (before : Header) (old : TrieView) (change : Change) (header : Header) (trie : TrieView) (ready : IsReady g area blocks before old change header trie) where
  pub ready-same : ◌≡◌ {A = Manifest} (record { header = header; trie = trie.nodes }) (after_commit (record { header = before; trie = old.nodes }) change header)
  ready-same = ap (λ (v : TrieView). record { header = header; trie = v.nodes }) ready.applied

  pub ready-stands : IsManifest g blocks (record { header = header; trie = trie.nodes })
  ready-stands = subst (IsManifest g blocks) (sym ready-same) (next_stands (named_by g area before old.nodes) blocks change header ready.held.kept ready.stands ready.may ready.writes)

  pub ready-held : (now : ℕ) → now < 2 → IsHeld g now header trie
  ready-held now small = held_from g blocks now header trie ready.held.kept.geometry small (ap (λ (v : TrieView). v.levels) ready.applied ∙ ready.held.levels) ready-stands

  pub ready-next : (bytes : List ℕ) → bytes ≡ snapshot_bytes (record { header = header; trie = trie.nodes }) → IsNext g area blocks bytes (named_by g area before old.nodes) (record { header = header; trie = trie.nodes })
  ready-next bytes spelled = record { geometry = refl; area_is = refl; spelled = spelled; stands = ready-stands }

-- the other area is written and then selected, where these bytes spell the new manifest
module _ (g : Geometry) (area blocks : ℕ) (before : Header) (old : TrieView) (change : Change) (header : Header) (trie : TrieView) (ready : IsReady g area blocks before old change header trie)
    (bytes : List ℕ) (spelled : bytes ≡ snapshot_bytes (record { header = header; trie = trie.nodes })) (asked : Header) (header_is : header ≡ asked) (named : Named) (view : named_by g area before old.nodes ≡ named) where
  abbrev was : Named
  was = named_by g area before old.nodes

  abbrev now : Manifest
  now = record { header = header; trie = trie.nodes }

  same : now ≡ after_commit was.manifest change asked
  same = ready-same g area blocks before old change header trie ready ∙ ap (after_commit (record { header = before; trie = old.nodes }) change) header_is

  next : IsNext g area blocks bytes was now
  next = ready-next g area blocks before old change header trie ready bytes spelled

  valid : is_geometry g ≡ true
  valid = ready.held.kept.geometry

  small : area < 2
  small = ready.held.kept.area

  pub moment-written : {s t : State} → ConfinedTo (InArea (1 - area)) s t → AnyMoment change asked s t named
  moment-written {s} {t} confined = subst (AnyMoment change asked s t) view (λ shown told rests.
      subst (λ (n : Manifest). Leaves (HasOldOrNew was n shown) s t) same
      (still_old g area blocks bytes was now shown next valid small (other_written g area blocks bytes was now shown next valid small confined rests)))

  pub moment-selected : {s t u : State} (n : ℕ) → ConfinedTo (InArea (1 - area)) s t → IsFit n t → n ≡ blocks → ((left : Image) → MayLeave t left → HasArea (1 - area) bytes left)
      → ((shown : Image) → s.shown ≡ Some shown → (left : Image) → MayLeave t left → SameOutside (InArea (1 - area)) shown left) → ConfinedTo (λ k. k ≡ 1) t u → AnyMoment change asked s u named
  moment-selected {s} {t} {u} n confined fit size has beside selected_only = subst (AnyMoment change asked s u) view (λ shown told rests.
      subst (λ (m : Manifest). Leaves (HasOldOrNew was m shown) s u) same
      (selector_written g area blocks bytes was now shown next valid small (other_written g area blocks bytes was now shown next valid small confined rests)
      (λ left may. (left_whole n t fit left may).size ∙ size) has (beside shown told) selected_only))

  pub selected-committed : {s t u : State} (n : ℕ) → ConfinedTo (InArea (1 - area)) s t → IsFit n t → n ≡ blocks → ((left : Image) → MayLeave t left → HasArea (1 - area) bytes left)
      → ((shown : Image) → s.shown ≡ Some shown → (left : Image) → MayLeave t left → SameOutside (InArea (1 - area)) shown left) → ConfinedTo (λ k. k ≡ 1) t u
      → ((left : Image) → MayLeave u left → block_at left 1 ≡ block_of ((1 - area) ∷ [])) → Committed s u (named_by g (1 - area) header trie.nodes) named
  selected-committed {s} {t} {u} n confined fit size has beside selected_only page = subst (Committed s u (named_by g (1 - area) header trie.nodes)) view (λ shown told rests.
      committed g area blocks bytes was now shown next valid small (other_written g area blocks bytes was now shown next valid small confined rests)
      (λ left may. (left_whole n t fit left may).size ∙ size) has (beside shown told) selected_only (λ left may. selects (1 - area) (block_at left 1) (omega arith) (page left may)))

  pub selected-written : {t u : State} → ((left : Image) → MayLeave t left → HasArea (1 - area) bytes left) → ConfinedTo (λ k. k ≡ 1) t u
      → ((left : Image) → MayLeave u left → block_at left 1 ≡ block_of ((1 - area) ∷ [])) → (left : Image) → MayLeave u left → HasSelected (1 - area) (snapshot_bytes (record { header = header; trie = trie.nodes })) left
  selected-written has selected_only page left may =
      subst (λ (b : List ℕ). HasSelected (1 - area) b left) spelled (area-selected (1 - area) bytes has selected_only page left may)
