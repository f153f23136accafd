-- What the regions and the superblock of a fresh store make of an image.
use Rattle.std.proofs.Common.{◌≡◌, ◌≢◌, ℕ, ◌+◌, ◌<◌, ◌≤◌, refl, sym, ap, subst, ◌∙◌, List, [], length, set, map, Bool, true, false, Some, Ok, Result, arith, IsTrue}
use Rattle.std.specs.Option.{ForSome, option_map}
use Rattle.std.proofs.lemmas.Bool.{le-leb}
use Rattle.std.proofs.lemmas.List.{length-set}
use Rattle.lt_terms.specs.Bytes.{Image, block_at}
use Rattle.lt_device.specs.State.{SameOutside, State, IsFit, synced, written}
use Rattle.lt_device.specs.Moments.{MayLeave, ConfinedTo, ShowsSameOutside}
use Rattle.lt_device.proofs.Images.{block_at-set_same, block_at-set_other, crash_none}
use Rattle.lt_device.proofs.Steps.{option_map-Some, same_some, sync_only, sync_shown}
use Rattle.lt_language.specs.Machine.{nothing_yet}
use Rattle.lt_format.specs.declared.geometry.Geometry.{Geometry}
use Rattle.lt_format.specs.Layout.{is_geometry, geometry_of, superblock, selected, selector_block, area_block, log_gate, is_open, blocks_needed}
use Rattle.lt_format.specs.Snapshot.{Manifest, snapshot_in, ◌>>=◌, InManifest, geometry_in, manifest_in, manifest_of, roomy}
use Rattle.lt_format.proofs.LocalLaws.{snapshot-local}
use Rattle.lt_layout.proofs.SuperLaws.{geometry_of-superblock}
use Rattle.lt_format.specs.Snapshot.{fresh}
use Rattle.lt_redo.specs.Slots.{IsCleared}
use Rattle.lt_redo.proofs.ClearLaws.{has_log-cleared}
use Rattle.lt_image.specs.Standing.{Stands}
use Rattle.lt_image.proofs.KeptLaws.{fresh-stands}
use Rattle.lt_store.specs.Making.{InFresh, HasRegions}
use Rattle.lt_store.specs.Promise.{IsFresh}
use Rattle.lt_store.proofs.OpenLaws.{geometry-manifest, opens}

-- ---- which blocks are written

pub manifest-inside : (g : Geometry) (n : ℕ) → InManifest n → InFresh g n
manifest-inside g n inside = omega (arith, inside.1)

pub super-inside : (g : Geometry) (n : ℕ) → n ≡ 0 → InFresh g n
super-inside g n is = omega arith

-- ---- the regions

-- a device that tells what a crash may leave told it before the sync
told_before : (s t : State) (flags : List Bool) → t ≡ synced s → t.unsynced ≡ Some flags → (before : List Bool) × (s.unsynced ≡ Some before)
told_before s t flags is told = let was = option_map-Some (map (λ _. false)) s.unsynced flags (sym (ap (λ (x : State). x.unsynced) is) ∙ told) in (was.0, was.1)

-- what it reads as is one of these images
reads_as : (n : ℕ) (s : State) (fit : IsFit n s) (image : Image) (flags : List Bool) → s.shown ≡ Some image → s.unsynced ≡ Some flags → MayLeave s image
reads_as n s fit image flags shown told = record { shown = image; unsynced = flags; shown_is = shown; unsynced_is = told; crash = crash_none image flags (fit.shown image shown).pages }

same_cleared : (g : Geometry) (old new : Image) → ((n : ℕ) → 868 ≤ n → block_at new n ≡ block_at old n) → IsCleared g 0 old → IsCleared g 0 new
same_cleared g old new same cleared = record { gates = λ k below. ap is_open (same (log_gate g 0 k) (omega arith)) ∙ cleared.gates k below }

-- the gates are closed, then the manifest is written, then both are made sure
pub HasRegions-of : (g : Geometry) (extents n : ℕ) (s t u : State) → ((image : Image) → s.shown ≡ Some image → IsCleared g 0 image) → ConfinedTo InManifest s t → ShowsSameOutside InManifest s.shown t.shown → ForSome t.shown (λ image. manifest_in g image ≡ Ok (fresh g extents)) → IsFit n t → u ≡ synced t
    → (flags : List Bool) → u.unsynced ≡ Some flags → HasRegions g extents u
HasRegions-of g extents n s t u closed confined others named fit is flags told =
    let was = told_before t u flags is told in
    let image = fit.unsynced was.0 was.1 in
    let near = confined.now image.0 (reads_as n t fit image.0 was.0 image.1 was.1) in
    let earlier = near.was in
    let after = others.each earlier.shown earlier.shown_is in
    let same : after.0 ≡ image.0 = same_some t.shown after.0 image.0 after.1 image.1 in
    let kept : SameOutside InManifest earlier.shown image.0 = subst (λ (i : Image). SameOutside InManifest earlier.shown i) same after.2 in
    record {
      image = image.0;
      shown = ap (λ (x : State). x.shown) is ∙ image.1;
      gates = same_cleared g earlier.shown image.0 (λ k high. kept.others k (λ inside. omega (arith, inside.1))) (closed earlier.shown earlier.shown_is);
      manifest = named image.0 image.1;
    }

-- ---- the superblock

manifest_in-same : (g : Geometry) (old new : Image) → length new ≡ length old → ((n : ℕ) → 1 ≤ n → n < 868 → block_at new n ≡ block_at old n) → manifest_in g new ≡ manifest_in g old
unfolding manifest_in
manifest_in-same g old new size same =
    let area : selected (block_at new selector_block) ≡ selected (block_at old selector_block) = ap selected (same 1 (omega arith) (omega arith)) in
    ap (λ a. snapshot_in g new a >>= (λ (m : Manifest). Ok (record { geometry = g; area = a; manifest = m }))) area
    ∙ ap (λ (r : Result Manifest ℕ). r >>= (λ (m : Manifest). Ok (record { geometry = g; area = selected (block_at old selector_block); manifest = m })))
    (snapshot-local g old new (selected (block_at old selector_block)) size (λ n few. same (area_block (selected (block_at old selector_block)) + n) (omega arith) (omega arith)))

roomy-fits : (g : Geometry) (blocks : ℕ) → blocks_needed g 0 ≤ blocks → roomy blocks (Some g) ≡ Ok g
roomy-fits g blocks fits = rw (le-leb (blocks_needed g 0) blocks fits) refl

geometry_in-super : (g : Geometry) (image : Image) → IsTrue (is_geometry g) → block_at image 0 ≡ superblock g → blocks_needed g 0 ≤ length image → geometry_in image ≡ Ok g
unfolding geometry_in
geometry_in-super g image valid at room = ap (λ b. roomy (length image) (geometry_of b)) at ∙ ap (roomy (length image)) (geometry_of-superblock g valid) ∙ roomy-fits g (length image) room

-- an image with its superblock, the manifest of a fresh store and closed gates
record IsWhole (g : Geometry) (extents : ℕ) (image : Image) : Type 0 where
  named : manifest_of image ≡ Ok (fresh g extents)
  stands : Stands image nothing_yet

whole-of : (g : Geometry) (extents : ℕ) (image : Image) → IsTrue (is_geometry g) → 0 < length image → blocks_needed g extents ≤ length image → manifest_in g image ≡ Ok (fresh g extents) → IsCleared g 0 image → IsWhole g extents (set image 0 (superblock g))
whole-of g extents image valid some room named cleared =
    let new : Image = set image 0 (superblock g) in
    let size : length new ≡ length image = length-set image 0 (superblock g) in
    let others : (n : ℕ) → 1 ≤ n → block_at new n ≡ block_at image n = λ n high. let other : n ≢ 0 = omega arith in block_at-set_other image 0 n (superblock g) other in
    let manifest : manifest_of new ≡ Ok (fresh g extents) =
    geometry-manifest new g (Ok (fresh g extents)) (geometry_in-super g new valid (block_at-set_same image 0 (superblock g) some) (omega (arith, size, room))) (manifest_in-same g image new size (λ n high low. others n high) ∙ named) in
    let log = has_log-cleared g 0 0 new (same_cleared g image new (λ n high. others n (omega arith)) cleared) in
    record {
      named = manifest;
      stands = fresh-stands new (record { named = fresh g extents; groups = [] }) (opens new (fresh g extents) [] manifest log.read) refl refl refl;
    }

all_same : (inside : ℕ → Type 0) (a b : Image) → a ≡ b → SameOutside inside a b
all_same inside a b same = record { size = ap length (sym same); others = λ k out. ap (λ (i : Image). block_at i k) (sym same) }

-- the superblock is written last, and made sure
pub IsFresh-of : (g : Geometry) (extents n : ℕ) (s t : State) → IsTrue (is_geometry g) → 0 < n → blocks_needed g extents ≤ n → ((flags : List Bool) → s.unsynced ≡ Some flags → HasRegions g extents s) → IsFit n (written s 0 (superblock g)) → t ≡ synced (written s 0 (superblock g))
    → (flags : List Bool) → t.unsynced ≡ Some flags → IsFresh g extents t
IsFresh-of g extents n s t valid some room regions fit is flags told =
    let mid : State = written s 0 (superblock g) in
    let middle = told_before mid t flags is told in
    let first = option_map-Some (λ (f : List Bool). set f 0 true) s.unsynced middle.0 middle.1 in
    let made = regions first.0 first.1 in
    let image : Image = set made.image 0 (superblock g) in
    let shown : mid.shown ≡ Some image = ap (option_map (λ (i : Image). set i 0 (superblock g))) made.shown in
    let size : length made.image ≡ n = sym (length-set made.image 0 (superblock g)) ∙ (fit.shown image shown).size in
    let whole = whole-of g extents made.image valid (omega arith) (omega (arith, size, room)) made.manifest made.gates in
    let only : (left : Image) → MayLeave t left → image ≡ left = λ left may. same_some mid.shown image left shown (sync_only n mid fit left (subst (λ (x : State). MayLeave x left) is may)) in
    record {
      rest = record {
        image = image;
        shown = ap (λ (x : State). x.shown) is ∙ shown;
        tells = subst (λ (x : State). MayLeave x image) (sym is) (sync_shown n mid fit image middle.0 shown middle.1);
        each = λ left may. subst (λ (i : Image). Stands i nothing_yet) (only left may) whole.stands;
        named = fresh g extents;
        names = record { read = whole.named };
        agree = λ left may. all_same _ image left (only left may);
      };
      named = refl;
    }
