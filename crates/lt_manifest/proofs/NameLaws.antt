-- What a change of blocks makes of the manifest that an image names.
use Rattle.std.proofs.Common.{◌≡◌, ℕ, ◌+◌, ◌<◌, refl, sym, ap, ◌∙◌, true, length, Ok, arith}
use Rattle.lt_terms.specs.Bytes.{Image, block_at}
use Rattle.lt_device.specs.State.{SameOutside}
use Rattle.lt_format.specs.declared.geometry.Geometry.{Geometry}
use Rattle.lt_format.specs.Layout.{is_geometry, area_block, selected, selector_block, geometry_of}
use Rattle.lt_format.specs.Snapshot.{Manifest, snapshot_in, IsManifest, pages_of, snapshot_page, Named, geometry_in, manifest_in, manifest_of, roomy}
use Rattle.lt_format.proofs.SnapshotReadLaws.{pages-read}
use Rattle.lt_format.specs.Snapshot.{Names}
use Rattle.lt_manifest.specs.Written.{InArea}
use Rattle.lt_format.proofs.ReadLaws.{bind_ok, ok_same}
use Rattle.lt_format.proofs.LocalLaws.{snapshot-local}

-- what an image that names a manifest says
record NameParts (named : Named) (image : Image) : Type 0 where
  pub geometry : geometry_in image ≡ Ok named.geometry
  pub area : selected (block_at image selector_block) ≡ named.area
  pub manifest : snapshot_in named.geometry image named.area ≡ Ok named.manifest

name_parts : (named : Named) (image : Image) → Names named image → NameParts named image
unfolding manifest_of manifest_in
name_parts named image names =
    let geometry = bind_ok (geometry_in image) (λ g. manifest_in g image) named names.read in
    let manifest = bind_ok (snapshot_in geometry.0 image (selected (block_at image selector_block))) _ named geometry.2 in
    let is : record { geometry = geometry.0; area = selected (block_at image selector_block); manifest = manifest.0 } ≡ named = ok_same _ named manifest.2 in
    let g_is : geometry.0 ≡ named.geometry = ap (λ (n : Named). n.geometry) is in
    let a_is : selected (block_at image selector_block) ≡ named.area = ap (λ (n : Named). n.area) is in
    let m_is : manifest.0 ≡ named.manifest = ap (λ (n : Named). n.manifest) is in
    record {
      geometry = geometry.1 ∙ ap (λ (g : Geometry). Ok g) g_is;
      area = a_is;
      manifest = (λ i. snapshot_in (sym g_is i) image (sym a_is i)) ∙ manifest.1 ∙ ap (λ (m : Manifest). Ok m) m_is;
    }

from_parts : (named : Named) (image : Image) → NameParts named image → Names named image
unfolding manifest_of manifest_in
from_parts named image p =
    let area : selected (block_at image selector_block) ≡ named.area = p.area in
    record { read = rw (p.geometry, area, p.manifest) refl }

-- the superblock alone says the geometry
geometry_in-same : (image left : Image) → length left ≡ length image → block_at left 0 ≡ block_at image 0 → geometry_in left ≡ geometry_in image
unfolding geometry_in
geometry_in-same image left size same = λ i. roomy (size i) (geometry_of (same i))

-- it names the same after a change of the area that is not current
pub names-other : (named : Named) (other : ℕ) (image left : Image) → named.area < 2 → named.area + other ≡ 1 → SameOutside (InArea other) image left → Names named image → Names named left
names-other named other image left area turn same names =
    let p = name_parts named image names in
    from_parts named left (record {
      geometry = geometry_in-same image left same.size (same.others 0 (λ inside. absurd (omega (arith, inside.0)))) ∙ p.geometry;
      area = ap selected (same.others 1 (λ inside. absurd (omega (arith, inside.0)))) ∙ p.area;
      manifest = snapshot-local named.geometry image left named.area same.size (λ n low. same.others (area_block named.area + n) (λ inside. absurd (omega (arith, inside.0, inside.1)))) ∙ p.manifest;
    })

-- it names the same after a change of the selector that selects the same area
pub names-selector : (named : Named) (image left : Image) → SameOutside (λ k. k ≡ 1) image left → selected (block_at left selector_block) ≡ named.area → Names named image → Names named left
names-selector named image left same area names =
    let p = name_parts named image names in
    from_parts named left (record {
      geometry = geometry_in-same image left same.size (same.others 0 (λ at. absurd (omega arith))) ∙ p.geometry;
      area = area;
      manifest = snapshot-local named.geometry image left named.area same.size (λ n low. same.others (area_block named.area + n) (λ at. absurd (omega arith))) ∙ p.manifest;
    })

-- it names the manifest whose pages lie in the area that is selected
pub names-new : (old : Named) (image left : Image) (area : ℕ) (m : Manifest) → Names old image → length left ≡ length image → block_at left 0 ≡ block_at image 0 → is_geometry old.geometry ≡ true → IsManifest old.geometry (length left) m → selected (block_at left selector_block) ≡ area
    → ((k : ℕ) → k < pages_of m → block_at left (area_block area + k) ≡ snapshot_page m k) → Names (record { geometry = old.geometry; area = area; manifest = m }) left
names-new old image left area m names size same valid is_manifest at pages =
    let p = name_parts old image names in
    from_parts (record { geometry = old.geometry; area = area; manifest = m }) left (record {
      geometry = geometry_in-same image left size same ∙ p.geometry;
      area = at;
      manifest = pages-read old.geometry left area m valid is_manifest pages;
    })
