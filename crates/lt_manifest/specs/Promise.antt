-- What a manifest in memory is, where a damage of it may lie, and what the images of a commit name, at each moment
-- and at its end.
use Rattle.lt_format.specs.Snapshot.{Names}
use Rattle.std.specs.Prelude.{◌≡◌, ℕ, ◌+◌, ◌<◌, ◌≤◌, ◌^◌, IsTrue, ◌⊎◌, Some}
use Rattle.lt_format.specs.declared.geometry.Geometry.{Geometry}
use Rattle.lt_format.specs.Layout.{is_geometry, area_block, snapshot_blocks}
use Rattle.lt_format.specs.declared.header.Header.{Header}
use Rattle.lt_format.specs.Trie.{Trie, IsTrie}
use Rattle.lt_format.specs.Snapshot.{IsManifest, Manifest, Named, InManifest}
use Rattle.lt_node.specs.View.{TrieView}
use Rattle.lt_terms.specs.Bytes.{Image}
use Rattle.lt_device.specs.Moments.{Leaves, MayOnlyLeave}
use Rattle.lt_device.specs.State.{SameOutside, State}

-- what the fields of a manifest in memory name
abbrev pub named_by : Geometry → ℕ → Header → Trie → Named
named_by g area header trie = record { geometry = g; area = area; manifest = record { header = header; trie = trie } }

-- what a manifest in memory keeps, whatever the size of its device
pub record IsKept (named : Named) : Type 0 where
  pub geometry : IsTrue (is_geometry named.geometry)
  pub area : named.area < 2
  pub log_area : named.manifest.header.log_area < 2
  pub least : 1 ≤ named.manifest.header.extents
  pub most : named.manifest.header.extents ≤ 65536
  pub writes : named.manifest.header.writes < 2 ^ 64
  pub trie : IsTrie named.geometry.levels named.manifest.header.extents named.manifest.trie

-- what the fields of a manifest in memory keep
pub record IsHeld (g : Geometry) (area : ℕ) (header : Header) (trie : TrieView) : Type 0 where
  pub kept : IsKept (named_by g area header trie.nodes)
  pub levels : trie.levels ≡ g.levels

-- what was opened is a manifest of this geometry that a device of so many blocks has room for
pub record IsOpened (g : Geometry) (blocks : ℕ) (named : Named) : Type 0 where
  pub geometry : named.geometry ≡ g
  pub area : named.area < 2
  pub manifest : IsManifest g blocks named.manifest

-- the block is one of an area's snapshot
pub record InSnapshot (block : ℕ) : Type 0 where
  pub area : ℕ
  pub area_is : area < 2
  pub first : area_block area ≤ block
  pub last : block < area_block area + snapshot_blocks

-- the image names the new manifest, and agrees outside the manifest's blocks with what the device showed
pub record HasNew (named : Named) (shown left : Image) : Type 0 where
  pub names : Names named left
  pub same : SameOutside InManifest shown left

-- the image names the manifest as it was, or the new one, which came after all that the device showed was sure
pub record HasOldOrNew (old : Named) (new : Manifest) (shown left : Image) : Type 0 where
  pub either : Names old left ⊎ ((area : ℕ)
      × HasNew (record { geometry = old.geometry; area = area; manifest = new }) shown left)

-- each image since the old state names the manifest as it was there, or this new one
abbrev pub AnyMoment : Named → Manifest → State → State → Type 0
AnyMoment named next old new = (shown : Image) → old.shown ≡ Some shown → MayOnlyLeave (Names named) old
    → Leaves (HasOldOrNew named next shown) old new

-- each image of the new state names the new manifest, where each of the old state named the old one
abbrev pub Committed : Named → Named → State → State → Type 0
Committed was is old new = (shown : Image) → old.shown ≡ Some shown → MayOnlyLeave (Names was) old
    → MayOnlyLeave (HasNew is shown) new
