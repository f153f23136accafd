-- What opening a store reads of an image, and where it may find damage.
use Rattle.std.specs.Prelude.{◌≡◌, ℕ, ◌+◌, ◌<◌, ◌≤◌, true, List, Option, Result, length, IsTrue, Ok}
use Rattle.std.specs.List.{list_all}
use Rattle.lt_terms.specs.Bytes.{Image}
use Rattle.lt_terms.specs.Items.{Item, is_valid}
use Rattle.lt_alloc.specs.Extents.{AreTaken}
use Rattle.lt_format.specs.declared.geometry.Geometry.{Geometry}
use Rattle.lt_format.specs.Layout.{is_geometry, extent_block}
use Rattle.lt_format.specs.Log.{log_fits, log_groups}
use Rattle.lt_format.specs.Snapshot.{Named}
use Rattle.lt_format.specs.Trie.{named}
use Rattle.lt_image.specs.Versions.{Opened, open_image, log_items, number_of}
use Rattle.lt_redo.specs.LogState.{LogState, idle_log}
use Rattle.lt_redo.specs.Opening.{HasItems}
use Rattle.lt_search.specs.Kept.{KeepsExactly}
use Rattle.lt_work.specs.Work.{at_rest}
use Rattle.lt_store.specs.Open.{StoreView, inner_of}

-- the log that a manifest names, with this many groups and nothing pending
abbrev pub log_at : Named → ℕ → LogState
log_at n slots = idle_log n.geometry n.manifest.header.log_area n.manifest.header.writes slots

-- The log is the one that a manifest names, with nothing pending; its items are valid and fit it, and each of its
-- groups has one.
pub record IsLogOf (n : Named) (log : LogState) (items : List Item) : Type 0 where
  pub is : log ≡ log_at n log.slots
  pub slots : log.slots ≤ n.geometry.slots
  pub enough : log.slots ≤ length items
  pub valid : IsTrue (list_all is_valid items)
  pub fits : IsTrue (log_fits n.manifest.header.writes items)

-- the groups of the log that a manifest names, or the first block of it that does not stand
abbrev pub groups_of : Named → Image → Result (List (List Item)) ℕ
groups_of n image = log_groups n.geometry image n.manifest.header.log_area n.manifest.header.writes

-- that log has so many groups on the image, of these items
abbrev pub HasItemsOf : Named → ℕ → List Item → Image → Type 0
HasItemsOf n slots items image =
    HasItems n.geometry n.manifest.header.log_area n.manifest.header.writes slots items image

-- The store is what the image opens as: its manifest, its log with nothing pending, the items of the log, the
-- extents that are named, and the filters of the inner tables; no work is under way.
pub record Reads (v : StoreView) (image : Image) : Type 0 where
  pub opened : Opened
  pub opens : open_image image ≡ Ok opened
  pub named_is : v.named ≡ opened.named
  pub log : v.log ≡ log_at opened.named (length opened.groups)
  pub memory : v.memory ≡ log_items opened
  pub writes : v.writes ≡ number_of opened
  pub taken_named : AreTaken opened.named.manifest.header.extents (named opened.named.manifest.trie) v.taken
  pub filters : KeepsExactly opened.named.geometry v.kept (inner_of opened.named) image
  pub work : v.work ≡ at_rest

-- the block lies below all extents of some geometry
pub record IsBelowExtents (block : ℕ) : Type 0 where
  pub geometry : Geometry
  pub valid : IsTrue (is_geometry geometry)
  pub below : block < extent_block geometry 0

-- A store of what was read: it is up, with this manifest and log, the items of the log in memory, the extents
-- that the manifest names taken, and these filters; no work is under way.
pub record Assembles (n : Named) (log : LogState) (items : List Item)
    (kept : List (Option (List ℕ))) (v : StoreView) : Type 0 where
  pub up : v.is_up ≡ true
  pub named_is : v.named ≡ n
  pub log_is : v.log ≡ log
  pub memory : v.memory ≡ items
  pub kept_is : v.kept ≡ kept
  pub writes : v.writes ≡ n.manifest.header.writes + length items
  pub taken_named : AreTaken n.manifest.header.extents (named n.manifest.trie) v.taken
  pub work_is : v.work ≡ at_rest
