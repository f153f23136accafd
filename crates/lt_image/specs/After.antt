-- What stands between an image and the one after a change.
use Rattle.std.specs.Prelude.{◌≡◌, ℕ, ◌+◌, ◌*◌, ◌<◌, ◌≤◌, List, [], ◌++◌, length, take, slice_range, IsTrue}
use Rattle.std.specs.List.{AllByRecursion, AllZip, enumerate_from}
use Rattle.lt_terms.specs.Bytes.{Image, block_at}
use Rattle.lt_terms.specs.Items.{Item}
use Rattle.lt_tables.specs.Table.{newest, IsPlaced}
use Rattle.lt_tables.specs.Cut.{cut}
use Rattle.lt_tables.specs.Filter.{IsGroup}
use Rattle.lt_format.specs.declared.geometry.Geometry.{Geometry}
use Rattle.lt_format.specs.declared.node_id.NodeId.{NodeId}
use Rattle.lt_format.specs.Layout.{extent_blocks, log_gate}
use Rattle.lt_format.specs.Snapshot.{Named}
use Rattle.lt_format.specs.Trie.{node_at, named}
use Rattle.lt_format.specs.Changes.{Change, ChildChange, flush, deal, rewrite, fits, after_change}
use Rattle.lt_image.specs.Versions.{Opened, log_items, extent_in, pile_items, stored_items}
use Rattle.lt_image.specs.Shares.{Share, deal_shares, rewrite_share}
use Rattle.lt_image.specs.Standing.{filter_blocks}

-- the blocks of an extent are the same in both images
abbrev pub SameExtent : Geometry → Image → Image → ℕ → Type 0
SameExtent g old new x = (c : ℕ) → c < extent_blocks → extent_in g new x c ≡ extent_in g old x c

-- the blocks of each of the extents are the same in both images
abbrev pub SameExtents : Geometry → Image → Image → List ℕ → Type 0
SameExtents g old new extents = AllByRecursion (SameExtent g old new) extents

-- the manifest is that after a change, and the extents that were named are as before
pub record Follows (o p : Opened) (old new : Image) (change : Change) : Type 0 where
  pub geometry : p.named.geometry ≡ o.named.geometry
  pub trie : p.named.manifest.trie ≡ after_change o.named.manifest.trie change
  pub kept : SameExtents o.named.geometry old new (named o.named.manifest.trie)

-- the geometry, the manifest and the extents that it names are as before
pub record Keeps (o p : Opened) (old new : Image) : Type 0 where
  pub geometry : p.named.geometry ≡ o.named.geometry
  pub manifest : p.named.manifest ≡ o.named.manifest
  pub kept : SameExtents o.named.geometry old new (named o.named.manifest.trie)

-- the blocks of the log area and of the extents that a manifest names are the same in both images
pub record SameNamed (m : Named) (old new : Image) : Type 0 where
  pub log : (n : ℕ) → log_gate m.geometry m.manifest.header.log_area 0 ≤ n
      → n < log_gate m.geometry m.manifest.header.log_area m.geometry.slots → block_at new n ≡ block_at old n
  pub kept : SameExtents m.geometry old new (named m.manifest.trie)

-- each extent holds the table of one part
abbrev pub PlacedIn : Geometry → Image → List ℕ → List (List Item) → Type 0
PlacedIn g image tables parts = AllZip (λ x items. IsPlaced items (extent_in g image x)) tables parts

-- the log's newest items went into tables of the root, and the log is empty
pub record Flushes (o p : Opened) (old new : Image) (tables : List ℕ) : Type 0 where
  pub follows : Follows o p old new (flush tables)
  pub placed : PlacedIn o.named.geometry new tables (cut (newest (log_items o)))
  pub emptied : log_items p ≡ []
  pub few : length (stored_items p new) ≤ p.named.manifest.header.writes

-- the extent is that of group number j of a pile: the transpose of its tables' filter blocks
abbrev pub IsGroupAt : Geometry → Image → List ℕ → ℕ × ℕ → Type 0
IsGroupAt g image tables p =
    IsGroup (filter_blocks g image (slice_range tables (64 * p.0) (64 * p.0 + 64))) (extent_in g image p.1)

-- the node of a share gets it: its new tables are placed for the share's parts, and its new groups are those of the
-- pile that has the new tables behind the old ones
pub record Gets (g : Geometry) (image : Image) (c : ChildChange) (s : Share) : Type 0 where
  pub node : c.node ≡ s.node
  pub placed : PlacedIn g image c.tables s.parts
  pub grouped : AllByRecursion (IsGroupAt g image (s.behind ++ c.tables)) (enumerate_from c.kept_groups c.groups)

-- the children of a node got their shares of its oldest tables, which left its pile
pub record Deals (o p : Opened) (old new : Image) (id : NodeId) (dropped : ℕ)
    (children : List ChildChange) : Type 0 where
  pub follows : Follows o p old new (deal id dropped children)
  pub fit : IsTrue (fits o.named.geometry.levels o.named.manifest.trie (deal id dropped children))
  pub given : AllZip (Gets o.named.geometry new) children
      (deal_shares o.named.manifest.trie id
      (pile_items o.named.geometry old (take dropped (node_at o.named.manifest.trie id).tables)))
  pub log : log_items p ≡ log_items o
  pub writes : p.named.manifest.header.writes ≡ o.named.manifest.header.writes

-- a last-level node got its share of its pile, which it replaces
pub record Rewrites (o p : Opened) (old new : Image) (id : NodeId) (tables groups : List ℕ) : Type 0 where
  pub follows : Follows o p old new (rewrite id tables groups)
  pub fit : IsTrue (fits o.named.geometry.levels o.named.manifest.trie (rewrite id tables groups))
  pub given : Gets o.named.geometry new (record { node = id; tables = tables; kept_groups = 0; groups = groups })
      (rewrite_share id (pile_items o.named.geometry old (node_at o.named.manifest.trie id).tables))
  pub log : log_items p ≡ log_items o
  pub writes : p.named.manifest.header.writes ≡ o.named.manifest.header.writes
