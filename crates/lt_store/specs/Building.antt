-- Tables that are written into extents, and the filters of them that are kept.
use Rattle.std.specs.Prelude.{ℕ, ◌+◌, ◌<◌, ◌≤◌, List, Option, IsTrue}
use Rattle.lt_terms.specs.Bytes.{Image, is_in}
use Rattle.lt_terms.specs.Items.{Item}
use Rattle.lt_tables.specs.Table.{IsPlaced}
use Rattle.lt_format.specs.declared.geometry.Geometry.{Geometry}
use Rattle.lt_format.specs.Layout.{extent_block, extent_blocks}
use Rattle.lt_image.specs.Versions.{extent_in}
use Rattle.lt_search.specs.Kept.{KeepsFilter}

-- the block is one of these extents'
pub record InExtents (g : Geometry) (numbers : List ℕ) (n : ℕ) : Type 0 where
  pub number : ℕ
  pub among : IsTrue (is_in number numbers)
  pub from : extent_block g number ≤ n
  pub to : n < extent_block g number + extent_blocks

-- the extent holds the table of these items, and its filter block is kept
pub record HasTable (g : Geometry) (kept : List (Option (List ℕ))) (image : Image) (x : ℕ)
    (items : List Item) : Type 0 where
  pub placed : IsPlaced items (extent_in g image x)
  pub filter : KeepsFilter g kept image x
