-- The filters of inner tables that are kept in memory, by extent.
use Rattle.std.specs.Prelude.{◌≡◌, ℕ, Bool, true, false, List, [], Option, Some, None, Ok, slice_index_or}
use Rattle.std.specs.Prelude.{if◌then◌else◌}
use Rattle.std.specs.List.{AllByRecursion, flat_map}
use Rattle.std.specs.Option.{option_map_or}
use Rattle.lt_terms.specs.Bytes.{Image, is_in}
use Rattle.lt_terms.specs.Hashes.{home_column}
use Rattle.lt_tables.specs.Filter.{covers}
use Rattle.lt_format.specs.declared.geometry.Geometry.{Geometry}
use Rattle.lt_format.specs.declared.node_id.NodeId.{NodeId}
use Rattle.lt_format.specs.Trie.{Node, Trie, is_last_level}
use Rattle.lt_image.specs.Versions.{Opened, open_image, extent_in}
use Rattle.lt_image.specs.Standing.{bad_blocks}

-- the filter that is kept of the table in an extent covers the key; where none is kept the table may hold it
abbrev pub may_hold : List (Option (List ℕ)) → List ℕ → ℕ → Bool
may_hold kept key x = option_map_or (λ page. covers page (home_column key) key) (slice_index_or kept x None) true

-- the filter block of the table in an extent is kept
abbrev pub KeepsFilter : Geometry → List (Option (List ℕ)) → Image → ℕ → Type 0
KeepsFilter g kept image x = slice_index_or kept x None ≡ Some (extent_in g image x 64)

-- the tables of a node that is not of the last level
abbrev pub inner_pile : ℕ → NodeId × Node → List ℕ
inner_pile levels e = if is_last_level levels e.0 then [] else e.1.tables

-- the tables of all inner nodes
abbrev pub inner_tables : ℕ → Trie → List ℕ
inner_tables levels trie = flat_map (inner_pile levels) trie

-- The image is sound, its manifest has this trie, and of each inner table the filter block is kept.
pub record IsSoundWith (g : Geometry) (kept : List (Option (List ℕ))) (image : Image) (trie : Trie) : Type 0 where
  pub opened : Opened
  pub opens : open_image image ≡ Ok opened
  pub sound : bad_blocks opened image ≡ []
  pub geometry : opened.named.geometry ≡ g
  pub trie_is : opened.named.manifest.trie ≡ trie
  pub filters : AllByRecursion (KeepsFilter g kept image) (inner_tables g.levels trie)

-- Exactly the filter blocks of these tables are kept.
pub record KeepsExactly (g : Geometry) (kept : List (Option (List ℕ))) (tables : List ℕ) (image : Image) : Type 0 where
  pub each : AllByRecursion (KeepsFilter g kept image) tables
  pub others : (x : ℕ) → is_in x tables ≡ false → slice_index_or kept x None ≡ None
