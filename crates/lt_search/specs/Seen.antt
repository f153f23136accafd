-- What a search sees of a key on any blocks, sound or not, and where it may find damage.
use Rattle.std.specs.Prelude.{◌≡◌, ℕ, ◌+◌, ◌<◌, Bool, true, false, List, [], ◌∷◌, map, reverse, Option, None}
use Rattle.std.specs.Prelude.{Result, Ok, Err, IsTrue, if◌then◌else◌, ◌/◌, ◌%◌, slice_index}
use Rattle.std.specs.List.{enumerate_from}
use Rattle.std.specs.Option.{option_and_then}
use Rattle.lt_terms.specs.Bytes.{Image, block_at, is_in}
use Rattle.lt_terms.specs.Hashes.{home_column}
use Rattle.lt_terms.specs.Items.{Item}
use Rattle.lt_tables.specs.Bucket.{look_on}
use Rattle.lt_tables.specs.Filter.{covers}
use Rattle.lt_format.specs.declared.geometry.Geometry.{Geometry}
use Rattle.lt_format.specs.declared.node_id.NodeId.{NodeId}
use Rattle.lt_format.specs.Layout.{extent_block}
use Rattle.lt_format.specs.Trie.{Trie, is_last_level, node_at, path}
use Rattle.lt_htable.specs.declared.faults.LookFault.{LookFault}
use Rattle.lt_htable.specs.declared.faults.LookFault.TheVariants.{Device, Damaged}
use Rattle.lt_htable.specs.Reading.{at_home, target_of}
use Rattle.lt_image.specs.Bound.{up_to_first}
use Rattle.lt_image.specs.Versions.{Stop, extent_in, is_covered}
use Rattle.lt_search.specs.declared.version.Version.{Version}
use Rattle.lt_search.specs.Found.{IsAnswer}

-- these tables of a pile as stops, the first of them at this place, the newest first
abbrev pub pile_stops : NodeId → ℕ → List ℕ → List Stop
pile_stops id from tables =
    reverse (map (λ (p : ℕ × ℕ). record { node = id; index = p.0; extent = p.1 }) (enumerate_from from tables))

-- what the page of a key's home bucket, and where it sends the key that of the target, answer on it; the
-- block, where such a page spells no bucket
abbrev pub seen_in : Image → ℕ → List ℕ → Result (Option Item) LookFault
seen_in image first key =
    let home = look_on (block_at image (first + home_column key)) key in
    at_home first (home_column key) home
    (option_and_then (λ column. look_on (block_at image (first + column)) key) (target_of home))

-- the newer answer, where it is an item or a block; else the older one
abbrev pub before_older : Result (Option Item) LookFault → Result (Option Item) LookFault
    → Result (Option Item) LookFault
before_older (Ok None) older = older
before_older newer older = newer

-- what is seen of a key in one table: nothing where the filter that is asked does not cover it
abbrev pub seen_at : (Stop → Bool) → Geometry → Image → List ℕ → Stop → Result (Option Item) LookFault
seen_at asks g image key s = if asks s then seen_in image (extent_block g s.extent) key else Ok None

-- what is seen of a key in these tables, the newest first: the first that has an item of it decides, or whose page
-- spells no bucket
abbrev pub seen_along : (Stop → Bool) → Geometry → Image → List ℕ → List Stop → Result (Option Item) LookFault
seen_along asks g image key [] = Ok None
seen_along asks g image key (s ∷ ss) = before_older (seen_at asks g image key s) (seen_along asks g image key ss)

-- an item or a block was seen
abbrev pub is_told : Result (Option Item) LookFault → Bool
is_told (Ok None) = false
is_told seen = true

-- the tables that a search meets: up to the first that has an item of the key, or whose page spells no bucket
abbrev pub met_along : (Stop → Bool) → Geometry → Image → List ℕ → List Stop → List Stop
met_along asks g image key ss = up_to_first (λ s. is_told (seen_at asks g image key s)) ss

-- the answer is this fault, or that the device failed
abbrev pub IsFaultOf : {T : Type 0} → LookFault → Result T LookFault → Type 0
IsFaultOf fault (Ok found) = ⊥
IsFaultOf fault (Err Device) = Unit {0}
IsFaultOf fault (Err (Damaged block)) = fault ≡ Damaged block

-- this is what was found, where a key is seen so
abbrev pub IsSeen : Result (Option Item) LookFault → Result (Option Version) LookFault → List ℕ → List ℕ → Type 0
IsSeen (Ok item) answer old new = IsAnswer item answer old new
IsSeen (Err fault) answer old new = IsFaultOf fault answer

-- the block is that of a bucket of one of these extents
pub record IsBucketOf (g : Geometry) (numbers : List ℕ) (block : ℕ) : Type 0 where
  pub number : ℕ
  pub among : IsTrue (is_in number numbers)
  pub column : ℕ
  pub within : column < 64
  pub is : block ≡ extent_block g number + column

-- the block is that of a bucket of a table on the key's path
pub record IsBucketOnPath (g : Geometry) (trie : Trie) (key : List ℕ) (block : ℕ) : Type 0 where
  pub level : ℕ
  pub deep : level < g.levels
  pub bucket : IsBucketOf g (node_at trie (path key level)).tables block

-- the 64 bytes of a table cover the key, in the block of the key's column in its group
abbrev pub asks_group : Geometry → List ℕ → Image → List ℕ → Stop → Bool
asks_group g groups image key s =
    covers (extent_in g image (slice_index groups (s.index / 64)) (home_column key)) (s.index % 64) key

-- on an image as it opens, a table above the last level is asked where its own filter block covers the key, and one
-- of the last level where its filter in the group's block does
abbrev pub is_asked_on : Geometry → Image → Trie → List ℕ → Stop → Bool
is_asked_on g image trie key s =
    if is_last_level g.levels s.node then asks_group g (node_at trie s.node).groups image key s
    else is_covered g image key s
