-- A job: the deal of an inner node's oldest tables, or the rewriting of a last-level node's pile; how far
-- it has come, and what is true of it.
use Rattle.std.specs.Prelude.{◌≡◌, ℕ, ◌+◌, ◌≤◌, Bool, true, false, not, ◌&&◌, ◌||◌, List, [], length, take, Option}
use Rattle.std.specs.Prelude.{Some, None, nat_le, nat_lt, ◌==◌, if◌then◌else◌, IsTrue}
use Rattle.std.specs.Global.{Vec}
use Rattle.std.specs.List.{AllZip, flat_map, list_any}
use Rattle.lt_bucket.specs.declared.owned.Item as owned
use Rattle.lt_terms.specs.Bytes.{Image}
use Rattle.lt_terms.specs.Items.{Item}
use Rattle.lt_tables.specs.Table.{has_two_versions, is_put, newest}
use Rattle.lt_format.specs.declared.node_id.NodeId.{NodeId}
use Rattle.lt_format.specs.Changes.{Change, are_new}
use Rattle.lt_format.specs.Snapshot.{Named}
use Rattle.lt_format.specs.Trie.{IsTrie, Trie, is_last_level, named, node_at}
use Rattle.lt_image.specs.After.{SameExtents}
use Rattle.lt_image.specs.Shares.{Share, needed, shares_of}
use Rattle.lt_image.specs.Versions.{pile_items}
use Rattle.lt_compact.specs.Plans.{Holds, all_contents, are_shared, change_for, extents_for}

-- versions that a rewriting drops some of: a delete, or two versions of one key
abbrev pub is_loose : List Item → Bool
is_loose items = list_any (λ v. not (is_put v)) items || has_two_versions items

-- the items of lists, one list behind another
abbrev pub all_items : List (Vec owned.Item) → List Item
all_items lists = flat_map (λ (list : Vec owned.Item). list.items) lists

-- what a job found in the tables that it scanned: how many these are, the newest of each key among their
-- items, and whether these are loose
pub record FoundView : Type 0 where
  pub scanned : ℕ
  pub kept : List Item
  pub loose : Bool

-- what lists of items stand for, of which older versions and deletes may be gone where `loose` tells that
-- there were some
abbrev pub found_in : ℕ → List Item → Bool → FoundView
found_in scanned items loose =
    record { scanned = scanned; kept = newest items; loose = loose || is_loose items }

-- A job scans its tables, the oldest first: it keeps how many it scanned, the newest of each key among
-- their items, and whether these are loose. Then it plans, and then it takes its extents and fills them one
-- after another.
pub data Stage : Type 0 where
  scanning : ℕ → List Item → Bool → Stage
  planned : List Share → Stage
  filling : List Share → List ℕ → ℕ → Stage

-- a job in flight, in a trie with so many levels: its node, the tables that it deals or rewrites, and how
-- far it has come
pub record JobView : Type 0 where
  pub levels : ℕ
  pub node : NodeId
  pub sources : List ℕ
  pub stage : Stage

-- a job at a node's pile as it is, with nothing scanned
abbrev pub begun : ℕ → Trie → NodeId → JobView
begun levels trie id = record {
  levels = levels;
  node = id;
  sources = (node_at trie id).tables;
  stage =
      scanning 0 [] false;
}

-- the extents that a stage has reserved
abbrev pub taken_in : Stage → List ℕ
taken_in (scanning n kept loose) = []
taken_in (planned shares) = []
taken_in (filling shares numbers filled) = numbers

-- all extents of a stage are filled
abbrev pub is_filled : Stage → Bool
is_filled (scanning n kept loose) = false
is_filled (planned shares) = false
is_filled (filling shares numbers filled) = filled == length numbers

-- the change of a stage whose extents are taken
abbrev pub change_in : ℕ → NodeId → List ℕ → Stage → Option Change
change_in levels id sources (scanning n kept loose) = None
change_in levels id sources (planned shares) = None
change_in levels id sources (filling shares numbers filled) =
    Some (change_for levels id (length sources) shares numbers)

-- whatever a device tells: what was scanned, shared out and filled has the shape that the trie wants
abbrev pub is_shaped_stage : ℕ → Trie → NodeId → List ℕ → Stage → Bool
is_shaped_stage levels trie id sources (scanning n kept loose) = nat_le n (length sources)
is_shaped_stage levels trie id sources (planned shares) = are_shared levels trie id shares
is_shaped_stage levels trie id sources (filling shares numbers filled) = are_shared levels trie id shares
    && length numbers == extents_for levels shares && nat_le filled (length numbers)

-- The job's tables are the oldest of its node's pile, at the last level all of them, and its stage has the
-- shape that the trie wants.
pub record IsShaped (levels : ℕ) (trie : Trie) (j : JobView) : Type 0 where
  pub same : j.levels ≡ levels
  pub some : 1 ≤ length j.sources
  pub oldest : take (length j.sources) (node_at trie j.node).tables ≡ j.sources
  pub whole : is_last_level levels j.node ≡ true → length (node_at trie j.node).tables ≡ length j.sources
  pub stage : IsTrue (is_shaped_stage levels trie j.node j.sources j.stage)

-- On an image: what was kept is the newest of the items of the tables that were scanned, and these are
-- loose as was told; the shares are those of the items of all tables; and the extents that were filled hold
-- what they are to hold.
abbrev pub KeepsStage : Named → Image → NodeId → List ℕ → Stage → Type 0
KeepsStage m image id sources (scanning n kept loose) =
    (kept ≡ newest (pile_items m.geometry image (take n sources)))
    × (loose ≡ is_loose (pile_items m.geometry image (take n sources)))
KeepsStage m image id sources (planned shares) =
    shares ≡ shares_of m.geometry.levels m.manifest.trie id (pile_items m.geometry image sources)
KeepsStage m image id sources (filling shares numbers filled) =
    (shares ≡ shares_of m.geometry.levels m.manifest.trie id (pile_items m.geometry image sources))
    × AllZip (Holds m.geometry image) (take filled numbers)
    (take filled (all_contents m.geometry.levels shares numbers))

-- on an image what a job tells is true
abbrev pub KeepsJob : Named → Image → JobView → Type 0
KeepsJob m image j = KeepsStage m image j.node j.sources j.stage

-- the change of a ready job
abbrev pub change_of : JobView → Option Change
change_of j = if is_filled j.stage then change_in j.levels j.node j.sources j.stage else None

-- a job's tables are the whole pile that its node has in the trie
abbrev pub is_whole : Trie → JobView → Bool
is_whole trie j = length j.sources == length (node_at trie j.node).tables

-- whether a last-level node with these newest items has slack: its versions are loose, or a rewriting needs fewer
-- extents than the node has
abbrev pub is_told_slack : ℕ → Trie → NodeId → List Item → Bool → Bool
is_told_slack levels trie id kept loose =
    let node = node_at trie id in
    is_last_level levels id && (loose || nat_lt (needed levels trie id kept) (length node.tables + length node.groups))

-- on an image a job has the shape that the trie wants, and what it tells is true
pub record HoldsOn (m : Named) (image : Image) (j : JobView) : Type 0 where
  pub shaped : IsShaped m.geometry.levels m.manifest.trie j
  pub keeps : KeepsJob m image j

-- a ready job of a trie, whose extents are new there, with its change
pub record IsReady (levels extents : ℕ) (trie : Trie) (j : JobView) (change : Change) : Type 0 where
  pub trie_is : IsTrie levels extents trie
  pub shaped : IsShaped levels trie j
  pub change_is : change_of j ≡ Some change
  pub new : IsTrue (are_new 65536 trie (taken_in j.stage))

-- the extents that the trie names, and those that the job reserved, are as before
pub record Spares (m : Named) (old new : Image) (j : JobView) : Type 0 where
  pub of_trie : SameExtents m.geometry old new (named m.manifest.trie)
  pub of_job : SameExtents m.geometry old new (taken_in j.stage)

-- on an image a job at a node's whole pile has scanned all of it, and found so much
pub record HasScanned (m : Named) (image : Image) (j : JobView) (kept : List Item) (loose : Bool) : Type 0 where
  pub holds : HoldsOn m image j
  pub whole : length j.sources ≡ length (node_at m.manifest.trie j.node).tables
  pub stage : j.stage ≡ scanning (length j.sources) kept loose
