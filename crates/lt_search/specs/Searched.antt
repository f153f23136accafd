-- A search of some tables, as a device tells its blocks, and how it ends.
use Rattle.std.specs.Prelude.{ℕ, ◌+◌, ◌≤◌, Bool, List, Option, Result, IfOk, IsErrOf}
use Rattle.std.specs.List.{AllByRecursion}
use Rattle.std.specs.Option.{ForSome}
use Rattle.lt_terms.specs.Bytes.{Image}
use Rattle.lt_terms.specs.Items.{Item}
use Rattle.lt_device.specs.Reads.{CountsAtMost}
use Rattle.lt_format.specs.declared.geometry.Geometry.{Geometry}
use Rattle.lt_format.specs.Layout.{extent_block}
use Rattle.lt_format.specs.Trie.{Trie}
use Rattle.lt_htable.specs.Reading.{IsNoBucket}
use Rattle.lt_htable.specs.declared.faults.LookFault.{LookFault}
use Rattle.lt_htable.specs.declared.faults.LookFault.TheVariants.{Damaged}
use Rattle.lt_image.specs.Versions.{Stop, stops}
use Rattle.lt_search.specs.declared.version.Version.{Version}
use Rattle.lt_search.specs.Asking.{is_asked}
use Rattle.lt_search.specs.Found.{KeepsUnless, value_len}
use Rattle.lt_search.specs.Reads.{path_reads}
use Rattle.lt_search.specs.Seen.{IsSeen, met_along, seen_along}

-- the blocks of these extents lie on a device of so many blocks
abbrev pub AreWithin : Geometry → ℕ → List ℕ → Type 0
AreWithin g blocks extents = AllByRecursion (λ x. extent_block g x + 65 ≤ blocks) extents

-- what is seen of a key in the tables on its path, with these filters kept in memory
abbrev pub seen_on_path : Geometry → List (Option (List ℕ)) → Image → Trie → List ℕ → Result (Option Item) LookFault
seen_on_path g kept image trie key = seen_along (is_asked g kept image trie key) g image key (stops g.levels trie key)

-- how many blocks a search of a key's path reads, with these filters kept in memory: those of the tables that it meets
abbrev pub reads_on_path : Geometry → List (Option (List ℕ)) → Image → Trie → List ℕ → ℕ
reads_on_path g kept image trie key =
    let asks = is_asked g kept image trie key in
    path_reads asks g image key (met_along asks g image key (stops g.levels trie key))

-- The answer is what is seen in these tables, and the count of reads rose by no more than what is read of those
-- that the search meets.
pub record Searched (asks : Stop → Bool) (cost : (Stop → Bool) → Geometry → Image → List ℕ → List Stop → ℕ)
    (g : Geometry) (image : Image) (key : List ℕ) (ss : List Stop) (result : Result (Option Version) LookFault)
    (old new : List ℕ) (before now : ℕ) : Type 0 where
  pub seen : IsSeen (seen_along asks g image key ss) result old new
  pub reads : CountsAtMost (cost asks g image key (met_along asks g image key ss)) before now

-- A search ends with a value of at most 3,000 bytes or with none, and changes no byte of the page behind that value.
-- A damaged block is one of those that may be asked, and on what the device reads as it spells no bucket.
pub record EndsSearch (IsAsked : ℕ → Type 0) (shown : Option Image) (result : Result (Option Version) LookFault)
    (old new : List ℕ) : Type 0 where
  pub short : IfOk result (λ version. ForSome (value_len version) (λ n. n ≤ 3000))
  pub page : KeepsUnless result old new
  pub damaged : (b : ℕ) → IsErrOf result (Damaged b) → IsNoBucket shown b
  pub damaged_block : (b : ℕ) → IsErrOf result (Damaged b) → IsAsked b
