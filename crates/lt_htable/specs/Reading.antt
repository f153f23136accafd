-- What a call sees of an extent: pages that are the device's blocks, where the device tells them.
use Rattle.std.specs.Prelude.{◌≡◌, ℕ, ◌+◌, ◌<◌, List, Option, Some, None, Result, Ok, Err, IsTrue, is_some}
use Rattle.std.specs.Option.{ForSome, option_map}
use Rattle.lt_terms.specs.Bytes.{Image, block_at}
use Rattle.lt_terms.specs.Items.{Item}
use Rattle.lt_terms.specs.Hashes.{home_column}
use Rattle.lt_item.specs.declared.view.ItemView.{ItemView}
use Rattle.lt_item.specs.Views.{item_of}
use Rattle.lt_tables.specs.Bucket.{Look, here, moved, absent, bucket_of, look_on}
use Rattle.lt_tables.specs.Table.{table_items}
use Rattle.lt_htable.specs.declared.faults.LookFault.{LookFault}
use Rattle.lt_htable.specs.declared.faults.LookFault.TheVariants.{Device, Damaged}

-- the page is what the device reads as there, where it tells that
abbrev pub IsRead : Option Image → ℕ → List ℕ → Type 0
IsRead shown block page = ForSome shown (λ image. page ≡ block_at image block)

-- a block whose page, as it was read, spells no bucket
pub record IsNoBucket (shown : Option Image) (block : ℕ) : Type 0 where
  pub page : List ℕ
  pub read : IsRead shown block page
  pub spells_none : bucket_of page ≡ None

-- what a bucket's page answers on a key that can be in no other bucket
abbrev pub at_last : ℕ → Option Look → Result (Option Item) LookFault
at_last block None = Err (Damaged block)
at_last block (Some (here item)) = Ok (Some item)
at_last block (Some (moved column)) = Ok None
at_last block (Some absent) = Ok None

-- what the home bucket answers on a key, and after it the second, where the first says that the key was sent there
abbrev pub at_home : ℕ → ℕ → Option Look → Option Look → Result (Option Item) LookFault
at_home first home None second = Err (Damaged (first + home))
at_home first home (Some (here item)) second = Ok (Some item)
at_home first home (Some (moved column)) second = at_last (first + column) second
at_home first home (Some absent) second = Ok None

-- this is what the pages of the home bucket and, where that sends the key, of the target answer on it
pub record IsLookedUp (shown : Option Image) (first : ℕ) (key : List ℕ) (answer : Result (Option Item) LookFault)
    : Type 0 where
  pub home : List ℕ
  pub target : List ℕ
  pub home_read : IsRead shown (first + home_column key) home
  pub target_read : (column : ℕ) → look_on home key ≡ Some (moved column) → IsRead shown (first + column) target
  pub is : answer ≡ at_home first (home_column key) (look_on home key) (look_on target key)

-- a look-up answered so, with the item borrowed; of a device that failed nothing is said
abbrev pub AnswersLook : Option Image → ℕ → List ℕ → Result (Option ItemView) LookFault → Type 0
AnswersLook shown first key (Ok found) = IsLookedUp shown first key (Ok (option_map item_of found))
AnswersLook shown first key (Err Device) = Unit {0}
AnswersLook shown first key (Err (Damaged block)) = IsLookedUp shown first key (Err (Damaged block))

-- where a key was sent
abbrev pub target_of : Option Look → Option ℕ
target_of None = None
target_of (Some (here item)) = None
target_of (Some (moved column)) = Some column
target_of (Some absent) = None

-- the block and the page of the home bucket, or of the target
abbrev pub IsBlockOf : Option Image → ℕ → ℕ → List ℕ → Option ℕ → ℕ → List ℕ → Type 0
IsBlockOf shown first column home None block page = (block ≡ first + column) × (page ≡ home)
IsBlockOf shown first column home (Some target) block page =
    (block ≡ first + target) × IsRead shown (first + target) page

-- the bucket that answers on a key was read from this block: the home's, or the target's
pub record IsSought (shown : Option Image) (first : ℕ) (key : List ℕ) (block : ℕ) (page : List ℕ) : Type 0 where
  pub home : List ℕ
  pub home_read : IsRead shown (first + home_column key) home
  pub is : IsBlockOf shown first (home_column key) home (target_of (look_on home key)) block page

-- all items of the 64 buckets, each of them spelled, as their pages were read
pub record IsScanned (shown : Option Image) (first : ℕ) (items : List Item) : Type 0 where
  pub block : ℕ → List ℕ
  pub read : (c : ℕ) → c < 64 → IsRead shown (first + c) (block c)
  pub spelled : (c : ℕ) → c < 64 → IsTrue (is_some (bucket_of (block c)))
  pub is : items ≡ table_items block
