-- What a reader must believe of the store: devices at rest, devices without a store and with a fresh one, blocks that
-- do not stand, and which replies a command may have.
use Rattle.std.specs.Prelude.{◌≡◌, ◌≢◌, ℕ, ◌+◌, ◌<◌, List, Option, Some, None, Err, IsTrue, Result, Ok}
use Rattle.std.specs.Option.{ForSome}
use Rattle.lt_terms.specs.Bytes.{Image, block_at, zero_block, is_in}
use Rattle.lt_device.specs.State as told
use Rattle.lt_device.specs.State.{SameOutside}
use Rattle.lt_device.specs.Moments.{MayLeave}
use Rattle.lt_language.specs.Commands as commands
use Rattle.lt_language.specs.Commands.{Command}
use Rattle.lt_language.specs.Machine.{State, nothing_yet, found}
use Rattle.lt_language.specs.Replies as replies
use Rattle.lt_language.specs.Replies.{Reply}
use Rattle.lt_tables.specs.Bucket.{bucket_of}
use Rattle.lt_format.specs.declared.geometry.Geometry.{Geometry}
use Rattle.lt_format.specs.Layout.{extent_block}
use Rattle.lt_format.specs.Snapshot.{Named}
use Rattle.lt_format.specs.Trie.{node_at, path}
use Rattle.lt_format.specs.Snapshot.{Names, fresh}
use Rattle.lt_image.specs.Versions.{open_image, Opened, log_items, stops}
use Rattle.lt_image.specs.Standing.{Stands, is_free_block}
use Rattle.lt_terms.specs.Items.{Item}
use Rattle.lt_tables.specs.Table.{newest_of, value_of}
use Rattle.lt_htable.specs.declared.faults.LookFault.{LookFault}
use Rattle.lt_search.specs.Seen.{is_asked_on}
use Rattle.lt_search.specs.Seen.{before_older, seen_along}

-- A device that tells its blocks and what a crash may leave: each image that it may leave stands for this
-- state, and they are what the device reads as but for blocks of extents that the manifest does not name.
pub record AtRest (s : State) (device : told.State) : Type 0 where
  pub image : Image
  pub shown : device.shown ≡ Some image
  pub tells : MayLeave device image
  pub each : (left : Image) → MayLeave device left → Stands left s
  pub named : Named
  pub names : Names named image
  pub agree : (left : Image) → MayLeave device left → SameOutside (λ n. IsTrue (is_free_block named n)) image left

-- where the device tells what it reads, nothing stands on block 0
abbrev pub IsVacant : told.State → Type 0
IsVacant device = ForSome device.shown (λ image. block_at image 0 ≡ zero_block)

-- where the device tells what it reads, something stands on block 0
abbrev pub IsOccupied : told.State → Type 0
IsOccupied device = ForSome device.shown (λ image. block_at image 0 ≢ zero_block)

-- the device is at rest for the empty map and no writes, with the manifest of a fresh store
pub record IsFresh (g : Geometry) (extents : ℕ) (device : told.State) : Type 0 where
  pub rest : AtRest nothing_yet device
  pub named : rest.named ≡ fresh g extents

-- opening what the device reads as stops at this block
abbrev pub StopsOpening : told.State → ℕ → Type 0
StopsOpening device b = ForSome device.shown (λ image. open_image image ≡ Err b)

-- A get of the key stops at this block: it is the block of a bucket of a table that the manifest names on the
-- key's path, and where the device tells what it reads, the page there spells no bucket.
pub record StopsGet (named : Named) (shown : Option Image) (key : List ℕ) (block : ℕ) : Type 0 where
  pub level : ℕ
  pub deep : level < named.geometry.levels
  pub extent : ℕ
  pub on_path : IsTrue (is_in extent (node_at named.manifest.trie (path key level)).tables)
  pub within : extent < named.manifest.header.extents
  pub column : ℕ
  pub in_buckets : column < 64
  pub is : block ≡ extent_block named.geometry extent + column
  pub damaged : ForSome shown (λ image. bucket_of (block_at image block) ≡ None)

-- a reply to a put or a delete: it was taken, too few extents are free, or the number of writes is at its limit
abbrev pub IsWriteReply : Reply → Type 0
IsWriteReply replies.ok = Unit {0}
IsWriteReply (replies.full needed free) = Unit {0}
IsWriteReply replies.limit = Unit {0}
IsWriteReply reply = ⊥

-- a reply to a get: a value, or none
abbrev pub IsGetReply : Reply → Type 0
IsGetReply (replies.value bytes) = Unit {0}
IsGetReply replies.none = Unit {0}
IsGetReply reply = ⊥

-- a reply to a stat: its four numbers
abbrev pub IsStatReply : Reply → Type 0
IsStatReply (replies.stat writes reads tables free) = Unit {0}
IsStatReply reply = ⊥

-- the reply is of the command's kind, whatever it tells; a bad line is refused for its own reason
abbrev pub IsReplyTo : Command → Reply → Type 0
IsReplyTo (commands.put key value) reply = IsWriteReply reply
IsReplyTo (commands.delete key) reply = IsWriteReply reply
IsReplyTo (commands.get key) reply = IsGetReply reply
IsReplyTo commands.stat reply = IsStatReply reply
IsReplyTo (commands.bad kind) reply = reply ≡ replies.bad kind

-- what is seen of a key on an image as it opens: its log is newer than the tables on the key's path
abbrev pub seen_on : Opened → Image → List ℕ → Result (Option Item) LookFault
seen_on o image key =
    let g = o.named.geometry in
    let trie = o.named.manifest.trie in
    before_older (Ok (newest_of key (log_items o)))
    (seen_along (is_asked_on g image trie key) g image key (stops g.levels trie key))

-- a get's reply, where the key is seen like this: the value of the item, or none; a block that spells no
-- bucket has no reply
abbrev pub RepliesSeen : Result (Option Item) LookFault → Option Reply → Type 0
RepliesSeen (Ok item) reply = reply ≡ Some (found (value_of item))
RepliesSeen (Err fault) reply = ⊥
