-- What serving promises: which lines were acted, what was answered and shown, and what the device may hold.
use Rattle.std.specs.Prelude.{◌⊎◌, Result}
use Rattle.std.specs.Prelude.{◌≡◌, ℕ, ◌+◌, ◌-◌, Bool, true, false, List, [], ◌∷◌, length, nat_le, if◌then◌else◌}
use Rattle.std.specs.Prelude.{◌≤◌, ◌^◌, ◌++◌, take, Option, Some, Ok, Err}
use Rattle.lt_htable.specs.declared.faults.LookFault.{LookFault}
use Rattle.lt_htable.specs.declared.faults.LookFault.TheVariants.{Damaged}
use Rattle.lt_store.specs.Promise.{RepliesSeen}
use Rattle.lt_language.specs.Commands.{get, put, delete, Command, commands, ended}
use Rattle.lt_device.specs.declared.device.Device.{Ghosts as Devices}
use Rattle.lt_io.specs.declared.sink.Sink.{Ghosts as Sinks}
use Rattle.lt_io.specs.declared.source.Source.{Ghosts as Sources}
use Rattle.lt_terms.specs.Items.{Item}
use Rattle.lt_language.specs.Machine.{State, Run, accepted}
use Rattle.lt_language.specs.Replies as replies
use Rattle.lt_language.specs.Replies.{Reply, text, texts}
use Rattle.lt_image.specs.Standing.{after_writes, IsPrefix}
use Rattle.lt_serve.specs.declared.served.Served.{Served}
use Rattle.lt_serve.specs.declared.served.Served.TheVariants as served
use Rattle.lt_terms.specs.Bytes.{Image}
use Rattle.lt_terms.specs.Causes.{Rose, RoseBy}
use Rattle.lt_device.specs.Moments.{LeftSince, Leaves, MayLeave, clock}
use Rattle.lt_device.specs.State as told
use Rattle.lt_device.specs.State.{Epoch}
use Rattle.lt_image.specs.Standing.{HasCounts}
use Rattle.lt_io.specs.Streams.{Gains, Takes, IsAtEnd}
use Rattle.lt_language.specs.Commands.{lines_of}
use Rattle.lt_store.specs.Promise.{AtRest, IsReplyTo, StopsGet}
use Rattle.lt_format.specs.declared.geometry.Geometry.{Geometry}
use Rattle.lt_format.specs.Snapshot.{Named}
use Rattle.lt_image.specs.Versions.{Opened, open_image}

-- in a store of e extents the commands were answered so from this state on, and these are the writes that were taken
pub record Runs (e : ℕ) (start : State) (commands : List Command) (replies : List Reply)
    (writes : List Item) : Type 0 where
  pub run : Run e start commands replies (after_writes start writes)
  pub taken_are : writes ≡ accepted commands replies

-- a put or a delete was taken
abbrev pub is_ok : Reply → Bool
is_ok replies.ok = true
is_ok reply = false

-- there are no replies, or the first of them is an `OK`
abbrev pub StartWithOk : List Reply → Type 0
StartWithOk [] = Unit {0}
StartWithOk (replies.ok ∷ rest) = Unit {0}
StartWithOk rest = ⊥

-- how many of the replies are an `OK` that lies, with its line feed, in the first so many bytes of their text
unfoldable pub acknowledged : List Reply → ℕ → ℕ
acknowledged [] shown = 0
acknowledged (reply ∷ replies) shown =
    if nat_le (length (text reply)) shown
    then (if is_ok reply then 1 else 0) + acknowledged replies (shown - length (text reply))
    else 0

-- a moment of a device: what it tells, and how many blocks it has read so far
pub record Moment : Type 0 where
  pub state : told.State
  pub reads : ℕ

-- the moment at which a device is
abbrev pub moment_of : {D : Type 0} → Devices D → D → Moment
moment_of d device = record { state = d.state device; reads = d.reads device }

-- the counts of reads that `STAT` replies tell lie between these two, and none is less than the one before it
abbrev pub ReadsRise : ℕ → ℕ → List Reply → Type 0
ReadsRise low high [] = low ≤ high
ReadsRise low high (replies.stat writes reads tables free ∷ rest) = (low ≤ reads) × ReadsRise reads high rest
ReadsRise low high (reply ∷ rest) = ReadsRise low high rest

-- P holds of the tables and free extents that the reply tells, where it is a `STAT`
abbrev pub OnStat : (ℕ → ℕ → Type 0) → Reply → Type 0
OnStat P (replies.stat writes reads tables free) = P tables free
OnStat P reply = Unit {0}

-- P holds of what each `STAT` of a run tells, and of how many `OK`s stand before it, behind so many
abbrev pub EachStat : (ℕ → ℕ → ℕ → Type 0) → ℕ → List Reply → Type 0
EachStat P oks [] = Unit {0}
EachStat P oks (reply ∷ rest) = OnStat (P oks) reply × EachStat P (oks + (if is_ok reply then 1 else 0)) rest

-- Some image has these tables and free extents, and the first of so many writes behind a state, all but the last 818 at
-- least. Where the device told its past at the start, a crash since might have left this image.
pub record IsCounted (before : State) (writes : List Item) (old new : told.State) (oks tables free : ℕ) : Type 0 where
  pub left : Image
  pub has : IsPrefix left before (take oks writes) (oks - 818)
  pub counts : HasCounts left tables free
  pub since : (epochs : List Epoch) → old.past ≡ Some epochs → LeftSince new (clock old) left

-- a device that told its past still tells it
abbrev pub KeepsPast : told.State → told.State → Type 0
KeepsPast old new = (first : List Epoch) → old.past ≡ Some first → (epochs : List Epoch) × (new.past ≡ Some epochs)

-- What the `STAT` replies of a run tell beside the number of writes: the reads rise from those at the start to those at
-- the end, and tables and free extents are those of an image since the start, which has the writes that were taken
-- before the reply but for the last 818 at most.
pub record TellsCounts (before : State) (replies : List Reply) (writes : List Item) (old new : Moment) : Type 0 where
  pub reads : ReadsRise old.reads new.reads replies
  pub images : EachStat (IsCounted before writes old.state new.state) 0 replies
  pub past : KeepsPast old.state new.state

-- the answer says that serving stopped between two lines, with every reply shown
abbrev pub IsPause : Served → Type 0
IsPause served.Source = Unit {0}
IsPause served.Turns = Unit {0}
IsPause status = ⊥

-- the answer is a fault of the device or want of memory
abbrev pub IsInnerHalt : Served → Type 0
IsInnerHalt served.Device = Unit {0}
IsInnerHalt served.NoMemory = Unit {0}
IsInnerHalt status = ⊥

-- the answer says that every write that was taken is durable
abbrev pub IsSettled : Served → Type 0
IsSettled served.Done = Unit {0}
IsSettled served.Source = Unit {0}
IsSettled served.Sink = Unit {0}
IsSettled served.Turns = Unit {0}
IsSettled status = ⊥

-- the answer names no damaged block
abbrev pub IsSound : Served → Type 0
IsSound (served.Damaged block) = ⊥
IsSound status = Unit {0}

-- the text of so many first replies stands whole in the output
pub record ShowsFirst (count : ℕ) (replies : List Reply) (output : List ℕ) : Type 0 where
  pub many : count ≤ length replies
  pub further : List ℕ
  pub whole : output ≡ texts (take count replies) ++ further

-- The output is the text of the first of these replies, each of them whole: of all, or of those before a reply that
-- is an `OK`.
pub record ShowsUpToOk (replies : List Reply) (output : List ℕ) : Type 0 where
  pub shown : List Reply
  pub hidden : List Reply
  pub order : replies ≡ shown ++ hidden
  pub text : output ≡ texts shown
  pub first : StartWithOk hidden

-- Serving is over: first commands of the ended input were answered by the map machine, and the output is a front of
-- the text of the replies.
pub record ServingEnded (e : ℕ) (before : State) (status : Served) (input output : List ℕ) (faults0 faults : ℕ)
    (old new : Moment) : Type 0 where
  -- the commands that were acted and those that were not
  pub acted : List Command
  pub others : List Command
  pub order : acted ++ others ≡ ended input
  -- the run over them, and the writes that were taken
  pub replies : List Reply
  pub writes : List Item
  pub runs : Runs e before acted replies writes
  -- what its `STAT` replies tell
  pub counts : TellsCounts before replies writes old new
  -- what of their text is not shown
  pub hidden : List ℕ
  pub text : texts replies ≡ output ++ hidden
  -- at the end of input: all of it
  pub all : status ≡ served.Done → (others ≡ []) × (hidden ≡ [])
  -- between two lines: all lines
  pub paused : IsPause status → (acted ≡ commands input) × (hidden ≡ [])
  -- elsewhere: the lines that end a page or more before the end of what was taken are answered; and where the sink
  -- did not fail, no reply before the first `OK` that is not shown is hidden
  pub far : (front behind : List ℕ) → input ≡ front ++ behind → 4096 ≤ length behind
      → ShowsFirst (length (lines_of front)) replies output
  pub whole : IsInnerHalt status → (Rose faults0 faults → ⊥) → ShowsUpToOk replies output
  -- each image since the start has first writes of those that were taken, and none in part
  pub since : Leaves (λ left. IsPrefix left before writes 0) old.state new.state
  -- each image that a crash may leave at exit has every write whose `OK` and line feed the output has
  pub at_exit : (left : Image) → MayLeave new.state left
      → IsPrefix left before writes (acknowledged replies (length output))
  -- but for a fault of the device it is at rest: with all writes, or where memory was short with the first of them
  pub rests : status ≡ served.NoMemory → (sure : ℕ) × AtRest (after_writes before (take sure writes)) new.state
  pub rests_all : IsSettled status → AtRest (after_writes before writes) new.state
  -- and as before where no write was taken
  pub quiet : IsSettled status → writes ≡ [] → new.state ≡ old.state

-- a call that gave bytes to the sink, and after which serving is over
pub record EndedShowing (e : ℕ) (before : State) (status : Served) (input output : List ℕ) (stands0 stands : List ℕ
    → Type 0) (faults0 faults : ℕ) (start new : Moment) : Type 0 where
  pub added : List ℕ
  pub gained : Gains stands0 stands added
  pub over : ServingEnded e before status input (output ++ added) faults0 faults start new

-- a call that took bytes of the source, gave bytes to the sink, and after which serving is over
pub record EndedTaking (e : ℕ) (before : State) (status : Served) (input output : List ℕ) (left0 left : Option
    (List ℕ)) (stands0 stands : List ℕ → Type 0) (faults0 faults : ℕ) (start new : Moment) : Type 0 where
  pub taken : List ℕ
  pub takes : Takes left0 left taken
  pub at_end : status ≡ served.Done → IsAtEnd left
  pub over : EndedShowing e before status (input ++ taken) output stands0 stands faults0 faults start new

-- the sink took some bytes
pub record GainsSome (stands0 stands : List ℕ → Type 0) : Type 0 where
  pub shown : List ℕ
  pub gained : Gains stands0 stands shown

-- the count of the source's faults never falls, and rose where the source failed
pub record TakesFrom {S : Type 0} (u : Sources S) (failed : Type 0) (old new : S) : Type 0 where
  pub later : u.faults old ≤ u.faults new
  pub cause : failed → Rose (u.faults old) (u.faults new)

-- the sink took some bytes, and the count of its faults never falls, and rose where the sink failed
pub record GivesTo {K : Type 0} (k : Sinks K) (failed : Type 0) (old new : K) : Type 0 where
  pub gains : GainsSome (k.stands old) (k.stands new)
  pub later : k.faults old ≤ k.faults new
  pub cause : failed → Rose (k.faults old) (k.faults new)

-- the count of the device's faults never falls, and rose where the device failed
pub record FailsOn {D : Type 0} (d : Devices D) (failed : Type 0) (old new : D) : Type 0 where
  pub later : d.faults old ≤ d.faults new
  pub cause : failed → Rose (d.faults old) (d.faults new)

-- An answer that tells of a fault comes only where its count rose, and one that tells of too many pieces only where so
-- many were taken; no call takes more. The sink took some bytes, and no count falls.
pub record IsCaused {S K D : Type 0} (u : Sources S) (k : Sinks K) (d : Devices D) (status : Served)
    (source0 source1 : S) (sink0 sink1 : K) (old new : D) : Type 0 where
  pub turns : status ≡ served.Turns → RoseBy (2 ^ 48) (u.pieces source0) (u.pieces source1)
  pub pieces : u.pieces source1 ≤ u.pieces source0 + 2 ^ 48
  pub source : TakesFrom u (status ≡ served.Source) source0 source1
  pub sink : GivesTo k (status ≡ served.Sink) sink0 sink1
  pub device : FailsOn d (status ≡ served.Device) old new

-- A store of e extents that stands for `before` was served until this status, from nothing taken and nothing shown;
-- and the status names no damaged block.
abbrev pub ServesFrom : {S K D : Type 0} → Sources S → Sinks K → Devices D → ℕ → State → Served → S → S → K → K → D
    → D → Type 0
ServesFrom u k d e before status source0 source sink0 sink old new = IsSound status
    × EndedTaking e before status [] [] (u.left source0) (u.left source) (k.stands sink0) (k.stands sink)
    (k.faults sink0) (k.faults sink) (moment_of d old) (moment_of d new)

-- the device tells its blocks, and opening them stops at this one
pub record FailsToOpen (device : told.State) (block : ℕ) : Type 0 where
  pub image : Image
  pub shown : device.shown ≡ Some image
  pub stops : open_image image ≡ Err block

-- the answer where opening stops at a block: that block is named, or the device failed, or memory was short
abbrev pub IsUnopened : ℕ → Served → Type 0
IsUnopened block (served.Damaged b) = b ≡ block
IsUnopened block served.Device = Unit {0}
IsUnopened block served.NoMemory = Unit {0}
IsUnopened block status = ⊥

-- In a store of this geometry and so many extents a get of some key stops at this block: it is that of a bucket of a
-- table which a manifest of the store names on the key's path, and spells no bucket.
pub record StopsSomeGet (geometry : Geometry) (extents block : ℕ) (now : told.State) : Type 0 where
  pub key : List ℕ
  pub named : Named
  pub geometry_is : named.geometry ≡ geometry
  pub extents_are : named.manifest.header.extents ≡ extents
  pub stops : StopsGet named now.shown key block

-- A get stopped at this block, in a store as large as the one that the device opened as.
pub record FoundByGet (old : told.State) (block : ℕ) (now : told.State) : Type 0 where
  pub geometry : Geometry
  pub extents : ℕ
  pub opened : (image : Image) (opened : Opened) → old.shown ≡ Some image → open_image image ≡ Ok opened
      → (geometry ≡ opened.named.geometry) × (extents ≡ opened.named.manifest.header.extents)
  pub get : StopsSomeGet geometry extents block now

-- what is seen of each key on some blocks: its newest item, or none, or the block that spells no bucket
abbrev pub Sight : Type 0
Sight = List ℕ → Result (Option Item) LookFault

-- the reply to a get tells what is seen of its key, which no reply does of a damaged block; any other reply is of its
-- command's kind
abbrev pub IsSeenReply : Sight → Command → Reply → Type 0
IsSeenReply sight (get key) reply = RepliesSeen (sight key) (Some reply)
IsSeenReply sight command reply = IsReplyTo command reply

-- there is such a reply to each of the commands
abbrev pub AreSeen : Sight → List Command → List Reply → Type 0
AreSeen sight [] [] = Unit {0}
AreSeen sight (command ∷ commands) (reply ∷ replies) = IsSeenReply sight command reply × AreSeen sight commands replies
AreSeen sight commands replies = ⊥

-- the bytes begin with the text of an `OK`
pub record BeginsWithOk (bytes : List ℕ) : Type 0 where
  pub more : List ℕ
  pub is : bytes ≡ text replies.ok ++ more

-- the next command is a get of a key that stops at this block, or a write
abbrev pub StopsNext : Sight → List Command → ℕ → Type 0
StopsNext sight (get key ∷ rest) block = sight key ≡ Err (Damaged block)
StopsNext sight (put key value ∷ rest) block = Unit {0}
StopsNext sight (delete key ∷ rest) block = Unit {0}
StopsNext sight commands block = ⊥

-- the next command is a write
abbrev pub WritesNext : List Command → Type 0
WritesNext (put key value ∷ rest) = Unit {0}
WritesNext (delete key ∷ rest) = Unit {0}
WritesNext commands = ⊥

-- First commands of the ended input have the replies that their keys are seen by, and the output is a front of the
-- text of these replies and what stands behind it. That begins with the `OK` of the next command, a write, and from
-- there on nothing is said; or it is empty. Then at the end of input all commands were answered, and where a block is
-- named as damaged, the next command is a get that stops at it, or a write.
pub record AnswersSeen (sight : Sight) (status : Served) (input output : List ℕ) : Type 0 where
  pub acted : List Command
  pub others : List Command
  pub order : acted ++ others ≡ ended input
  pub replies : List Reply
  pub answers : AreSeen sight acted replies
  pub hidden : List ℕ
  pub further : List ℕ
  pub text : output ++ hidden ≡ texts replies ++ further
  pub ends : (BeginsWithOk further × WritesNext others)
      ⊎ ((further ≡ []) × (status ≡ served.Done → (others ≡ []) × (hidden ≡ []))
      × ((b : ℕ) → status ≡ served.Damaged b → StopsNext sight others b))

-- what was taken of the source was answered by what is seen of the keys, and the sink took these answers
pub record ServesSeen (sight : Sight) (status : Served) (left0 left : Option (List ℕ))
    (stands0 stands : List ℕ → Type 0) : Type 0 where
  pub taken : List ℕ
  pub takes : Takes left0 left taken
  pub shown : List ℕ
  pub gained : Gains stands0 stands shown
  pub seen : AnswersSeen sight status taken shown
