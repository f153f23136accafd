-- What the top call promises: the words, the statuses, what `init` makes, and how `run` ends.
use Rattle.std.specs.Prelude.{◌≡◌, ℕ, ◌≤◌, List, [], ◌∷◌, Option, Some, None, map, codes, String, IsTrue, ◌++◌}
use Rattle.std.specs.Prelude.{◌≢◌, ◌⊎◌, ◌<◌, ◌+◌, ◌^◌, Bool, Ok}
use Rattle.std.specs.Fmt.{decimal}
use Rattle.std.specs.String.{string_bytes}
use Rattle.std.specs.declared.alloc.Global.{Global}
use Rattle.lt_format.specs.Layout.{is_geometry, blocks_needed}
use Rattle.lt_cli.specs.declared.words.Task.{Task}
use Rattle.lt_cli.specs.declared.words.Task.TheVariants.{Run, Init}
use Rattle.lt_serve.specs.declared.served.Served.{Served}
use Rattle.lt_serve.specs.declared.served.Served.TheVariants as served
use Rattle.lt_cli.specs.declared.status.Status.{Status}
use Rattle.lt_cli.specs.declared.status.Status.TheVariants.{Done, Words, SourceFault, SinkFault, DeviceFault, Damaged}
use Rattle.lt_cli.specs.declared.status.Status.TheVariants.{Refused, NoMemory, Turns}
use Rattle.lt_terms.specs.Causes.{Rose, RoseBy}
use Rattle.lt_language.specs.Commands.{line_feed}
use Rattle.lt_language.specs.Replies.{spaced}
use Rattle.lt_io.specs.Streams.{Gains, GainsFront, Takes}
use Rattle.std.specs.Option.{ForSome}
use Rattle.lt_terms.specs.Bytes.{Image, block_at, zero_block}
use Rattle.lt_device.specs.State as told
use Rattle.lt_format.specs.declared.geometry.Geometry.{Geometry}
use Rattle.lt_store.specs.Promise.{IsFresh, IsOccupied, IsVacant, AtRest, StopsOpening, seen_on}
use Rattle.lt_device.specs.declared.device.Device.{Ghosts as Devices}
use Rattle.lt_io.specs.declared.sink.Sink.{Ghosts as Sinks}
use Rattle.lt_io.specs.declared.source.Source.{Ghosts as Sources}
use Rattle.lt_image.specs.Versions.{Opened, open_image}
use Rattle.lt_language.specs.Machine.{State}
use Rattle.lt_serve.specs.Promise.{AnswersSeen, FailsToOpen, FoundByGet, IsSound, Moment, Sight, EndedTaking, moment_of}

-- `run`
abbrev pub IsRun : List (String Global) → Type 0
IsRun words = map string_bytes words ≡ codes "run" ∷ []

-- numbers of extents, levels and slots that a store can have
pub record AreSizes (extents levels slots : ℕ) : Type 0 where
  pub least : 1 ≤ extents
  pub most : extents ≤ 65536
  pub geometry : IsTrue (is_geometry (record { levels = levels; slots = slots }))

-- `init E L S`, each number in decimals without leading zeros
pub record IsInit (words : List (String Global)) (extents levels slots : ℕ) : Type 0 where
  pub are : map string_bytes words ≡ codes "init" ∷ decimal extents ∷ decimal levels ∷ decimal slots ∷ []
  pub sizes : AreSizes extents levels slots

-- the words ask for this
abbrev pub Means : List (String Global) → Task → Type 0
Means words Run = IsRun words
Means words (Init extents levels slots) = IsInit words extents levels slots

-- the words ask for this, or for nothing that there is
abbrev pub MeansSome : List (String Global) → Option Task → Type 0
MeansSome words (Some task) = Means words task
MeansSome words None = (task : Task) → Means words task → ⊥

-- the number of a status
abbrev pub code_of : Status → ℕ
code_of Done = 0
code_of Words = 1
code_of SourceFault = 2
code_of SinkFault = 3
code_of DeviceFault = 4
code_of Damaged = 5
code_of Refused = 6
code_of NoMemory = 7
code_of Turns = 8

-- the status that an answer of serving is
abbrev pub status_of : Served → Status
status_of served.Done = Done
status_of served.Source = SourceFault
status_of served.Sink = SinkFault
status_of served.Device = DeviceFault
status_of (served.Damaged block) = Damaged
status_of served.NoMemory = NoMemory
status_of served.Turns = Turns

-- the statuses that may come where no count of faults rose
abbrev pub IsUncounted : Status → Type 0
IsUncounted SourceFault = ⊥
IsUncounted SinkFault = ⊥
IsUncounted DeviceFault = ⊥
IsUncounted status = Unit {0}

-- what `run` may end with
abbrev pub IsRunEnd : Status → Type 0
IsRunEnd Words = ⊥
IsRunEnd Refused = ⊥
IsRunEnd status = Unit {0}

-- what `init` may end with
abbrev pub IsInitEnd : Status → Type 0
IsInitEnd Done = Unit {0}
IsInitEnd DeviceFault = Unit {0}
IsInitEnd Refused = Unit {0}
IsInitEnd NoMemory = Unit {0}
IsInitEnd status = ⊥

-- what `run` may end with where the store does not open
abbrev pub IsUnopenedEnd : Status → Type 0
IsUnopenedEnd Damaged = Unit {0}
IsUnopenedEnd DeviceFault = Unit {0}
IsUnopenedEnd NoMemory = Unit {0}
IsUnopenedEnd status = ⊥

-- the line which says that this block does not stand
abbrev pub damage_line : ℕ → List ℕ
damage_line block = codes "DAMAGED" ++ spaced block ++ line_feed ∷ []

-- the line which says that the device has too few blocks: how many are needed, and how many it has
abbrev pub small_line : ℕ → ℕ → List ℕ
small_line needed has = codes "TOO SMALL" ++ spaced needed ++ spaced has ++ line_feed ∷ []

-- the line which says that something stands on the device
abbrev pub occupied_line : List ℕ
occupied_line = codes "OCCUPIED" ++ line_feed ∷ []

-- the sink took a front of the line, and all of it where its count did not rise
pub record ShowsLine (stands0 stands : List ℕ → Type 0) (faults0 faults : ℕ) (line : List ℕ) : Type 0 where
  pub front : GainsFront stands0 stands line
  pub whole : (Rose faults0 faults → ⊥) → Gains stands0 stands line

-- A store was made: the device had room and was empty, and where it tells what a crash may leave it is at rest for
-- the empty map and no writes, with these numbers.
pub record IsMade (g : Geometry) (extents blocks : ℕ) (old new : told.State) : Type 0 where
  pub room : blocks_needed g extents ≤ blocks
  pub vacant : IsVacant old
  pub fresh : (flags : List Bool) → new.unsynced ≡ Some flags → IsFresh g extents new

-- None was made, and the device reads as before: it has too few blocks, or it is not empty. The sink is told which.
pub record IsRefused (g : Geometry) (extents blocks : ℕ) (stands0 stands : List ℕ
    → Type 0) (faults0 faults : ℕ) (old new : told.State) : Type 0 where
  pub unwritten : new ≡ old
  pub cause : ((blocks < blocks_needed g extents)
      × ShowsLine stands0 stands faults0 faults (small_line (blocks_needed g extents) blocks))
      ⊎ ((blocks_needed g extents ≤ blocks) × IsOccupied old × ShowsLine stands0 stands faults0 faults occupied_line)

-- a device that tells that something stands on its first block is as before
abbrev pub IsSpared : told.State → told.State → Type 0
IsSpared old new = ForSome old.shown (λ image. block_at image 0 ≢ zero_block → new ≡ old)

-- A run on a device at rest for `before`, in a store of e extents: how serving ended, from nothing taken and nothing
-- shown.
pub record RunEnded (e : ℕ) (before : State) (status : Status) (left0 left : Option (List ℕ)) (stands0 stands : List ℕ
    → Type 0) (faults0 faults : ℕ) (old new : Moment) : Type 0 where
  pub served : Served
  pub is : status ≡ status_of served
  pub sound : IsSound served
  pub over : EndedTaking e before served [] [] left0 left stands0 stands faults0 faults old new

-- A block does not stand: opening stops at it, and nothing was read or answered; or a get does, behind what was
-- shown. The sink took the line that names the block, whole where its count did not rise.
pub record FoundDamage (left0 left : Option (List ℕ)) (stands0 stands : List ℕ
    → Type 0) (faults0 faults : ℕ) (old new : told.State) : Type 0 where
  pub block : ℕ
  pub shown : List ℕ
  pub front : GainsFront stands0 stands (shown ++ damage_line block)
  pub whole : (Rose faults0 faults → ⊥) → Gains stands0 stands (shown ++ damage_line block)
  pub damaged : (StopsOpening old block × (new ≡ old) × (left ≡ left0) × (shown ≡ [])) ⊎ FoundByGet old block new

-- A run on a device whose opening stops at this block: the status tells of damage, and the sink is given the line
-- that names the block, unless the device failed or memory was short.
pub record RunUnopened (block : ℕ) (status : Status) (stands0 stands : List ℕ → Type 0) (faults0 faults : ℕ)
    : Type 0 where
  pub is : IsUnopenedEnd status
  pub told : status ≡ Damaged → ShowsLine stands0 stands faults0 faults (damage_line block)

-- A run on a device whose blocks open: what was taken of the source was answered by what is seen of the keys, and the
-- sink took these answers. Behind them it took a front of the line of the damaged block, where one is named.
pub record RunSeen (sight : Sight) (status : Status) (left0 left : Option (List ℕ)) (stands0 stands : List ℕ
    → Type 0) : Type 0 where
  pub ended : Served
  pub is : status ≡ status_of ended
  pub taken : List ℕ
  pub takes : Takes left0 left taken
  pub shown : List ℕ
  pub seen : AnswersSeen sight ended taken shown
  pub gained : (status ≡ Damaged → ⊥) → Gains stands0 stands shown
  pub told : (b : ℕ) → ended ≡ served.Damaged b → GainsFront stands0 stands (shown ++ damage_line b)

-- `run` on a device at rest for a state
abbrev pub EndsAtRest : {S K D : Type 0} → Sources S → Sinks K → Devices D → Status → S → S → K → K → D → D → Type 0
EndsAtRest u k d status source0 source sink0 sink old new = (before : State) (r : AtRest before (d.state old))
    → RunEnded r.named.manifest.header.extents before status (u.left source0) (u.left source) (k.stands sink0)
    (k.stands sink) (k.faults sink0) (k.faults sink) (moment_of d old) (moment_of d new)

-- a run that found a block which does not stand
abbrev pub FindsDamage : {S K D : Type 0} → Sources S → Sinks K → Devices D → S → S → K → K → D → D → Type 0
FindsDamage u k d source0 source sink0 sink old new = FoundDamage (u.left source0) (u.left source) (k.stands sink0)
    (k.stands sink) (k.faults sink0) (k.faults sink) (d.state old) (d.state new)

-- `run` on any device that tells its blocks, where they open
abbrev pub EndsSeen : {S K D : Type 0} → Sources S → Sinks K → Devices D → Status → S → S → K → K → D → Type 0
EndsSeen u k d status source0 source sink0 sink old = (image : Image) (opened : Opened)
    → (d.state old).shown ≡ Some image → open_image image ≡ Ok opened
    → RunSeen (seen_on opened image) status (u.left source0) (u.left source) (k.stands sink0) (k.stands sink)

-- `run` on any device that tells its blocks, where opening them stops at a block: nothing is read or written, and the
-- line of that block is all that is shown
abbrev pub EndsUnopened : {S K D : Type 0} → Sinks K → Devices D → Status → S → S → K → K → D → D → Type 0
EndsUnopened k d status source0 source sink0 sink old new = (b : ℕ) → FailsToOpen (d.state old) b
    → RunUnopened b status (k.stands sink0) (k.stands sink) (k.faults sink0) (k.faults sink)
    × (d.state new ≡ d.state old) × (source ≡ source0) × ((status ≡ Damaged → ⊥) → sink ≡ sink0)

-- A status that tells of a fault comes only where its count rose, and one that tells of too many pieces only where so
-- many were taken; no call takes more.
pub record HasCauses {S K D : Type 0} (u : Sources S) (k : Sinks K) (d : Devices D) (status : Status)
    (source0 source1 : S) (sink0 sink1 : K) (old new : D) : Type 0 where
  pub source : status ≡ SourceFault → Rose (u.faults source0) (u.faults source1)
  pub sink : status ≡ SinkFault → Rose (k.faults sink0) (k.faults sink1)
  pub device : status ≡ DeviceFault → Rose (d.faults old) (d.faults new)
  pub turns : status ≡ Turns → RoseBy (2 ^ 48) (u.pieces source0) (u.pieces source1)
  pub pieces : u.pieces source1 ≤ u.pieces source0 + 2 ^ 48

-- How `init` ended for a store of this geometry and so many extents. It is refused exactly where the device has too few
-- blocks, or else is not empty; nothing is shown but for that, and what stands on the device stays.
pub record InitEnded {K D : Type 0} (k : Sinks K) (d : Devices D) (g : Geometry) (extents : ℕ) (status : Status)
    (sink0 sink : K) (old new : D) : Type 0 where
  pub end : IsInitEnd status
  pub made : status ≡ Done → IsMade g extents (d.blocks old) (d.state old) (d.state new)
  pub small : d.blocks old < blocks_needed g extents → status ≡ Refused
  pub refused : status ≡ Refused → IsRefused g extents (d.blocks old) (k.stands sink0) (k.stands sink)
      (k.faults sink0) (k.faults sink) (d.state old) (d.state new)
  pub spared : IsSpared (d.state old) (d.state new)
  pub quiet : (status ≡ Refused → ⊥) → sink ≡ sink0
