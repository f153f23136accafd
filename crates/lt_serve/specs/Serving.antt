-- What serving has reached: which lines were acted, what was answered, and how much of it is shown.
use Rattle.lt_device.specs.declared.device.Device.{Ghosts as Devices}
use Rattle.lt_io.specs.declared.sink.Sink.{Ghosts as Sinks}
use Rattle.lt_io.specs.declared.source.Source.{Ghosts as Sources}
use Rattle.lt_serve.specs.declared.served.Served.{Served}
use Rattle.lt_serve.specs.declared.session.Session.{Session}
use Rattle.lt_serve.specs.Faults.{IsHalt}
use Rattle.lt_serve.specs.View.{kept_in, store_in}
use Rattle.std.specs.Prelude.{◌≡◌, ◌≤◌, ℕ, true, List, [], ◌++◌, Option}
use Rattle.lt_terms.specs.Items.{Item}
use Rattle.lt_device.specs.Moments.{Leaves}
use Rattle.lt_image.specs.Standing.{IsPrefix, after_writes}
use Rattle.lt_io.specs.Streams.{Gains, Takes}
use Rattle.lt_language.specs.Commands.{commands, rest_of}
use Rattle.lt_language.specs.Machine.{State}
use Rattle.lt_language.specs.Replies.{Reply, texts}
use Rattle.lt_line.specs.Held.{kept_of}
use Rattle.lt_line.specs.Waiting.{Waiting, nothing_waits}
use Rattle.lt_store.specs.Open.{StoreView, IsOpen, blocks_of, extents_of}
use Rattle.lt_serve.specs.Promise.{IsSound, Moment, Runs, EndedShowing, TellsCounts, EndedTaking, moment_of}

-- A store of e extents that stood for `before`: all lines of the input were acted, this is the text of their
-- replies, and all writes that were taken are durable.
pub record ServedSoFar (e : ℕ) (before : State) (input output kept : List ℕ) (w : StoreView)
    (old new : Moment) : Type 0 where
  pub replies : List Reply
  pub writes : List Item
  pub runs : Runs e before (commands input) replies writes
  pub text : output ≡ texts replies
  pub line : kept ≡ kept_of (rest_of input)
  pub opened : IsOpen w (after_writes before writes) new.state
  pub since : Leaves (λ left. IsPrefix left before writes 0) old.state new.state
  -- where no write was taken, the device is as before
  pub quiet : writes ≡ [] → new.state ≡ old.state
  -- what the `STAT` replies tell
  pub counts : TellsCounts before replies writes old new

-- a call that gave bytes to the sink, and goes on
pub record ShowedFurther (e : ℕ) (before : State) (input output kept : List ℕ) (w : StoreView) (stands0 stands : List ℕ
    → Type 0) (start new : Moment) : Type 0 where
  pub added : List ℕ
  pub gained : Gains stands0 stands added
  pub reached : ServedSoFar e before input (output ++ added) kept w start new

-- a call that took bytes of the source, gave bytes to the sink, and goes on
pub record TookFurther (e : ℕ) (before : State) (input output kept : List ℕ) (w : StoreView) (left0 left : Option
    (List ℕ)) (stands0 stands : List ℕ → Type 0) (start new : Moment) : Type 0 where
  pub taken : List ℕ
  pub takes : Takes left0 left taken
  pub on : ShowedFurther e before (input ++ taken) output kept w stands0 stands start new

-- A session between two rounds: it is up, no reply waits, and its store fits on a device of so many blocks.
pub record IsReady (s : Session) (waiting : Waiting) (blocks : ℕ) : Type 0 where
  pub up : s.is_up ≡ true
  pub none : waiting ≡ nothing_waits
  pub within : blocks_of (store_in s) ≤ blocks

-- from wherever serving has got to, it goes on by these bytes
abbrev pub GoesOnBy : {D K : Type 0} → Devices D → Sinks K → Session → Session → List ℕ → K → K → D → D → Type 0
GoesOnBy d k s t bytes sink0 sink old new = (before : State) (input output : List ℕ) (start : Moment)
    → ServedSoFar (extents_of (store_in s)) before input output (kept_in s) (store_in s) start (moment_of d old)
    → ShowedFurther (extents_of (store_in s)) before (input ++ bytes) output (kept_in t) (store_in t) (k.stands sink0)
    (k.stands sink) start (moment_of d new)

-- from wherever serving has got to, it ends in these bytes
abbrev pub EndsIn : {D K : Type 0} → Devices D → Sinks K → Session → Served → List ℕ → K → K → D → D → Type 0
EndsIn d k s status bytes sink0 sink old new = (before : State) (input output : List ℕ) (start : Moment)
    → ServedSoFar (extents_of (store_in s)) before input output (kept_in s) (store_in s) start (moment_of d old)
    → IsHalt status × EndedShowing (extents_of (store_in s)) before status (input ++ bytes) output (k.stands sink0)
    (k.stands sink) (k.faults sink0) (k.faults sink) start (moment_of d new)

-- from wherever serving has got to, it ends at the end of input
abbrev pub EndsInput : {K : Type 0} → Sinks K → Session → Served → K → K → Type 0
EndsInput k s status sink0 sink = (e : ℕ) (before : State) (input output : List ℕ) (start now : Moment)
    → ServedSoFar e before input output (kept_in s) (store_in s) start now
    → EndedShowing e before status input output (k.stands sink0) (k.stands sink) (k.faults sink0) (k.faults sink) start
    now

-- from wherever serving has got to, it goes on by what was taken of the source
abbrev pub TurnsOn : {S K D : Type 0} → Sources S → Sinks K → Devices D → Session → Session → S → S → K → K → D → D
    → Type 0
TurnsOn u k d s t source0 source sink0 sink old new = (before : State) (input output : List ℕ) (start : Moment)
    → ServedSoFar (extents_of (store_in s)) before input output (kept_in s) (store_in s) start (moment_of d old)
    → TookFurther (extents_of (store_in s)) before input output (kept_in t) (store_in t) (u.left source0)
    (u.left source) (k.stands sink0) (k.stands sink) start (moment_of d new)

-- from wherever serving has got to, it ends in what was taken of the source, and no block is damaged
abbrev pub TurnsOver : {S K D : Type 0} → Sources S → Sinks K → Devices D → Session → Served → S → S → K → K → D → D
    → Type 0
TurnsOver u k d s status source0 source sink0 sink old new = (before : State) (input output : List ℕ)
    (start : Moment)
    → ServedSoFar (extents_of (store_in s)) before input output (kept_in s) (store_in s) start (moment_of d old)
    → IsSound status × EndedTaking (extents_of (store_in s)) before status input output (u.left source0)
    (u.left source) (k.stands sink0) (k.stands sink) (k.faults sink0) (k.faults sink) start (moment_of d new)
