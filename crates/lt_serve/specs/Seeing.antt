-- What serving answers on any blocks, up to the first write that is taken.
use Rattle.std.specs.Prelude.{◌≡◌, ◌⊎◌, ℕ, Bool, true, false, ◌||◌, List, [], ◌∷◌, ◌++◌, Some}
use Rattle.std.specs.Bool.{IsFalse}
use Rattle.lt_terms.specs.Bytes.{Image}
use Rattle.lt_device.specs.declared.device.Device.{Ghosts}
use Rattle.lt_device.specs.State as told
use Rattle.lt_io.specs.declared.sink.Sink.{Ghosts as Sinks}
use Rattle.lt_io.specs.declared.source.Source.{Ghosts as Sources}
use Rattle.lt_io.specs.Streams.{Gains, Takes}
use Rattle.lt_language.specs.Commands.{Command, command_of, commands, rest_of, has_line_feed}
use Rattle.lt_language.specs.Replies.{Reply, text, texts}
use Rattle.lt_line.specs.Held.{kept_of}
use Rattle.lt_line.specs.Waiting.{Waiting, with_text}
use Rattle.lt_store.specs.Getting.{seen_of}
use Rattle.lt_store.specs.Open.{StoreView}
use Rattle.lt_serve.specs.declared.faults.RoundFault.{RoundFault}
use Rattle.lt_serve.specs.declared.faults.RoundFault.TheVariants as faults
use Rattle.lt_serve.specs.declared.served.Served.{Served}
use Rattle.lt_serve.specs.declared.session.Session.{Session}
use Rattle.lt_serve.specs.Acting.{settled_unless}
use Rattle.lt_serve.specs.Promise.{AnswersSeen, AreSeen, BeginsWithOk, IsSeenReply, ServesSeen, Sight, StopsNext}
use Rattle.lt_serve.specs.Promise.{WritesNext, is_ok}
use Rattle.lt_serve.specs.Rounds.{ActsFurther, ActsLines, StopsFurther, StopsInLines, all_text}
use Rattle.lt_serve.specs.Serving.{EndsIn, GoesOnBy, TurnsOn, TurnsOver}
use Rattle.lt_serve.specs.View.{kept_in, store_in}

-- the store sees the same of each key on any blocks, nothing is pending, and the device tells what it told
pub record IsStill (v w : StoreView) (old new : told.State) : Type 0 where
  pub sees : seen_of w ≡ seen_of v
  pub idle : w.log.pending ≡ []
  pub same : new ≡ old

-- all is as before, and this is kept of the unfinished line
pub record StaysBehind (bytes kept : List ℕ) (v w : StoreView) (old new : told.State) : Type 0 where
  pub line : kept ≡ kept_of (rest_of bytes)
  pub still : IsStill v w old new

-- A command was answered on any device, and its reply waits: it tells what is seen; and where it is no `OK`, and
-- nothing was pending, all is as before.
pub record Tells (v : StoreView) (command : Command) (taken : Bool) (waiting0 waiting : Waiting) (w : StoreView)
    (old new : told.State) : Type 0 where
  pub reply : Reply
  pub told : waiting ≡ with_text waiting0 (text reply)
  pub taken_is : taken ≡ is_ok reply
  pub seen : (image : Image) → old.shown ≡ Some image → IsSeenReply (seen_of v image) command reply
  pub still : taken ≡ false → v.log.pending ≡ [] → IsStill v w old new

-- a command that named a damaged block is a get that stops at it, or a write
abbrev pub StopsAt : StoreView → Command → told.State → ℕ → Type 0
StopsAt v command old b = (image : Image) → old.shown ≡ Some image → StopsNext (seen_of v image) (command ∷ []) b

-- a line was answered on any device, and its reply is settled as long as no write was taken
pub record TellsLine (v : StoreView) (command : Command) (wrote0 wrote : Bool) (waiting0 waiting : Waiting)
    (w : StoreView) (old new : told.State) : Type 0 where
  pub taken : Bool
  pub unsettled : Waiting
  pub tells : Tells v command taken waiting0 unsettled w old new
  pub wrote_is : wrote ≡ (wrote0 || taken)
  pub settled : waiting ≡ settled_unless wrote unsettled

-- on any device the line that the session holds was answered
abbrev pub TellsHeld : {D : Type 0} → Ghosts D → Session → Session → Waiting → Waiting → D → D → Type 0
TellsHeld d s t waiting0 waiting old new = (line : List ℕ) → kept_in s ≡ kept_of line
    → TellsLine (store_in s) (command_of line) s.wrote t.wrote waiting0 waiting (store_in t) (d.state old) (d.state new)

-- on any device the line that the session holds named this block as damaged: it is a get that stops at it, or a write
abbrev pub StopsHeld : {D : Type 0} → Ghosts D → Session → D → ℕ → Type 0
StopsHeld d s old b = (line : List ℕ) → kept_in s ≡ kept_of line
    → StopsAt (store_in s) (command_of line) (d.state old) b

-- The lines of the bytes were answered on any device. The replies before the first `OK` are settled and tell what is
-- seen; the text behind them begins with that `OK`. Where there is none, all is as before.
pub record Sees (v : StoreView) (image : Image) (bytes kept : List ℕ) (wrote : Bool) (waiting0 waiting : Waiting)
    (w : StoreView) (old new : told.State) : Type 0 where
  pub acted : List Command
  pub others : List Command
  pub order : acted ++ others ≡ commands bytes
  pub replies : List Reply
  pub answers : AreSeen (seen_of v image) acted replies
  pub line : kept ≡ kept_of (rest_of bytes)
  pub settled : waiting.settled_text ≡ waiting0.settled_text ++ texts replies
  pub none : wrote ≡ false → (others ≡ []) × (waiting.pending_text ≡ []) × IsStill v w old new
  pub some : wrote ≡ true → BeginsWithOk waiting.pending_text × WritesNext others

-- First lines of the bytes have replies that tell what is seen, and the output is their text and what stands behind
-- it: the `OK` of a write, and more; or nothing, and then they are all lines, and `still` says what is as before.
pub record SeesLines (sight : Sight) (bytes output : List ℕ) (still : Type 0) : Type 0 where
  pub acted : List Command
  pub others : List Command
  pub order : acted ++ others ≡ commands bytes
  pub replies : List Reply
  pub answers : AreSeen sight acted replies
  pub further : List ℕ
  pub text : output ≡ texts replies ++ further
  pub ends : (BeginsWithOk further × WritesNext others) ⊎ ((others ≡ []) × (further ≡ []) × still)

-- A round failed within the bytes: the replies to first lines are settled, and tell what is seen; where a block is
-- named as damaged the next line is a get that stops at it, or a write.
pub record FailsSeen (sight : Sight) (bytes : List ℕ) (fault : RoundFault) (settled0 settled : List ℕ) : Type 0 where
  pub acted : List Command
  pub others : List Command
  pub order : acted ++ others ≡ commands bytes
  pub replies : List Reply
  pub answers : AreSeen sight acted replies
  pub text : settled ≡ settled0 ++ texts replies
  pub stops : (b : ℕ) → fault ≡ faults.Damaged b → StopsNext sight others b

-- behind the line that the session has begun, on a device that tells its blocks, a round answered these bytes so
abbrev pub RoundSees : {D : Type 0} → Ghosts D → Session → Session → List ℕ → Waiting → Waiting → D → D → Type 0
RoundSees d s t bytes waiting0 waiting old new = (image : Image) (line : List ℕ) → (d.state old).shown ≡ Some image
    → IsFalse (has_line_feed line) → kept_in s ≡ kept_of line
    → (output : List ℕ) × (waiting.settled_text ≡ all_text waiting0 ++ output)
    × SeesLines (seen_of (store_in s) image) (line ++ bytes) output (StaysBehind (line ++ bytes) (kept_in t)
    (store_in s) (store_in t) (d.state old) (d.state new))

-- behind the line that the session has begun, on a device that tells its blocks, a round failed so in these bytes
abbrev pub RoundFails : {D : Type 0} → Ghosts D → Session → List ℕ → RoundFault → List ℕ → Waiting → D → Type 0
RoundFails d s bytes fault settled0 waiting old = (image : Image) (line : List ℕ) → (d.state old).shown ≡ Some image
    → IsFalse (has_line_feed line) → kept_in s ≡ kept_of line
    → FailsSeen (seen_of (store_in s) image) (line ++ bytes) fault settled0 waiting.settled_text

-- on a device that tells its blocks, from wherever a round has got to, it goes on by these bytes
abbrev pub SeesFurther : {D : Type 0} → Ghosts D → Session → Session → List ℕ → Waiting → Waiting → D → D → Type 0
SeesFurther d s t bytes now waiting old new = (v : StoreView) (image : Image) (before : List ℕ) (waiting0 : Waiting)
    (start : told.State) → start.shown ≡ Some image
    → Sees v image before (kept_in s) s.wrote waiting0 now (store_in s) start (d.state old)
    → Sees v image (before ++ bytes) (kept_in t) t.wrote waiting0 waiting (store_in t) start (d.state new)

-- on a device that tells its blocks, from wherever a round has got to, it fails so in these bytes
abbrev pub FailsFurther : {D : Type 0} → Ghosts D → Session → List ℕ → RoundFault → Waiting → Waiting → D → Type 0
FailsFurther d s bytes fault now waiting old = (v : StoreView) (image : Image) (before : List ℕ) (waiting0 : Waiting)
    (start : told.State) → start.shown ≡ Some image
    → Sees v image before (kept_in s) s.wrote waiting0 now (store_in s) start (d.state old)
    → FailsSeen (seen_of v image) (before ++ bytes) fault waiting0.settled_text waiting.settled_text

-- behind the line that the session has begun, on a device that tells its blocks, these bytes were answered so
abbrev pub SeesAll : {D : Type 0} → Ghosts D → Session → Session → List ℕ → Waiting → Waiting → D → D → Type 0
SeesAll d s t bytes waiting0 waiting old new = (image : Image) (line : List ℕ) → (d.state old).shown ≡ Some image
    → IsFalse (has_line_feed line) → kept_in s ≡ kept_of line
    → Sees (store_in s) image (line ++ bytes) (kept_in t) t.wrote waiting0 waiting (store_in t) (d.state old)
    (d.state new)

-- the sink took bytes more, and the output with them is that of the lines
pub record SeesMore (sight : Sight) (input output : List ℕ) (stands0 stands : List ℕ → Type 0)
    (still : Type 0) : Type 0 where
  pub added : List ℕ
  pub gained : Gains stands0 stands added
  pub lines : SeesLines sight input (output ++ added) still

-- the sink took bytes more, and with them serving is over
pub record EndsSeen (sight : Sight) (status : Served) (input output : List ℕ) (stands0 stands : List ℕ
    → Type 0) : Type 0 where
  pub added : List ℕ
  pub gained : Gains stands0 stands added
  pub answers : AnswersSeen sight status input (output ++ added)

-- on any blocks, from wherever serving has got to, it goes on by these bytes
abbrev pub SeesOnBy : {D K : Type 0} → Ghosts D → Sinks K → Session → Session → List ℕ → K → K → D → D → Type 0
SeesOnBy d k s t bytes sink0 sink old new = (v : StoreView) (image : Image) (input output : List ℕ) (start : told.State)
    → start.shown ≡ Some image
    → SeesLines (seen_of v image) input output (StaysBehind input (kept_in s) v (store_in s) start (d.state old))
    → SeesMore (seen_of v image) (input ++ bytes) output (k.stands sink0) (k.stands sink)
    (StaysBehind (input ++ bytes) (kept_in t) v (store_in t) start (d.state new))

-- on any blocks, from wherever serving has got to, it ends in these bytes
abbrev pub SeesEnd : {D K : Type 0} → Ghosts D → Sinks K → Session → Served → List ℕ → K → K → D → Type 0
SeesEnd d k s status bytes sink0 sink old = (v : StoreView) (image : Image) (input output : List ℕ) (start : told.State)
    → start.shown ≡ Some image
    → SeesLines (seen_of v image) input output (StaysBehind input (kept_in s) v (store_in s) start (d.state old))
    → EndsSeen (seen_of v image) status (input ++ bytes) output (k.stands sink0) (k.stands sink)

-- on any blocks, from wherever serving has got to, it ends at the end of input
abbrev pub SeesEndOfInput : {K : Type 0} → Sinks K → Session → Served → K → K → Type 0
SeesEndOfInput k s status sink0 sink = (v : StoreView) (image : Image) (input output : List ℕ) (start now : told.State)
    → SeesLines (seen_of v image) input output (StaysBehind input (kept_in s) v (store_in s) start now)
    → EndsSeen (seen_of v image) status input output (k.stands sink0) (k.stands sink)

-- on a device that tells its blocks, what was taken of the source was answered by what is seen of the keys on them
abbrev pub ServesAsSeen : {S K D : Type 0} → Sources S → Sinks K → Ghosts D → (Image → Sight) → Served → S → S → K → K
    → D → Type 0
ServesAsSeen u k d sight status source0 source sink0 sink old = (image : Image) → (d.state old).shown ≡ Some image
    → ServesSeen (sight image) status (u.left source0) (u.left source) (k.stands sink0) (k.stands sink)

-- on any blocks, from wherever serving has got to, it goes on by what was taken of the source
abbrev pub SeesTurn : {S K D : Type 0} → Sources S → Sinks K → Ghosts D → Session → Session → S → S → K → K → D → D
    → Type 0
SeesTurn u k d s t source0 source sink0 sink old new = (v : StoreView) (image : Image) (input output : List ℕ)
    (start : told.State) → start.shown ≡ Some image
    → SeesLines (seen_of v image) input output (StaysBehind input (kept_in s) v (store_in s) start (d.state old))
    → (taken : List ℕ) × Takes (u.left source0) (u.left source) taken
    × SeesMore (seen_of v image) (input ++ taken) output (k.stands sink0) (k.stands sink)
    (StaysBehind (input ++ taken) (kept_in t) v (store_in t) start (d.state new))

-- on any blocks, from wherever serving has got to, it ends in what was taken of the source
abbrev pub SeesLast : {S K D : Type 0} → Sources S → Sinks K → Ghosts D → Session → Served → S → S → K → K → D
    → Type 0
SeesLast u k d s status source0 source sink0 sink old = (v : StoreView) (image : Image) (input output : List ℕ)
    (start : told.State) → start.shown ≡ Some image
    → SeesLines (seen_of v image) input output (StaysBehind input (kept_in s) v (store_in s) start (d.state old))
    → (taken : List ℕ) × Takes (u.left source0) (u.left source) taken
    × EndsSeen (seen_of v image) status (input ++ taken) output (k.stands sink0) (k.stands sink)

-- ---- on the device that the store is open on, and on any that tells its blocks

-- behind the line that the session has begun, these bytes were acted, whatever the device tells
abbrev pub AnswersLines : {D : Type 0} → Ghosts D → Session → Session → List ℕ → Waiting → Waiting → D → D → Type 0
AnswersLines d s t bytes waiting0 waiting old new = ActsLines d s t bytes waiting0 waiting old new
    × SeesAll d s t bytes waiting0 waiting old new

-- a round failed in these bytes
abbrev pub FailsInLines : {D : Type 0} → Ghosts D → Session → Session → List ℕ → RoundFault → Waiting → Waiting → D
    → D → Type 0
FailsInLines d s t bytes fault waiting0 waiting old new = StopsInLines d s t bytes fault waiting0 waiting old new
    × RoundFails d s bytes fault waiting0.settled_text waiting old

-- from wherever a round has got to, it goes on by these bytes
abbrev pub AnswersFurther : {D : Type 0} → Ghosts D → Session → Session → List ℕ → Waiting → Waiting → D → D → Type 0
AnswersFurther d s t bytes now waiting old new = ActsFurther d s t bytes now waiting old new
    × SeesFurther d s t bytes now waiting old new

-- from wherever a round has got to, it fails in these bytes
abbrev pub EndsFurther : {D : Type 0} → Ghosts D → Session → Session → List ℕ → RoundFault → Waiting → Waiting → D → D
    → Type 0
EndsFurther d s t bytes fault now waiting old new = StopsFurther d s t bytes fault now waiting old new
    × FailsFurther d s bytes fault now waiting old

-- from wherever serving has got to, it goes on by these bytes
abbrev pub StepsOn : {D K : Type 0} → Ghosts D → Sinks K → Session → Session → List ℕ → K → K → D → D → Type 0
StepsOn d k s t bytes sink0 sink old new = GoesOnBy d k s t bytes sink0 sink old new
    × SeesOnBy d k s t bytes sink0 sink old new

-- from wherever serving has got to, it ends in these bytes
abbrev pub StepsOver : {D K : Type 0} → Ghosts D → Sinks K → Session → Served → List ℕ → K → K → D → D → Type 0
StepsOver d k s status bytes sink0 sink old new = EndsIn d k s status bytes sink0 sink old new
    × SeesEnd d k s status bytes sink0 sink old

-- from wherever serving has got to, it goes on by what was taken of the source
abbrev pub TakesOn : {S K D : Type 0} → Sources S → Sinks K → Ghosts D → Session → Session → S → S → K → K → D → D
    → Type 0
TakesOn u k d s t source0 source sink0 sink old new = TurnsOn u k d s t source0 source sink0 sink old new
    × SeesTurn u k d s t source0 source sink0 sink old new

-- from wherever serving has got to, it ends in what was taken of the source
abbrev pub TakesOver : {S K D : Type 0} → Sources S → Sinks K → Ghosts D → Session → Served → S → S → K → K → D → D
    → Type 0
TakesOver u k d s status source0 source sink0 sink old new = TurnsOver u k d s status source0 source sink0 sink old new
    × SeesLast u k d s status source0 source sink0 sink old
