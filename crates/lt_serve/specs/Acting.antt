-- What a command makes of the store, of the device and of the replies that wait.
use Rattle.std.specs.Prelude.{◌≡◌, ℕ, ◌≤◌, Bool, true, false, ◌||◌, List, [], ◌∷◌, take, length, Result, Ok, Err, Some}
use Rattle.lt_terms.specs.Items.{Item}
use Rattle.lt_terms.specs.Bytes.{Image}
use Rattle.lt_device.specs.declared.device.Device.{Ghosts}
use Rattle.lt_device.specs.Moments.{MayLeave}
use Rattle.lt_image.specs.Standing.{HasCounts, after_writes}
use Rattle.lt_language.specs.declared.Bad.{Bad}
use Rattle.lt_language.specs.Commands as commands
use Rattle.lt_language.specs.Commands.{Command, command_of as command_of_line}
use Rattle.lt_language.specs.Valid.{IsWithinLimits}
use Rattle.lt_language.specs.Machine.{State}
use Rattle.lt_language.specs.Replies.{Reply, text}
use Rattle.lt_line.specs.Held.{kept_of}
use Rattle.lt_line.specs.Waiting.{Waiting, with_text, all_settled}
use Rattle.lt_serve.specs.declared.faults.RoundFault.{RoundFault}
use Rattle.lt_serve.specs.declared.faults.RoundFault.TheVariants as faults
use Rattle.lt_serve.specs.Faults.{IsLost}
use Rattle.lt_store.specs.declared.acting.EventView.{EventView}
use Rattle.lt_store.specs.Acting.{MayAct, command_of}
use Rattle.lt_store.specs.Going.{Goes, Survives}
use Rattle.lt_store.specs.Open.{IsOpen, StoreView, extents_of, state_of}
use Rattle.lt_store.specs.Promise.{AtRest}
use Rattle.lt_serve.specs.Promise.{KeepsPast, Moment, OnStat, ReadsRise, Runs, TellsCounts, is_ok, moment_of}
use Rattle.lt_serve.specs.View.{kept_in, store_in}
use Rattle.lt_serve.specs.declared.session.Session.{Session}

-- What the reply to a command tells, where it is a `STAT`: the count of reads, which does not fall, and the tables and
-- free extents of each image that a crash may leave, where few writes are pending. A past that was told still is.
pub record TellsStat (v : StoreView) (old new : Moment) (reply : Reply) : Type 0 where
  pub reads : ReadsRise old.reads new.reads (reply ∷ [])
  pub images : OnStat (λ tables free. (length v.log.pending ≤ 818)
      × ((left : Image) → MayLeave old.state left → HasCounts left tables free)) reply
  pub past : KeepsPast old.state new.state

-- The command was answered by the map machine, and its reply waits; `taken` where it is a write that was taken.
pub record CommandAnswered (v : StoreView) (durable : State) (command : Command) (taken : Bool)
    (waiting0 waiting : Waiting) (w : StoreView) (old new : Moment) : Type 0 where
  pub reply : Reply
  pub writes : List Item
  pub runs : Runs (extents_of v) (state_of v durable) (command ∷ []) (reply ∷ []) writes
  pub goes : Goes v writes w durable old.state new.state
  -- where nothing was pending and no write was taken, the device is as before
  pub quiet : v.log.pending ≡ [] → writes ≡ [] → new.state ≡ old.state
  -- what it tells, where it is a `STAT`
  pub stat : TellsStat v old new reply
  pub taken_is : taken ≡ is_ok reply
  pub fits : length (text reply) ≤ waiting0.room
  pub told : waiting ≡ with_text waiting0 (text reply)

-- The command was not answered, and no block is damaged. All that was durable still is, at each moment; where memory
-- was short the device is at rest.
pub record CommandFailed (v : StoreView) (durable : State) (fault : RoundFault) (old new : Moment) : Type 0 where
  pub lost : IsLost fault
  pub survives : Survives v [] durable old.state new.state
  pub rests : fault ≡ faults.NoMemory → (sure : ℕ) × AtRest (after_writes durable (take sure v.log.pending)) new.state
  -- and the count of reads did not fall
  pub counts : TellsCounts durable [] [] old new

-- where the store is open on the device, the command was answered
abbrev pub AnswersWhereOpen : {D : Type 0} → Ghosts D → StoreView → Command → Bool → Waiting → Waiting → StoreView → D
    → D → Type 0
AnswersWhereOpen d v command taken waiting0 waiting w old new = (durable : State) → IsOpen v durable (d.state old)
    → CommandAnswered v durable command taken waiting0 waiting w (moment_of d old) (moment_of d new)

-- where the store is open on the device, the command was not answered, and nothing is lost
abbrev pub FailsWhereOpen : {D : Type 0} → Ghosts D → StoreView → RoundFault → D → D → Type 0
FailsWhereOpen d v fault old new = (durable : State) → IsOpen v durable (d.state old)
    → CommandFailed v durable fault (moment_of d old) (moment_of d new)

-- the replies that wait, all of them settled as long as no write was taken
abbrev pub settled_unless : Bool → Waiting → Waiting
settled_unless true w = w
settled_unless false w = all_settled w

-- A line was answered by the map machine, and its reply is settled as long as no write was taken.
pub record LineAnswered (v : StoreView) (durable : State) (command : Command) (wrote0 wrote : Bool)
    (waiting0 waiting : Waiting) (w : StoreView) (old new : Moment) : Type 0 where
  pub reply : Reply
  pub writes : List Item
  pub runs : Runs (extents_of v) (state_of v durable) (command ∷ []) (reply ∷ []) writes
  pub goes : Goes v writes w durable old.state new.state
  -- where nothing was pending and no write was taken, the device is as before
  pub quiet : v.log.pending ≡ [] → writes ≡ [] → new.state ≡ old.state
  -- what it tells, where it is a `STAT`
  pub stat : TellsStat v old new reply
  pub wrote_is : wrote ≡ (wrote0 || is_ok reply)
  pub fits : length (text reply) ≤ waiting0.room
  pub told : waiting ≡ settled_unless wrote (with_text waiting0 (text reply))

-- where the session's store is open on the device, the line that it holds was answered
abbrev pub AnswersHeld : {D : Type 0} → Ghosts D → Session → Session → Waiting → Waiting → D → D → Type 0
AnswersHeld d s t waiting0 waiting old new = (line : List ℕ) (durable : State) → kept_in s ≡ kept_of line
    → IsOpen (store_in s) durable (d.state old)
    → LineAnswered (store_in s) durable (command_of_line line) s.wrote t.wrote waiting0 waiting (store_in t)
    (moment_of d old) (moment_of d new)

-- the event is the command's, and it may be acted where the command keeps to its limits; a refused line is no event
abbrev pub IsEventOf : Command → Result EventView Bad → Type 0
IsEventOf command (Ok event) = (command_of event ≡ Some command) × (IsWithinLimits command → MayAct event)
IsEventOf command (Err kind) = command ≡ commands.bad kind
