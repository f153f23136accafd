-- Events of a store, and the steps of the map machine that they are.
use Rattle.std.specs.Prelude.{◌≡◌, ℕ, Bool, true, false, List, [], take, Option, Some, None, Result, Ok, Err, IsTrue}
use Rattle.lt_terms.specs.Items.{Item, is_key, is_valid, put_of, delete_of}
use Rattle.lt_image.specs.Standing.{after_writes}
use Rattle.lt_language.specs.Commands as commands
use Rattle.lt_language.specs.Commands.{Command}
use Rattle.lt_language.specs.Machine.{State, Step}
use Rattle.lt_language.specs.Replies as replies
use Rattle.lt_language.specs.Replies.{Reply}
use Rattle.lt_store.specs.declared.acting.EventView.{EventView}
use Rattle.lt_store.specs.declared.acting.EventView.TheVariants as events
use Rattle.lt_store.specs.declared.acting.Outcome.{Outcome}
use Rattle.lt_store.specs.declared.acting.Outcome.TheVariants as outcomes
use Rattle.lt_store.specs.declared.faults.WriteFault.{WriteFault}
use Rattle.lt_store.specs.declared.faults.WriteFault.TheVariants as writes
use Rattle.lt_store.specs.declared.writing.Taken.TheVariants as taken
use Rattle.lt_htable.specs.declared.faults.LookFault.{LookFault}
use Rattle.lt_htable.specs.declared.faults.LookFault.TheVariants.{Damaged}
use Rattle.lt_format.specs.Snapshot.{Named}
use Rattle.lt_terms.specs.Bytes.{Image}
use Rattle.lt_store.specs.Promise.{IsReplyTo, StopsGet, RepliesSeen}
use Rattle.lt_search.specs.Found.{KeepsRest}
use Rattle.lt_store.specs.Getting.{most_reads_of}
use Rattle.lt_store.specs.Open.{StoreView, extents_of, state_of}
use Rattle.lt_store.specs.Taking.{accepted_by}

-- the command that an event is; a commit is none
abbrev pub command_of : EventView → Option Command
command_of (events.Put key value) = Some (commands.put key.now value.now)
command_of (events.Delete key) = Some (commands.delete key.now)
command_of (events.Get key) = Some (commands.get key.now)
command_of events.Stat = Some commands.stat
command_of events.Commit = None

-- the item that an event writes
abbrev pub write_of : EventView → Option Item
write_of (events.Put key value) = Some (put_of key.now value.now)
write_of (events.Delete key) = Some (delete_of key.now)
write_of event = None

-- the condition of an event: a valid item where it writes one
abbrev pub MayAct : EventView → Type 0
MayAct (events.Put key value) = IsTrue (is_valid (put_of key.now value.now))
MayAct (events.Delete key) = IsTrue (is_key key.now)
MayAct event = Unit {0}

-- a get or a stat, which change nothing
abbrev pub only_asks : EventView → Bool
only_asks (events.Get key) = true
only_asks events.Stat = true
only_asks event = false

-- the item that was taken with this outcome
abbrev pub accepted_as : Outcome → Option Item → List Item
accepted_as (outcomes.Taken answer) (Some item) = accepted_by item answer
accepted_as outcome item = []

-- the reply that an outcome is; a value stands at the front of the page
abbrev pub reply_of : Outcome → List ℕ → Option Reply
reply_of (outcomes.Taken taken.Ok) page = Some replies.ok
reply_of (outcomes.Taken (taken.Full needed free)) page = Some (replies.full needed free)
reply_of (outcomes.Taken taken.Limit) page = Some replies.limit
reply_of (outcomes.Value n) page = Some (replies.value (take n page))
reply_of outcomes.Missing page = Some replies.none
reply_of (outcomes.Stat s) page = Some (replies.stat s.writes s.reads s.tables s.free)
reply_of outcomes.Committed page = None

-- a command with its reply is a step of the map machine in a store of e extents; a commit has no reply and
-- leaves the state
abbrev pub IsStep : ℕ → State → Option Command → Option Reply → State → Type 0
IsStep e s (Some command) (Some reply) s' = Step e s command reply s'
IsStep e s None None s' = s' ≡ s
IsStep e s command reply s' = ⊥

-- an event with its outcome is a step of the map machine, from the state that the store answers for to that with
-- the write that was taken
abbrev pub IsStepOf : StoreView → State → EventView → Outcome → List ℕ → Type 0
IsStepOf v durable event outcome page =
    IsStep (extents_of v) (state_of v durable) (command_of event) (reply_of outcome page)
    (after_writes (state_of v durable) (accepted_as outcome (write_of event)))

-- a refusal for want of extents tells of the store alone where no job is in flight, which may have reserved some
abbrev pub IsOwn : StoreView → Outcome → Type 0
IsOwn v outcome = (needed free : ℕ) → outcome ≡ outcomes.Taken (taken.Full needed free) → v.work.job ≡ None

-- a command has a reply of its kind, and a commit has none
abbrev pub IsKind : Option Command → Option Reply → Type 0
IsKind (Some command) (Some reply) = IsReplyTo command reply
IsKind None None = Unit {0}
IsKind command reply = ⊥

-- the page stays as it is, but for a value
abbrev pub KeepsOut : Result Outcome WriteFault → List ℕ → List ℕ → Type 0
KeepsOut (Ok (outcomes.Value n)) old new = KeepsRest (Some n) old new
KeepsOut result old new = new ≡ old

-- how many blocks an event that writes no item reads at most, whatever the device tells
abbrev pub most_reads_by : StoreView → EventView → ℕ
most_reads_by v (events.Get key) = most_reads_of v key.now
most_reads_by v event = 0

-- what a get's event answers, where the key is seen like this: the reply, or the block that spells no bucket,
-- unless the device failed
abbrev pub TellsSeen : Result (Option Item) LookFault → List ℕ → Result Outcome WriteFault → Type 0
TellsSeen seen page (Ok outcome) = RepliesSeen seen (reply_of outcome page)
TellsSeen seen page (Err writes.Device) = Unit {0}
TellsSeen seen page (Err (writes.Damaged block)) = seen ≡ Err (Damaged block)
TellsSeen seen page (Err writes.NoMemory) = ⊥

-- the event is a get of a key that stops at this block
pub record IsStopped (named : Named) (shown : Option Image) (event : EventView) (block : ℕ) : Type 0 where
  pub key : List ℕ
  pub get : command_of event ≡ Some (commands.get key)
  pub stops : StopsGet named shown key block
