-- What a call leaves of a store and of its device, whichever state was durable.
use Rattle.std.specs.Prelude.{◌≡◌, ◌↔◌, ℕ, true, false, List, [], Option, Some, Result, Ok, IfOk, IsErr, IsErrOf}
use Rattle.std.specs.Prelude.{OnErr, OnOk}
use Rattle.lt_terms.specs.Items.{Item}
use Rattle.lt_device.specs.declared.device.Device.{Ghosts}
use Rattle.lt_device.specs.Calls.{OnlyWrites}
use Rattle.lt_device.specs.Moments.{Leaves}
use Rattle.lt_language.specs.Machine.{State, most_writes}
use Rattle.lt_store.specs.declared.acting.Outcome.{Outcome}
use Rattle.lt_store.specs.declared.acting.Outcome.TheVariants as outcomes
use Rattle.lt_store.specs.declared.faults.FlushFault.{FlushFault}
use Rattle.lt_store.specs.declared.faults.FlushFault.TheVariants.{Device}
use Rattle.lt_store.specs.declared.faults.WriteFault.{WriteFault}
use Rattle.lt_store.specs.declared.faults.WriteFault.TheVariants as faults
use Rattle.lt_store.specs.declared.store.Store.{Store}
use Rattle.lt_store.specs.declared.writing.Taken.{Taken}
use Rattle.lt_store.specs.declared.writing.Taken.TheVariants as answers
use Rattle.lt_store.specs.Committing.{StandsForEither}
use Rattle.lt_store.specs.Flushing.{HasCommitted, IsFlushed, IsPrepared, Stays, StaysDown}
use Rattle.lt_store.specs.Going.{Goes, Survives}
use Rattle.lt_store.specs.Open.{IsOpen, SameRegions, state_of}
use Rattle.lt_store.specs.Taking.{IsFull, accepted_by}
use Rattle.lt_store.specs.View.{view_of}
use Rattle.lt_store.specs.Writing.{InPlace, Writes}

-- neither the store nor its device has changed
abbrev pub Unchanged : {T : Type 0} → Store → Store → T → T → Type 0
Unchanged s t old new = (view_of t ≡ view_of s) × (new ≡ old)

-- this holds of each state for which the store is open on the device
abbrev pub WhereOpen : {T : Type 0} → Ghosts T → Store → T → (State → Type 0) → Type 0
WhereOpen D s device P = (durable : State) → IsOpen (view_of s) durable (D.state device) → P durable

-- the store went on, with these writes accepted
abbrev pub GoesOn : {T : Type 0} → Ghosts T → Store → List Item → Store → T → T → Type 0
GoesOn D s accepted t old new =
    WhereOpen D s old (λ durable. Goes (view_of s) accepted (view_of t) durable (D.state old) (D.state new))

-- nothing of what was durable or pending is lost at any moment
abbrev pub LosesNothing : {T : Type 0} → Ghosts T → Store → T → T → Type 0
LosesNothing D s old new = WhereOpen D s old (λ durable. Survives (view_of s) [] durable (D.state old) (D.state new))

-- on each image since, the open group stands as a whole, or not at all
abbrev pub KeepsGroup : {T : Type 0} → Ghosts T → Store → T → T → Type 0
KeepsGroup D s old new = WhereOpen D s old
    (λ durable. Leaves (StandsForEither durable (state_of (view_of s) durable)) (D.state old) (D.state new))

-- each image since stands for what was durable
abbrev pub KeepsDurable : {T : Type 0} → Ghosts T → Store → T → T → Type 0
KeepsDurable D s old new = WhereOpen D s old (λ durable. Stays durable (D.state old) (D.state new))

-- the store is open for what was durable
abbrev pub StaysOpen : {T : Type 0} → Ghosts T → Store → Store → T → T → Type 0
StaysOpen D s t old new = WhereOpen D s old (λ durable. IsOpen (view_of t) durable (D.state new))

-- the store was flushed
abbrev pub Flushes : {T : Type 0} → Ghosts T → Store → Store → T → T → Type 0
Flushes D s t old new = WhereOpen D s old (λ _. IsFlushed (view_of s) (view_of t) (D.state new))

-- this holds where the store is open and prepared for a flush into these extents
abbrev pub WherePrepared : {T : Type 0} → Ghosts T → Store → List ℕ → T → (State → Type 0) → Type 0
WherePrepared D s numbers device P = (durable : State) (o : IsOpen (view_of s) durable (D.state device))
    → IsPrepared (view_of s) numbers o.rest.image → P durable

-- what becomes of a put or a delete of this item that answered so
abbrev pub Written : {T : Type 0} → Ghosts T → Item → Store → Store → Result Taken WriteFault → T → T → Type 0
Written D item s t result old new =
    Writes D item (view_of s) (view_of t) (λ answer. result ≡ Ok answer) (λ fault. IsErrOf result fault) old new

-- and as long as no write moves a table down
abbrev pub WrittenInPlace : {T : Type 0} → Ghosts T → Item → Store → Store → Result Taken WriteFault → T → T → Type 0
WrittenInPlace D item s t result old new = InPlace D (Some item) (view_of s) (view_of t)
    (λ answer. result ≡ Ok answer) (λ fault. IsErrOf result fault) old new

-- what becomes of an event that writes this item, and answered so
abbrev pub EventWritten : {T : Type 0} → Ghosts T → Item → Store → Store → Result Outcome WriteFault → T → T → Type 0
EventWritten D item s t result old new = Writes D item (view_of s) (view_of t)
    (λ answer. result ≡ Ok (outcomes.Taken answer)) (λ fault. IsErrOf result fault) old new

-- and of any event as long as no write moves a table down
abbrev pub EventInPlace : {T : Type 0} → Ghosts T → Option Item → Store → Store → Result Outcome WriteFault → T → T
    → Type 0
EventInPlace D written s t result old new = InPlace D written (view_of s) (view_of t)
    (λ answer. result ≡ Ok (outcomes.Taken answer)) (λ fault. IsErrOf result fault) old new

-- The open group was committed, or had no need to be: on Ok the store went on from what was durable, and else it is
-- down; on each image since, the open group stands as a whole, or not at all.
pub record Commits {T A E : Type 0} (D : Ghosts T) (s t : Store) (result : Result A E) (old new : T) : Type 0 where
  pub goes : OnOk result (GoesOn D s [] t old new)
  pub whole : KeepsGroup D s old new
  pub up : OnOk result (t.is_up ≡ true)
  pub err : OnErr result (t.is_up ≡ false)
  pub calls : OnlyWrites D (IsErr result) old new

-- The store was flushed, or not: each image since stands for what was durable; and while the store is up, it is open
-- for that, with the same regions and the same job in flight.
pub record LivesOn {T A : Type 0} (D : Ghosts T) (s t : Store) (result : Result A FlushFault)
    (old new : T) : Type 0 where
  pub stays : KeepsDurable D s old new
  pub opened : t.is_up ≡ true → StaysOpen D s t old new
  pub up : (t.is_up ≡ false) ↔ IsErrOf result Device
  pub writes : t.writes ≡ s.writes
  pub regions : t.is_up ≡ true → SameRegions (view_of s) (view_of t)
  pub job : t.is_up ≡ true → t.work.job ≡ s.work.job
  pub calls : OnlyWrites D (IsErrOf result Device) old new

-- The manifest was committed with tables in these extents, or not; the store is down.
pub record Installs {T A : Type 0} (D : Ghosts T) (s t : Store) (numbers : List ℕ) (result : Result A FlushFault)
    (old new : T) : Type 0 where
  pub committed : OnOk result (HasCommitted (view_of s) (view_of t) numbers)
  pub stays_down : StaysDown (view_of s) (view_of t)
  pub refused : t.refused ≡ s.refused
  pub calls : OnlyWrites D (IsErrOf result Device) old new

-- All that a put or a delete of this item says.
pub record TakesItem {T : Type 0} (D : Ghosts T) (item : Item) (s t : Store) (result : Result Taken WriteFault)
    (old new : T) : Type 0 where
  pub taken : IfOk result (λ answer. GoesOn D s (accepted_by item answer) t old new)
  pub limit : (result ≡ Ok answers.Limit) ↔ (s.writes ≡ most_writes)
  pub full : (needed free : ℕ) → result ≡ Ok (answers.Full needed free) → IsFull (view_of t) needed free
  pub whole : KeepsGroup D s old new
  pub writes : Written D item s t result old new
  pub in_place : WrittenInPlace D item s t result old new
  pub job : t.is_up ≡ true → t.work.job ≡ s.work.job
  pub up : (t.is_up ≡ false) ↔ IsErrOf result faults.Device
