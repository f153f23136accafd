-- What an event comes to.
use Rattle.std.proofs.Common.{◌≡◌, ℕ, ◌+◌, ◌*◌, ◌<◌, ◌≤◌, refl, sym, ap, subst, ◌∙◌, List, [], Bool, true, false, Option, Some, None, take, Result, Ok, Err, true≢false}
use Rattle.std.specs.Prelude.{◌↔◌, ◌≢◌, IsErrOf}
use Rattle.lt_terms.specs.Items.{Item, put_of, delete_of}
use Rattle.lt_device.specs.State as told
use Rattle.lt_language.specs.Commands as commands
use Rattle.lt_language.specs.Commands.{Command}
use Rattle.lt_language.specs.Machine.{State, found, most_writes}
use Rattle.lt_image.specs.Standing.{after_writes}
use Rattle.lt_store.specs.declared.acting.Outcome.{Outcome}
use Rattle.lt_store.specs.declared.acting.Outcome.TheVariants as outcomes
use Rattle.lt_store.specs.declared.counts.Stat.{Stat}
use Rattle.lt_store.specs.declared.faults.WriteFault.{WriteFault}
use Rattle.lt_store.specs.declared.faults.WriteFault.TheVariants.{Device, Damaged, NoMemory}
use Rattle.lt_store.specs.declared.writing.Taken.{Taken}
use Rattle.lt_store.specs.declared.writing.Taken.TheVariants as taken
use Rattle.lt_htable.specs.declared.faults.LookFault.{LookFault}
use Rattle.lt_htable.specs.declared.faults.LookFault.TheVariants as looks
use Rattle.lt_store.specs.Acting.{IsKind, IsStep, TellsSeen, reply_of}
use Rattle.lt_store.specs.Promise.{RepliesSeen}
use Rattle.lt_store.specs.Faults.{fault_of_look}
use Rattle.lt_store.specs.Getting.{AnswersSeen, Finds, KeepsBound}
use Rattle.lt_tables.specs.Table.{value_of}
use Rattle.lt_language.specs.Replies as replies
use Rattle.lt_language.specs.Replies.{Reply}
use Rattle.lt_store.specs.Going.{Goes}
use Rattle.lt_store.specs.Open.{StoreView, IsOpen}
use Rattle.lt_store.specs.Promise.{IsReplyTo, IsWriteReply}
use Rattle.lt_store.specs.Taking.{accepted_by}
use Rattle.lt_device.specs.declared.device.Device.{Ghosts}
use Rattle.lt_store.specs.Writing.{InPlace, Writes}
use Rattle.lt_store.proofs.GoLaws.{goes-none}
use Rattle.lt_image.proofs.KeptLaws.{no_writes}

-- ---- calls that ask

pub asks-goes : (v w : StoreView) (d : State) (s t : told.State) → w ≡ v → t ≡ s → IsOpen v d s → Goes v [] w d s t
asks-goes v w d s t same kept o = subst (λ x. Goes v [] x d s t) (sym same) (subst (λ e. Goes v [] v d s e) (sym kept) (goes-none v d s o))

pub stat-step : (e : ℕ) (s : State) (stat : Stat) (page : List ℕ) → stat.writes ≡ s.writes → stat.tables + stat.free ≤ e → IsStep e s (Some commands.stat) (reply_of (outcomes.Stat stat) page) (after_writes s [])
stat-step e s stat page number within = ((number, within), no_writes s)

-- ---- writes

module _ (e n : ℕ) (s : State) (answer : Taken) (number : s.writes ≡ n) (limit : (answer ≡ taken.Limit) ↔ (n ≡ most_writes)) (full : (needed free : ℕ) → answer ≡ taken.Full needed free → (free < needed) × (e < 2 * n)) where
  below : (answer ≡ taken.Limit → ⊥) → s.writes ≢ most_writes
  below other at = other (limit.1 (sym number ∙ at))

  room : (needed free : ℕ) → answer ≡ taken.Full needed free → (free < needed) × (e < 2 * s.writes)
  room needed free is = let short = full needed free is in (short.0, subst (λ m. e < 2 * m) (sym number) short.1)

  pub put-step : (key value page : List ℕ) → IsStep e s (Some (commands.put key value)) (reply_of (outcomes.Taken answer) page) (after_writes s (accepted_by (put_of key value) answer))
  put-step key value page = by_answer answer refl
    where
      by_answer : (t : Taken) → answer ≡ t → IsStep e s (Some (commands.put key value)) (reply_of (outcomes.Taken t) page) (after_writes s (accepted_by (put_of key value) t))
      by_answer taken.Ok is = (below (λ h. cc), refl)
      by_answer (taken.Full needed free) is = let short = room needed free is in (below (λ h. cc), short.0, short.1, no_writes s)
      by_answer taken.Limit is = (number ∙ limit.0 is, no_writes s)

  pub delete-step : (key page : List ℕ) → IsStep e s (Some (commands.delete key)) (reply_of (outcomes.Taken answer) page) (after_writes s (accepted_by (delete_of key) answer))
  delete-step key page = by_answer answer refl
    where
      by_answer : (t : Taken) → answer ≡ t → IsStep e s (Some (commands.delete key)) (reply_of (outcomes.Taken t) page) (after_writes s (accepted_by (delete_of key) t))
      by_answer taken.Ok is = (below (λ h. cc), refl)
      by_answer (taken.Full needed free) is = let short = room needed free is in (below (λ h. cc), short.0, short.1, no_writes s)
      by_answer taken.Limit is = (number ∙ limit.0 is, no_writes s)

-- the reply to a write is of its kind
pub write-kind : (command : Command) (answer : Taken) (page : List ℕ) → ((reply : Reply) → IsWriteReply reply → IsReplyTo command reply) → IsKind (Some command) (reply_of (outcomes.Taken answer) page)
write-kind command taken.Ok page kind = kind replies.ok tt
write-kind command (taken.Full needed free) page kind = kind (replies.full needed free) tt
write-kind command taken.Limit page kind = kind replies.limit tt

-- a write that was refused, with the store up or not
module _ (up : Bool) (result : Result Taken WriteFault) (fault : WriteFault) (was : result ≡ Err fault) (downs : (up ≡ false) ↔ IsErrOf result Device) (undamaged : (b : ℕ) → IsErrOf result (Damaged b) → ⊥) where
  pub refused-goes : (G : Type 0) → (IsErrOf result NoMemory → G) → up ≡ true → G
  refused-goes G refused is = by_fault fault was
    where
      by_fault : (f : WriteFault) → result ≡ Err f → G
      by_fault Device w = absurd (true≢false (sym is ∙ downs.1 w))
      by_fault (Damaged b) w = absurd (undamaged b w)
      by_fault NoMemory w = refused w

-- ---- what a get's event sees

-- the key of a get
pub same-key : (a b : List ℕ) → ◌≡◌ {A = Option Command} (Some (commands.get a)) (Some (commands.get b)) → a ≡ b
same-key a b h = cc

-- the bound of a get's key is that of the command's
pub get-bound : {T : Type 0} (D : Ghosts T) (pending : List Item) (a b : List ℕ) (command : Option Command) (old new : T) → command ≡ Some (commands.get a) → command ≡ Some (commands.get b) → KeepsBound D pending a old new → KeepsBound D pending b old new
get-bound D pending a b command old new is was h = subst (λ (k : List ℕ). KeepsBound D pending k old new) (same-key a b (sym is ∙ was)) h

pub tells-fault : (page : List ℕ) (seen : Result (Option Item) LookFault) (fault : LookFault) (told : WriteFault) → told ≡ fault_of_look fault → AnswersSeen page seen (Err fault) → TellsSeen seen page (Err told)
tells-fault page seen looks.Device told is h = subst (λ (f : WriteFault). TellsSeen seen page (Err f)) (sym is) tt
tells-fault page seen (looks.Damaged b) told is h = subst (λ (f : WriteFault). TellsSeen seen page (Err f)) (sym is) (by_seen seen h)
  where
    by_seen : (r : Result (Option Item) LookFault) → AnswersSeen page r (Err (looks.Damaged b)) → r ≡ Err (looks.Damaged b)
    by_seen (Ok item) h = absurd h
    by_seen (Err fault) h = ap Err h

-- the reply of a value that was found
pub tells-value : (page : List ℕ) (seen : Result (Option Item) LookFault) (n : ℕ) → AnswersSeen page seen (Ok (Some n)) → RepliesSeen seen (Some (replies.value (take n page)))
tells-value page (Err fault) n h = absurd h
tells-value page (Ok item) n h = by_value (value_of item) h
  where
    by_value : (value : Option (List ℕ)) → Finds page value (Some n) → Some (replies.value (take n page)) ≡ Some (found value)
    by_value (Some value) h = ap (λ (bytes : List ℕ). Some (replies.value bytes)) h.1
    by_value None h = absurd h

-- and of none
pub tells-none : (page : List ℕ) (seen : Result (Option Item) LookFault) → AnswersSeen page seen (Ok None) → RepliesSeen seen (Some replies.none)
tells-none page (Err fault) h = absurd h
tells-none page (Ok item) h = by_value (value_of item) h
  where
    by_value : (value : Option (List ℕ)) → Finds page value None → Some replies.none ≡ Some (found value)
    by_value (Some value) h = absurd h
    by_value None h = refl

-- ---- answers within others

pub same-answer : (a b : Taken) → ◌≡◌ {A = Result Taken WriteFault} (Ok a) (Ok b) → a ≡ b
same-answer a b h = cc

pub same-taken : (a b : Taken) → ◌≡◌ {A = Result Outcome WriteFault} (Ok (outcomes.Taken a)) (Ok (outcomes.Taken b)) → a ≡ b
same-taken a b h = cc

-- what a write says of its limit
pub limits : (a : Taken) (P : Type 0) → (◌≡◌ {A = Result Taken WriteFault} (Ok a) (Ok taken.Limit)) ↔ P → (a ≡ taken.Limit) ↔ P
limits a P h = (λ is. h.0 (ap Ok is), λ p. same-answer a taken.Limit (h.1 p))

pub same-item : (a b : Item) → ◌≡◌ {A = Option Item} (Some a) (Some b) → a ≡ b
same-item a b h = cc

pub same-stat : (a b : Stat) → ◌≡◌ {A = Result Outcome WriteFault} (Ok (outcomes.Stat a)) (Ok (outcomes.Stat b)) → a ≡ b
same-stat a b h = cc

-- ---- a write's call as an event's

-- the event answered what the call did
pub record IsSame (call : Result Taken WriteFault) (event : Result Outcome WriteFault) : Type 0 where
  pub to : (t : Taken) → event ≡ Ok (outcomes.Taken t) → call ≡ Ok t
  pub from : (t : Taken) → call ≡ Ok t → event ≡ Ok (outcomes.Taken t)
  pub fails : (f : WriteFault) → IsErrOf event f → IsErrOf call f

pub same-ok : (call : Result Taken WriteFault) (t : Taken) → call ≡ Ok t → IsSame call (Ok (outcomes.Taken t))
same-ok call t was = record {
  to = λ u is. was ∙ ap Ok (same-taken t u is);
  from = λ u is. ap (λ (x : Taken). Ok (outcomes.Taken x)) (same-answer t u (sym was ∙ is));
  fails = λ f is. cc;
}

pub same-err : (call : Result Taken WriteFault) (event : Result Outcome WriteFault) (f : WriteFault) → call ≡ Err f → event ≡ Err f → IsSame call event
same-err call event f was is = record {
  to = λ t ok. cc;
  from = λ t ok. cc;
  fails = λ g failed. cc;
}

module _ {T : Type 0} (D : Ghosts T) (item : Item) (v w : StoreView) (call : Result Taken WriteFault) (event : Result Outcome WriteFault) (same : IsSame call event) (old new : T) where
  pub event-writes : Writes D item v w (λ t. call ≡ Ok t) (λ f. IsErrOf call f) old new → Writes D item v w (λ t. event ≡ Ok (outcomes.Taken t)) (λ f. IsErrOf event f) old new
  event-writes h = record {
    unchanged = λ is. h.unchanged (same.to taken.Limit is);
    not_due = λ due is. h.not_due due (same.to taken.Ok is);
    memory = λ is. h.memory (same.fails NoMemory is);
    at_once = λ due few room below. let there = h.at_once due few room below in (same.from taken.Ok there.0, there.1);
    number = λ t is. h.number t (same.to t is);
    same_number = λ is. h.same_number (same.fails NoMemory is);
    regions = h.regions;
    size = h.size;
    later = h.later;
    cause = λ is. h.cause (same.fails Device is);
    refused = λ is. h.refused (same.fails NoMemory is);
    full_images = λ needed free is. h.full_images needed free (same.to (taken.Full needed free) is);
  }

  pub event-in-place : InPlace D (Some item) v w (λ t. call ≡ Ok t) (λ f. IsErrOf call f) old new → InPlace D (Some item) v w (λ t. event ≡ Ok (outcomes.Taken t)) (λ f. IsErrOf event f) old new
  event-in-place h = record {
    flushed = λ due is. h.flushed due (same.to taken.Ok is);
    full_same = λ needed free is. h.full_same needed free (same.to (taken.Full needed free) is);
    full_quiet = λ needed free is. h.full_quiet needed free (same.to (taken.Full needed free) is);
    count = h.count;
    undamaged = λ b is. h.undamaged b (same.fails (Damaged b) is);
  }

-- an event that writes nothing
pub none-in-place : {T : Type 0} (D : Ghosts T) (v w : StoreView) (event : Result Outcome WriteFault) (old new : T) → ((needed free : ℕ) → event ≡ Ok (outcomes.Taken (taken.Full needed free)) → ⊥)
    → InPlace D None v w (λ t. event ≡ Ok (outcomes.Taken t)) (λ f. IsErrOf event f) old new
none-in-place D v w event old new other = record {
  flushed = tt;
  full_same = tt;
  full_quiet = λ needed free is. absurd (other needed free is);
  count = tt;
  undamaged = tt;
}
