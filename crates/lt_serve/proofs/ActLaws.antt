-- A command that was acted, and one that was not.
use Rattle.std.proofs.Common.{◌≡◌, ℕ, ◌≤◌, refl, sym, ap, subst, ◌∙◌, List, [], ◌∷◌, ◌++◌, take, length, append-nil, Bool, true, false, Option, Some, None, IfSome, arith}
use Rattle.std.specs.Prelude.{IsTrue}
use Rattle.std.proofs.lemmas.List.{take_all}
use Rattle.lt_terms.specs.Items.{Item, put_of, delete_of}
use Rattle.lt_terms.specs.Bytes.{Image}
use Rattle.lt_device.specs.Moments.{MayLeave}
use Rattle.lt_device.specs.Reads.{CountsAtMost}
use Rattle.lt_device.specs.State as told
use Rattle.lt_image.specs.Standing.{HasCounts}
use Rattle.lt_image.specs.Standing.{after_writes}
use Rattle.lt_image.proofs.KeptLaws.{no_writes}
use Rattle.lt_language.specs.declared.Bad.{Bad}
use Rattle.lt_language.specs.Commands as commands
use Rattle.lt_language.specs.Commands.{Command}
use Rattle.lt_language.specs.Machine.{State, Step, taken}
use Rattle.lt_language.specs.Replies as replies
use Rattle.lt_language.specs.Replies.{Reply, text}
use Rattle.lt_line.specs.Waiting.{Waiting, with_text}
use Rattle.lt_store.specs.declared.acting.EventView.{EventView}
use Rattle.lt_store.specs.declared.acting.EventView.TheVariants as events
use Rattle.lt_store.specs.declared.acting.Outcome.{Outcome}
use Rattle.lt_store.specs.declared.acting.Outcome.TheVariants as outcomes
use Rattle.lt_store.specs.declared.counts.Stat.{Stat}
use Rattle.lt_store.specs.declared.faults.WriteFault.{WriteFault}
use Rattle.lt_store.specs.declared.faults.WriteFault.TheVariants as faults
use Rattle.lt_store.specs.declared.writing.Taken.TheVariants as answer
use Rattle.lt_store.specs.Acting.{IsStep, accepted_as, command_of, only_asks, reply_of, write_of}
use Rattle.lt_store.specs.Going.{Goes, Survives}
use Rattle.lt_store.specs.Open.{IsOpen, StoreView, extents_of, state_of}
use Rattle.lt_store.specs.Promise.{AtRest}
use Rattle.lt_store.proofs.GoLaws.{goes-none, open-rests}
use Rattle.lt_serve.specs.Acting.{CommandAnswered, CommandFailed, TellsStat}
use Rattle.lt_serve.specs.Faults.{round_fault_of}
use Rattle.lt_serve.specs.Outcomes.{HasValue, is_taken, most_text, outcome_text, reply_text}
use Rattle.lt_serve.specs.Promise.{KeepsPast, Moment, Runs, is_ok}
use Rattle.lt_serve.proofs.CountLaws.{counts-quiet}

-- one command was acted
pub runs-one : (e : ℕ) (s : State) (command : Command) (reply : Reply) (writes : List Item) → Step e s command reply (after_writes s writes) → writes ≡ taken command reply → Runs e s (command ∷ []) (reply ∷ []) writes
runs-one e s command reply writes step is = record { run = (after_writes s writes, step, refl); taken_are = is ∙ sym (append-nil (taken command reply)) }

-- ---- an outcome, and the reply that it is

abbrev IsTakenAs : Command → Option Item → Outcome → Option Reply → Type 0
IsTakenAs command item outcome (Some reply) = accepted_as outcome item ≡ taken command reply
IsTakenAs command item outcome None = Unit {0}

taken-put : (key value : List ℕ) (outcome : Outcome) (page : List ℕ) → IsTakenAs (commands.put key value) (Some (put_of key value)) outcome (reply_of outcome page)
taken-put key value (outcomes.Taken answer.Ok) page = refl
taken-put key value (outcomes.Taken (answer.Full n f)) page = refl
taken-put key value (outcomes.Taken answer.Limit) page = refl
taken-put key value (outcomes.Value n) page = refl
taken-put key value outcomes.Missing page = refl
taken-put key value (outcomes.Stat s) page = refl
taken-put key value outcomes.Committed page = tt

taken-delete : (key : List ℕ) (outcome : Outcome) (page : List ℕ) → IsTakenAs (commands.delete key) (Some (delete_of key)) outcome (reply_of outcome page)
taken-delete key (outcomes.Taken answer.Ok) page = refl
taken-delete key (outcomes.Taken (answer.Full n f)) page = refl
taken-delete key (outcomes.Taken answer.Limit) page = refl
taken-delete key (outcomes.Value n) page = refl
taken-delete key outcomes.Missing page = refl
taken-delete key (outcomes.Stat s) page = refl
taken-delete key outcomes.Committed page = tt

taken-get : (key : List ℕ) (outcome : Outcome) (page : List ℕ) → IsTakenAs (commands.get key) None outcome (reply_of outcome page)
taken-get key (outcomes.Taken answer.Ok) page = refl
taken-get key (outcomes.Taken (answer.Full n f)) page = refl
taken-get key (outcomes.Taken answer.Limit) page = refl
taken-get key (outcomes.Value n) page = refl
taken-get key outcomes.Missing page = refl
taken-get key (outcomes.Stat s) page = refl
taken-get key outcomes.Committed page = tt

taken-stat : (outcome : Outcome) (page : List ℕ) → IsTakenAs commands.stat None outcome (reply_of outcome page)
taken-stat (outcomes.Taken answer.Ok) page = refl
taken-stat (outcomes.Taken (answer.Full n f)) page = refl
taken-stat (outcomes.Taken answer.Limit) page = refl
taken-stat (outcomes.Value n) page = refl
taken-stat outcomes.Missing page = refl
taken-stat (outcomes.Stat s) page = refl
taken-stat outcomes.Committed page = tt

-- what was taken of an event is what its command and its reply say
taken-event : (event : EventView) (command : Command) (outcome : Outcome) (page : List ℕ) → command_of event ≡ Some command → IsTakenAs command (write_of event) outcome (reply_of outcome page)
taken-event (events.Put key value) command outcome page is = let same : commands.put key.now value.now ≡ command = cc in subst (λ x. IsTakenAs x (Some (put_of key.now value.now)) outcome (reply_of outcome page)) same (taken-put key.now value.now outcome page)
taken-event (events.Delete key) command outcome page is = let same : commands.delete key.now ≡ command = cc in subst (λ x. IsTakenAs x (Some (delete_of key.now)) outcome (reply_of outcome page)) same (taken-delete key.now outcome page)
taken-event (events.Get key) command outcome page is = let same : commands.get key.now ≡ command = cc in subst (λ x. IsTakenAs x None outcome (reply_of outcome page)) same (taken-get key.now outcome page)
taken-event events.Stat command outcome page is = let same : commands.stat ≡ command = cc in subst (λ x. IsTakenAs x None outcome (reply_of outcome page)) same (taken-stat outcome page)
taken-event events.Commit command outcome page is = absurd (cc)

abbrev pub IsOkAs : Outcome → Option Reply → Type 0
IsOkAs outcome (Some reply) = is_taken outcome ≡ is_ok reply
IsOkAs outcome None = Unit {0}

pub ok-as : (outcome : Outcome) (page : List ℕ) → IsOkAs outcome (reply_of outcome page)
ok-as (outcomes.Taken answer.Ok) page = refl
ok-as (outcomes.Taken (answer.Full n f)) page = refl
ok-as (outcomes.Taken answer.Limit) page = refl
ok-as (outcomes.Value n) page = refl
ok-as outcomes.Missing page = refl
ok-as (outcomes.Stat s) page = refl
ok-as outcomes.Committed page = tt

-- the value of a get stands at the front of the page
pub same-text : (outcome : Outcome) (page value : List ℕ) → ((n : ℕ) → outcome ≡ outcomes.Value n → value ≡ take n page) → HasValue outcome value → outcome_text outcome value ≡ reply_text (reply_of outcome page)
same-text (outcomes.Taken answer.Ok) page value front has = refl
same-text (outcomes.Taken (answer.Full n f)) page value front has = refl
same-text (outcomes.Taken answer.Limit) page value front has = refl
same-text (outcomes.Value n) page value front has = ap (λ v. text (replies.value v)) (take_all n value (omega (arith, has.0)) ∙ front n refl)
same-text outcomes.Missing page value front has = refl
same-text (outcomes.Stat s) page value front has = refl
same-text outcomes.Committed page value front has = refl

-- ---- events that leave the device

-- a put or a delete that was not taken
quiet-put : (key value : List ℕ) (outcome : Outcome) (page : List ℕ) (e : ℕ) (s t : State) (old new : told.State) → IsStep e s (Some (commands.put key value)) (reply_of outcome page) t → accepted_as outcome (Some (put_of key value)) ≡ []
    → ((n f : ℕ) → outcome ≡ outcomes.Taken (answer.Full n f) → new ≡ old) → (outcome ≡ outcomes.Taken answer.Limit → new ≡ old) → new ≡ old
quiet-put key value (outcomes.Taken answer.Ok) page e s t old new step none full limit = absurd (cc (none))
quiet-put key value (outcomes.Taken (answer.Full n f)) page e s t old new step none full limit = full n f refl
quiet-put key value (outcomes.Taken answer.Limit) page e s t old new step none full limit = limit refl
quiet-put key value (outcomes.Value n) page e s t old new step none full limit = absurd step
quiet-put key value outcomes.Missing page e s t old new step none full limit = absurd step
quiet-put key value (outcomes.Stat x) page e s t old new step none full limit = absurd step
quiet-put key value outcomes.Committed page e s t old new step none full limit = absurd step

quiet-delete : (key : List ℕ) (outcome : Outcome) (page : List ℕ) (e : ℕ) (s t : State) (old new : told.State) → IsStep e s (Some (commands.delete key)) (reply_of outcome page) t → accepted_as outcome (Some (delete_of key)) ≡ []
    → ((n f : ℕ) → outcome ≡ outcomes.Taken (answer.Full n f) → new ≡ old) → (outcome ≡ outcomes.Taken answer.Limit → new ≡ old) → new ≡ old
quiet-delete key (outcomes.Taken answer.Ok) page e s t old new step none full limit = absurd (cc (none))
quiet-delete key (outcomes.Taken (answer.Full n f)) page e s t old new step none full limit = full n f refl
quiet-delete key (outcomes.Taken answer.Limit) page e s t old new step none full limit = limit refl
quiet-delete key (outcomes.Value n) page e s t old new step none full limit = absurd step
quiet-delete key outcomes.Missing page e s t old new step none full limit = absurd step
quiet-delete key (outcomes.Stat x) page e s t old new step none full limit = absurd step
quiet-delete key outcomes.Committed page e s t old new step none full limit = absurd step

-- an event of which no write was taken
quiet-event : (event : EventView) (command : Command) (outcome : Outcome) (page : List ℕ) (e : ℕ) (s t : State) (old new : told.State) → command_of event ≡ Some command → IsStep e s (command_of event) (reply_of outcome page) t → accepted_as outcome (write_of event) ≡ []
    → (IsTrue (only_asks event) → new ≡ old) → ((n f : ℕ) → outcome ≡ outcomes.Taken (answer.Full n f) → new ≡ old) → IfSome (write_of event) (λ item. outcome ≡ outcomes.Taken answer.Limit → new ≡ old) → new ≡ old
quiet-event (events.Put key value) command outcome page e s t old new is step none asked full limit = quiet-put key.now value.now outcome page e s t old new step none full limit
quiet-event (events.Delete key) command outcome page e s t old new is step none asked full limit = quiet-delete key.now outcome page e s t old new step none full limit
quiet-event (events.Get key) command outcome page e s t old new is step none asked full limit = asked refl
quiet-event events.Stat command outcome page e s t old new is step none asked full limit = asked refl
quiet-event events.Commit command outcome page e s t old new is step none asked full limit = absurd (cc (is))

-- ---- what a `STAT` tells

-- the count of reads never falls
pub reads-event : (written : Option Item) (low high most : ℕ) → (written ≡ None → CountsAtMost most low high) → IfSome written (λ item. high ≡ low) → low ≤ high
reads-event None low high most count same = (count refl).later
reads-event (Some item) low high most count same = omega (arith, same)

-- the numbers are those of the device and its images at this moment, and few writes are pending
pub record IsStatOf (v : StoreView) (old : Moment) (s : Stat) : Type 0 where
  pub reads : s.reads ≡ old.reads
  pub few : length v.log.pending ≤ 818
  pub images : (left : Image) → MayLeave old.state left → HasCounts left s.tables s.free

abbrev pub TellsSome : StoreView → Moment → Moment → Option Reply → Type 0
TellsSome v old new None = Unit {0}
TellsSome v old new (Some reply) = TellsStat v old new reply

-- each reply of an outcome tells so
tells-some : (v : StoreView) (old new : Moment) (outcome : Outcome) (page : List ℕ) → old.reads ≤ new.reads → KeepsPast old.state new.state → ((s : Stat) → outcome ≡ outcomes.Stat s → IsStatOf v old s) → TellsSome v old new (reply_of outcome page)
tells-some v old new (outcomes.Taken answer.Ok) page later past stat = record { reads = later; images = tt; past = past }
tells-some v old new (outcomes.Taken (answer.Full n f)) page later past stat = record { reads = later; images = tt; past = past }
tells-some v old new (outcomes.Taken answer.Limit) page later past stat = record { reads = later; images = tt; past = past }
tells-some v old new (outcomes.Value n) page later past stat = record { reads = later; images = tt; past = past }
tells-some v old new outcomes.Missing page later past stat = record { reads = later; images = tt; past = past }
tells-some v old new (outcomes.Stat s) page later past stat =
    let told = stat s refl in
    record {
      reads = (omega (arith, told.reads), omega (arith, told.reads, later));
      images = (told.few, told.images);
      past = past;
    }
tells-some v old new outcomes.Committed page later past stat = tt

-- ---- a command that was acted

answers-reply : (v w : StoreView) (durable : State) (command : Command) (item : Option Item) (outcome : Outcome) (reply : Option Reply) (waiting0 waiting : Waiting) (old new : Moment)
    → IsStep (extents_of v) (state_of v durable) (Some command) reply (after_writes (state_of v durable) (accepted_as outcome item)) → IsTakenAs command item outcome reply → IsOkAs outcome reply
    → Goes v (accepted_as outcome item) w durable old.state new.state → (v.log.pending ≡ [] → accepted_as outcome item ≡ [] → new.state ≡ old.state) → TellsSome v old new reply → length (reply_text reply) ≤ waiting0.room → waiting ≡ with_text waiting0 (reply_text reply)
    → CommandAnswered v durable command (is_taken outcome) waiting0 waiting w old new
answers-reply v w durable command item outcome None waiting0 waiting old new step taken ok goes quiet stat fits told = absurd step
answers-reply v w durable command item outcome (Some reply) waiting0 waiting old new step taken ok goes quiet stat fits told = record {
  reply = reply;
  writes = accepted_as outcome item;
  runs = runs-one (extents_of v) (state_of v durable) command reply (accepted_as outcome item) step taken;
  goes = goes;
  quiet = quiet;
  stat = stat;
  taken_is = ok;
  fits = fits;
  told = told;
}

-- an event that a command is was acted
pub answers-event : (v w : StoreView) (durable : State) (event : EventView) (command : Command) (outcome : Outcome) (page value : List ℕ) (waiting0 waiting : Waiting) (old new : Moment)
    → command_of event ≡ Some command
    → IsStep (extents_of v) (state_of v durable) (command_of event) (reply_of outcome page) (after_writes (state_of v durable) (accepted_as outcome (write_of event)))
    → Goes v (accepted_as outcome (write_of event)) w durable old.state new.state
    → (IsTrue (only_asks event) → new.state ≡ old.state) → ((n f : ℕ) → outcome ≡ outcomes.Taken (answer.Full n f) → v.log.pending ≡ [] → new.state ≡ old.state) → IfSome (write_of event) (λ item. outcome ≡ outcomes.Taken answer.Limit → new.state ≡ old.state)
    → old.reads ≤ new.reads → KeepsPast old.state new.state → ((s : Stat) → outcome ≡ outcomes.Stat s → IsStatOf v old s)
    → ((n : ℕ) → outcome ≡ outcomes.Value n → value ≡ take n page) → HasValue outcome value
    → length (outcome_text outcome value) ≤ most_text → 3007 ≤ waiting0.room → waiting ≡ with_text waiting0 (outcome_text outcome value)
    → CommandAnswered v durable command (is_taken outcome) waiting0 waiting w old new
answers-event v w durable event command outcome page value waiting0 waiting old new is step goes asked full limit later past stat front has short room told =
    let same : outcome_text outcome value ≡ reply_text (reply_of outcome page) = same-text outcome page value front has in
    let len : length (outcome_text outcome value) ≡ length (reply_text (reply_of outcome page)) = ap length same in
    answers-reply v w durable command (write_of event) outcome (reply_of outcome page) waiting0 waiting old new
    (subst (λ (x : Option Command). IsStep (extents_of v) (state_of v durable) x (reply_of outcome page) (after_writes (state_of v durable) (accepted_as outcome (write_of event)))) is step)
    (taken-event event command outcome page is) (ok-as outcome page) goes (λ idle none. quiet-event event command outcome page (extents_of v) (state_of v durable) (after_writes (state_of v durable) (accepted_as outcome (write_of event))) old.state new.state is step none asked (λ n f same. full n f same idle) limit) (tells-some v old new outcome page later past stat) (omega arith) (told ∙ ap (with_text waiting0) same)

-- a line was refused
pub answers-bad : (v : StoreView) (durable : State) (kind : Bad) (waiting0 waiting : Waiting) (s : Moment) → IsOpen v durable s.state
    → length (text (replies.bad kind)) ≤ most_text → 3007 ≤ waiting0.room → waiting ≡ with_text waiting0 (text (replies.bad kind)) → CommandAnswered v durable (commands.bad kind) false waiting0 waiting v s s
answers-bad v durable kind waiting0 waiting s opened short room told = record {
  reply = replies.bad kind;
  writes = [];
  runs = runs-one (extents_of v) (state_of v durable) (commands.bad kind) (replies.bad kind) [] (refl, no_writes (state_of v durable)) refl;
  goes = goes-none v durable s.state opened;
  quiet = λ idle none. refl;
  stat = record { reads = omega arith; images = tt; past = λ first is. (first, is) };
  taken_is = refl;
  fits = omega arith;
  told = told;
}

-- ---- and one that was not

-- where the store is still up, the device is at rest
pub lost-event : (v w : StoreView) (durable : State) (fault : WriteFault) (up : Bool) (old new : Moment) → IsOpen v durable old.state → old.reads ≤ new.reads → Survives v [] durable old.state new.state
    → (up ≡ true → Goes v [] w durable old.state new.state) → (up ≡ false → fault ≡ faults.Device) → ((b : ℕ) → fault ≡ faults.Damaged b → ⊥) → CommandFailed v durable (round_fault_of fault) old new
lost-event v w durable faults.Device up old new opened later survives goes down sound = record { lost = tt; survives = survives; rests = λ is. absurd (cc); counts = counts-quiet durable old new opened.rest.image opened.rest.tells survives later }
lost-event v w durable (faults.Damaged b) up old new opened later survives goes down sound = absurd (sound b refl)
lost-event v w durable faults.NoMemory false old new opened later survives goes down sound = let never = down refl in absurd (cc)
lost-event v w durable faults.NoMemory true old new opened later survives goes down sound = record {
  lost = tt;
  survives = survives;
  rests = λ is. let g = goes refl in (g.sure, subst (λ xs. AtRest (after_writes durable (take g.sure xs)) new.state) (append-nil v.log.pending) (open-rests w (after_writes durable (take g.sure (v.log.pending ++ []))) new.state g.opened));
  counts = counts-quiet durable old new opened.rest.image opened.rest.tells survives later;
}
