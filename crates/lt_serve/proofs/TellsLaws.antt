-- What a command is answered on any device.
use Rattle.std.proofs.Common.{◌≡◌, ℕ, refl, ap, subst, ◌∙◌, List, [], ◌∷◌, Bool, true, false, Option, Some, None, IfSome, Err}
use Rattle.std.specs.Prelude.{IsTrue, if◌then◌else◌}
use Rattle.lt_terms.specs.Bytes.{Image}
use Rattle.lt_terms.specs.Items.{Item, item_cost, put_of, delete_of}
use Rattle.lt_device.specs.State as told
use Rattle.lt_language.specs.declared.Bad.{Bad}
use Rattle.lt_language.specs.Commands.{Command, put, delete, get, stat, bad}
use Rattle.lt_language.specs.Replies as replies
use Rattle.lt_language.specs.Replies.{Reply, text}
use Rattle.lt_line.specs.Waiting.{Waiting, with_text}
use Rattle.lt_htable.specs.declared.faults.LookFault.TheVariants.{Damaged}
use Rattle.lt_store.specs.declared.acting.EventView.{EventView}
use Rattle.lt_store.specs.declared.acting.EventView.TheVariants as events
use Rattle.lt_store.specs.declared.acting.Outcome.{Outcome}
use Rattle.lt_store.specs.declared.acting.Outcome.TheVariants as outcomes
use Rattle.lt_store.specs.declared.writing.Taken.TheVariants as answer
use Rattle.lt_store.specs.Acting.{IsKind, command_of, only_asks, reply_of, write_of}
use Rattle.lt_store.specs.Promise.{RepliesSeen, IsReplyTo}
use Rattle.lt_store.specs.Committing.{committed}
use Rattle.lt_store.specs.Getting.{seen_of}
use Rattle.lt_store.specs.Open.{StoreView}
use Rattle.lt_store.specs.Taking.{readied}
use Rattle.lt_serve.specs.Outcomes.{is_taken, reply_text}
use Rattle.lt_serve.specs.Promise.{IsSeenReply, Sight, StopsNext}
use Rattle.lt_serve.specs.Seeing.{IsStill, Tells}
use Rattle.lt_serve.proofs.ActLaws.{IsOkAs, ok-as}
use Rattle.lt_serve.proofs.SeeingLaws.{still-none}

seen-reply : (sight : Sight) (command : Command) (reply : Reply) → IsReplyTo command reply → ((key : List ℕ) → command ≡ get key → RepliesSeen (sight key) (Some reply)) → IsSeenReply sight command reply
seen-reply sight (put key value) reply kind seen = kind
seen-reply sight (delete key) reply kind seen = kind
seen-reply sight (get key) reply kind seen = seen key refl
seen-reply sight stat reply kind seen = kind
seen-reply sight (bad reason) reply kind seen = kind

-- a store whose open group was committed, or not, sees the same
either-sees : (b : Bool) (v : StoreView) → v.log.pending ≡ [] → (seen_of (if b then v else committed v) ≡ seen_of v) × ((if b then v else committed v).log.pending ≡ [])
either-sees true v idle = (refl, idle)
either-sees false v idle = (refl, refl)

readied-still : (v w : StoreView) (cost : ℕ) (old new : told.State) → v.log.pending ≡ [] → w ≡ readied v cost → new ≡ old → IsStill v w old new
readied-still v w cost old new idle is same =
    let r : (seen_of (readied v cost) ≡ seen_of v) × ((readied v cost).log.pending ≡ []) = either-sees _ v idle in
    record { sees = ap seen_of is ∙ r.0; idle = ap (λ (y : StoreView). y.log.pending) is ∙ r.1; same = same }

same-still : (v w : StoreView) (old new : told.State) → v.log.pending ≡ [] → (w ≡ v) × (new ≡ old) → IsStill v w old new
same-still v w old new idle same = record { sees = ap seen_of same.0; idle = ap (λ (y : StoreView). y.log.pending) same.0 ∙ idle; same = same.1 }

-- a write that was not taken
write-still : (command : Command) (item : Item) (outcome : Outcome) (page : List ℕ) (v w : StoreView) (old new : told.State) → ((reply : Reply) → IsReplyTo command reply → IsReplyTo (put [] []) reply) → IsKind (Some command) (reply_of outcome page)
    → ((n f : ℕ) → outcome ≡ outcomes.Taken (answer.Full n f) → v.log.pending ≡ [] → new ≡ old) → ((n f : ℕ) → outcome ≡ outcomes.Taken (answer.Full n f) → w ≡ readied v (item_cost item)) → (outcome ≡ outcomes.Taken answer.Limit → (w ≡ v) × (new ≡ old))
    → is_taken outcome ≡ false → v.log.pending ≡ [] → IsStill v w old new
write-still command item (outcomes.Taken answer.Ok) page v w old new of kind full full_same limit not idle = absurd (cc (not))
write-still command item (outcomes.Taken (answer.Full n f)) page v w old new of kind full full_same limit not idle = readied-still v w (item_cost item) old new idle (full_same n f refl) (full n f refl idle)
write-still command item (outcomes.Taken answer.Limit) page v w old new of kind full full_same limit not idle = same-still v w old new idle (limit refl)
write-still command item (outcomes.Value n) page v w old new of kind full full_same limit not idle = absurd (of _ kind)
write-still command item outcomes.Missing page v w old new of kind full full_same limit not idle = absurd (of _ kind)
write-still command item (outcomes.Stat x) page v w old new of kind full full_same limit not idle = absurd (of _ kind)
write-still command item outcomes.Committed page v w old new of kind full full_same limit not idle = absurd kind

-- an event of which no write was taken
event-still : (event : EventView) (command : Command) (outcome : Outcome) (page : List ℕ) (v w : StoreView) (old new : told.State) → command_of event ≡ Some command → IsKind (command_of event) (reply_of outcome page)
    → (IsTrue (only_asks event) → (w ≡ v) × (new ≡ old)) → ((n f : ℕ) → outcome ≡ outcomes.Taken (answer.Full n f) → v.log.pending ≡ [] → new ≡ old)
    → IfSome (write_of event) (λ item. (n f : ℕ) → outcome ≡ outcomes.Taken (answer.Full n f) → w ≡ readied v (item_cost item)) → IfSome (write_of event) (λ item. outcome ≡ outcomes.Taken answer.Limit → (w ≡ v) × (new ≡ old))
    → is_taken outcome ≡ false → v.log.pending ≡ [] → IsStill v w old new
event-still (events.Put key value) command outcome page v w old new is kind asked full full_same limit not idle = write-still (put key.now value.now) (put_of key.now value.now) outcome page v w old new (λ r k. k) kind full full_same limit not idle
event-still (events.Delete key) command outcome page v w old new is kind asked full full_same limit not idle = write-still (delete key.now) (delete_of key.now) outcome page v w old new (λ r k. k) kind full full_same limit not idle
event-still (events.Get key) command outcome page v w old new is kind asked full full_same limit not idle = same-still v w old new idle (asked refl)
event-still events.Stat command outcome page v w old new is kind asked full full_same limit not idle = same-still v w old new idle (asked refl)
event-still events.Commit command outcome page v w old new is kind asked full full_same limit not idle = absurd (cc (is))

tells-reply : (v w : StoreView) (command : Command) (outcome : Outcome) (reply : Option Reply) (waiting0 waiting : Waiting) (old new : told.State) → IsKind (Some command) reply → IsOkAs outcome reply
    → ((key : List ℕ) (image : Image) → command ≡ get key → old.shown ≡ Some image → RepliesSeen (seen_of v image key) reply) → (is_taken outcome ≡ false → v.log.pending ≡ [] → IsStill v w old new)
    → waiting ≡ with_text waiting0 (reply_text reply) → Tells v command (is_taken outcome) waiting0 waiting w old new
tells-reply v w command outcome None waiting0 waiting old new kind ok seen still told = absurd kind
tells-reply v w command outcome (Some reply) waiting0 waiting old new kind ok seen still told = record {
  reply = reply;
  told = told;
  taken_is = ok;
  seen = λ image shown. seen-reply (seen_of v image) command reply kind (λ key is. seen key image is shown);
  still = still;
}

-- the command that an event is was answered
pub tells-event : (v w : StoreView) (event : EventView) (command : Command) (outcome : Outcome) (page said : List ℕ) (waiting0 waiting : Waiting) (old new : told.State) → command_of event ≡ Some command → IsKind (command_of event) (reply_of outcome page)
    → ((key : List ℕ) (image : Image) → command_of event ≡ Some (get key) → old.shown ≡ Some image → RepliesSeen (seen_of v image key) (reply_of outcome page))
    → (IsTrue (only_asks event) → (w ≡ v) × (new ≡ old)) → ((n f : ℕ) → outcome ≡ outcomes.Taken (answer.Full n f) → v.log.pending ≡ [] → new ≡ old)
    → IfSome (write_of event) (λ item. (n f : ℕ) → outcome ≡ outcomes.Taken (answer.Full n f) → w ≡ readied v (item_cost item)) → IfSome (write_of event) (λ item. outcome ≡ outcomes.Taken answer.Limit → (w ≡ v) × (new ≡ old))
    → said ≡ reply_text (reply_of outcome page) → waiting ≡ with_text waiting0 said → Tells v command (is_taken outcome) waiting0 waiting w old new
tells-event v w event command outcome page said waiting0 waiting old new is kind seen asked full full_same limit same told =
    tells-reply v w command outcome (reply_of outcome page) waiting0 waiting old new (subst (λ (x : Option Command). IsKind x (reply_of outcome page)) is kind) (ok-as outcome page)
    (λ key image get_is shown. seen key image (is ∙ ap Some get_is) shown)
    (event-still event command outcome page v w old new is kind asked full full_same limit) (told ∙ ap (with_text waiting0) same)

-- a line was refused
pub tells-bad : (v : StoreView) (kind : Bad) (waiting0 waiting : Waiting) (s : told.State) → waiting ≡ with_text waiting0 (text (replies.bad kind)) → Tells v (bad kind) false waiting0 waiting v s s
tells-bad v kind waiting0 waiting s told = record {
  reply = replies.bad kind;
  told = told;
  taken_is = refl;
  seen = λ image shown. refl;
  still = λ not idle. still-none v s idle;
}

-- the get that an event is stops where its key does
pub stops-get : (v : StoreView) (image : Image) (event : EventView) (command : Command) (key : List ℕ) (b : ℕ) → command_of event ≡ Some command → command_of event ≡ Some (get key) → seen_of v image key ≡ Err (Damaged b) → StopsNext (seen_of v image) (command ∷ []) b
stops-get v image event command key b is asks seen = let one : get key ≡ command = cc (is, asks) in subst (λ (x : Command). StopsNext (seen_of v image) (x ∷ []) b) one seen
