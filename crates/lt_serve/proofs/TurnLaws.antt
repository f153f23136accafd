-- A turn of the loop over the pieces of the source, and the end of input.
use Rattle.std.proofs.Common.{◌≡◌, ℕ, zero, suc, ◌+◌, ◌≤◌, refl, sym, ap, subst, ◌∙◌, List, [], ◌∷◌, ◌++◌, length, take, drop, length-append, append-nil, take-append-drop, Option, Some, None, Result, Ok, Err, arith}
use Rattle.std.proofs.Math.Seq.{take-length}
use Rattle.lt_terms.specs.Causes.{RoseBy, next_count}
use Rattle.lt_terms.specs.Bytes.{Image}
use Rattle.lt_device.specs.Moments.{Leaves, MayLeave}
use Rattle.lt_device.specs.State as told
use Rattle.lt_device.proofs.Runs.{begins}
use Rattle.lt_io.specs.Streams.{Takes, IsAtEnd, IsFrontOf, pieces_after, Gains}
use Rattle.lt_io.proofs.Flows.{Takes-none, Takes-more, Gains-none}
use Rattle.lt_image.specs.Versions.{open_image}
use Rattle.lt_image.specs.Standing.{IsPrefix, after_writes}
use Rattle.lt_image.proofs.KeptLaws.{no_writes}
use Rattle.lt_image.proofs.PrefixLaws.{prefix-none}
use Rattle.lt_language.specs.declared.Bad.TheVariants.{End}
use Rattle.lt_language.specs.Commands.{rest_of}
use Rattle.lt_language.specs.Machine.{State}
use Rattle.lt_language.specs.Replies as replies
use Rattle.lt_language.specs.Replies.{text}
use Rattle.lt_line.specs.Held.{kept_of}
use Rattle.lt_line.specs.Waiting.{Waiting, all_settled, nothing_waits}
use Rattle.lt_line.proofs.HeldLaws.{kept_of-none, kept_of-nothing}
use Rattle.lt_layout.specs.declared.fault.OpenFault.{OpenFault}
use Rattle.lt_layout.specs.declared.fault.OpenFault.TheVariants as opens
use Rattle.lt_store.specs.Promise.{AtRest, StopsOpening}
use Rattle.lt_store.specs.Open.{StoreView, IsOpen}
use Rattle.lt_serve.specs.declared.served.Served.{Served}
use Rattle.lt_serve.specs.declared.served.Served.TheVariants as served
use Rattle.lt_serve.specs.Promise.{FailsToOpen, IsUnopened, IsSound, Moment, acknowledged, ServingEnded, EndedShowing, EndedTaking}
use Rattle.lt_serve.specs.Ends.{with_end}
use Rattle.lt_serve.specs.Faults.{IsEnd, IsHalt, unopened_of}
use Rattle.lt_serve.specs.Sending.{Sends}
use Rattle.lt_serve.specs.Serving.{ServedSoFar, ShowedFurther, TookFurther}
use Rattle.lt_serve.proofs.CountLaws.{counts-earlier, counts-none}
use Rattle.lt_serve.proofs.OverLaws.{over-paused, over-done, over-rest}
use Rattle.lt_serve.proofs.PieceLaws.{on-none, on-on, over-over}
use Rattle.lt_serve.proofs.RunLaws.{runs-none}

-- ---- the end of input

-- no bytes have no front but none
none-of : (n : ℕ) → take {A = ℕ} n [] ≡ []
none-of zero = refl
none-of (suc n) = refl

-- nothing more is shown
no-more : (e : ℕ) (before : State) (status : Served) (input output : List ℕ) (faults0 faults : ℕ) (start now : Moment) → ServingEnded e before status input output faults0 faults start now → ServingEnded e before status input (output ++ []) faults0 faults start now
no-more e before status input output faults0 faults start now over = subst (λ (shown : List ℕ). ServingEnded e before status input shown faults0 faults start now) (sym (append-nil output)) over

-- all that waits is given to the sink
pub finished-told : (e : ℕ) (before : State) (input output kept : List ℕ) (w : StoreView) (start now : Moment) → ServedSoFar e before input output kept w start now → (waiting unsent : Waiting) (stands0 stands : List ℕ → Type 0) (faults0 faults : ℕ) → waiting ≡ all_settled (with_end kept nothing_waits) → Sends (length waiting.settled_text) stands0 stands waiting unsent → EndedShowing e before served.Done input output stands0 stands faults0 faults start now
finished-told e before input output [] w start now r waiting unsent stands0 stands faults0 faults is sends =
    let said : take (length waiting.settled_text) waiting.settled_text ≡ [] = take-length waiting.settled_text ∙ ap (λ (x : Waiting). x.settled_text) is in
    record {
      added = [];
      gained = subst (λ (xs : List ℕ). Gains stands0 stands xs) said sends.gained;
      over = no-more e before served.Done input output faults0 faults start now (over-done e before input output [] w start now r faults0 faults (kept_of-nothing (rest_of input) (sym r.line)));
    }
finished-told e before input output (b ∷ kept) w start now r waiting unsent stands0 stands faults0 faults is sends =
    let said : take (length waiting.settled_text) waiting.settled_text ≡ text (replies.bad End) = take-length waiting.settled_text ∙ ap (λ (x : Waiting). x.settled_text) is in
    let some : rest_of input ≡ [] → ⊥ = λ none. let no : (b ∷ kept) ≡ [] = r.line ∙ ap kept_of none ∙ kept_of-none in absurd (cc (no)) in
    record {
      added = text (replies.bad End);
      gained = subst (λ (xs : List ℕ). Gains stands0 stands xs) said sends.gained;
      over = over-rest e before input output (b ∷ kept) w start now r served.Done faults0 faults (text (replies.bad End)) [] some (sym (append-nil (text (replies.bad End)))) (λ done. refl) (λ pause. pause) (λ inner. inner);
    }

-- the sink failed
pub finished-untold : (e : ℕ) (before : State) (input output kept : List ℕ) (w : StoreView) (start now : Moment) → ServedSoFar e before input output kept w start now → (waiting unsent : Waiting) (count : ℕ) (stands0 stands : List ℕ → Type 0) (faults0 faults : ℕ) → waiting ≡ all_settled (with_end kept nothing_waits) → Sends count stands0 stands waiting unsent → EndedShowing e before served.Sink input output stands0 stands faults0 faults start now
finished-untold e before input output [] w start now r waiting unsent count stands0 stands faults0 faults is sends =
    let said : take count waiting.settled_text ≡ [] = ap (λ (x : Waiting). take count x.settled_text) is ∙ none-of count in
    record {
      added = [];
      gained = subst (λ (xs : List ℕ). Gains stands0 stands xs) said sends.gained;
      over = no-more e before served.Sink input output faults0 faults start now (over-paused e before input output [] w start now r served.Sink faults0 faults (λ done. absurd (cc (done))));
    }
finished-untold e before input output (b ∷ kept) w start now r waiting unsent count stands0 stands faults0 faults is sends =
    let said : text (replies.bad End) ≡ waiting.settled_text = sym (ap (λ (x : Waiting). x.settled_text) is) in
    let some : rest_of input ≡ [] → ⊥ = λ none. let no : (b ∷ kept) ≡ [] = r.line ∙ ap kept_of none ∙ kept_of-none in absurd (cc (no)) in
    record {
      added = take count waiting.settled_text;
      gained = sends.gained;
      over = over-rest e before input output (b ∷ kept) w start now r served.Sink faults0 faults (take count waiting.settled_text) (drop count waiting.settled_text) some (said ∙ sym (take-append-drop count waiting.settled_text)) (λ done. absurd (cc (done))) (λ pause. pause) (λ inner. inner);
    }

-- ---- one turn

-- the source failed
pub turned-fault : (e : ℕ) (before : State) (input output kept : List ℕ) (w : StoreView) (start now : Moment) → ServedSoFar e before input output kept w start now → (left0 left : Option (List ℕ)) (stands : List ℕ → Type 0) (faults : ℕ) → left ≡ left0 → IsSound served.Source × EndedTaking e before served.Source input output left0 left stands stands faults faults start now
turned-fault e before input output kept w start now r left0 left stands faults same = (
  tt,
  record {
    taken = [];
    takes = subst (λ (l : Option (List ℕ)). Takes left0 l []) (sym same) (Takes-none left0);
    at_end = λ done. absurd (cc (done));
    over = subst (λ (bytes : List ℕ). EndedShowing e before served.Source bytes output stands stands faults faults start now) (sym (append-nil input))
        (record { added = []; gained = Gains-none stands; over = no-more e before served.Source input output faults faults start now (over-paused e before input output kept w start now r served.Source faults faults (λ done. absurd (cc (done)))) });
  },
)

-- where nothing was taken of a source that is at its end, it still is
at-end : (left0 left : Option (List ℕ)) → IsFrontOf left0 left [] → IsAtEnd left0 → IsAtEnd left
at-end (Some l0) (Some l) front none = sym front ∙ none
at-end (Some l0) None front none = absurd front
at-end None (Some l) front none = absurd front
at-end None None front none = tt

-- no block is damaged where the end of input was met
end-sound : (status : Served) → IsEnd status → IsSound status
end-sound served.Done end = tt
end-sound served.Source end = tt
end-sound served.Sink end = tt
end-sound served.Device end = tt
end-sound (served.Damaged block) end = end
end-sound served.NoMemory end = tt
end-sound served.Turns end = tt

-- its end was met
pub turned-end : (e : ℕ) (before : State) (status : Served) (input output : List ℕ) (start now : Moment) (left0 left : Option (List ℕ)) (stands0 stands : List ℕ → Type 0) (faults0 faults : ℕ) (page : List ℕ) (n : ℕ) → n ≡ 0 → IsEnd status → Takes left0 left (take n page) → IsAtEnd left0 → EndedShowing e before status input output stands0 stands faults0 faults start now → IsSound status × EndedTaking e before status input output left0 left stands0 stands faults0 faults start now
turned-end e before status input output start now left0 left stands0 stands faults0 faults page n none end takes done over =
    let nothing = subst (λ (k : ℕ). Takes left0 left (take k page)) none takes in (
      end-sound status end,
      record {
        taken = [];
        takes = nothing;
        at_end = λ is. at-end left0 left nothing.front done;
        over = subst (λ (bytes : List ℕ). EndedShowing e before status bytes output stands0 stands faults0 faults start now) (sym (append-nil input)) over;
      },
    )

-- a piece was served
pub turned-on : (e : ℕ) (before : State) (input output kept : List ℕ) (w : StoreView) (start new : Moment) (left0 left : Option (List ℕ)) (stands0 stands : List ℕ → Type 0) (piece taken : List ℕ) → Takes left0 left taken → taken ≡ piece → ShowedFurther e before (input ++ piece) output kept w stands0 stands start new → TookFurther e before input output kept w left0 left stands0 stands start new
turned-on e before input output kept w start new left0 left stands0 stands piece taken takes is on = record { taken = piece; takes = subst (λ (bytes : List ℕ). Takes left0 left bytes) is takes; on = on }

-- no block is damaged where serving stopped in a piece
sound : (status : Served) → IsHalt status → IsSound status
sound served.Done halt = tt
sound served.Source halt = tt
sound served.Sink halt = tt
sound served.Device halt = tt
sound (served.Damaged block) halt = halt
sound served.NoMemory halt = tt
sound served.Turns halt = tt

-- serving stopped in a piece
pub turned-over : (e : ℕ) (before : State) (status : Served) (input output : List ℕ) (start new : Moment) (left0 left : Option (List ℕ)) (stands0 stands : List ℕ → Type 0) (faults0 faults : ℕ) (piece taken : List ℕ) → Takes left0 left taken → taken ≡ piece → IsHalt status × EndedShowing e before status (input ++ piece) output stands0 stands faults0 faults start new → IsSound status × EndedTaking e before status input output left0 left stands0 stands faults0 faults start new
turned-over e before status input output start new left0 left stands0 stands faults0 faults piece taken takes is over = (
  sound status over.0,
  record { taken = piece; takes = subst (λ (bytes : List ℕ). Takes left0 left bytes) is takes; at_end = λ done. absurd (subst IsHalt done over.0); over = over.1 },
)

-- ---- one turn behind another

-- nothing was taken yet
reached-none : (e : ℕ) (before : State) (kept : List ℕ) (w : StoreView) (s : Moment) → kept ≡ [] → IsOpen w before s.state → ServedSoFar e before [] [] kept w s s
reached-none e before kept w s none opened = record {
  replies = [];
  writes = [];
  runs = runs-none e before;
  text = refl;
  line = none ∙ sym kept_of-none;
  opened = subst (λ (t : State). IsOpen w t s.state) (sym (no_writes before)) opened;
  since = begins s.state (λ left may. prefix-none left before [] (opened.rest.each left may));
  quiet = λ none. refl;
  counts = counts-none before s s refl (omega arith);
}

-- a run that took nothing yet
pub turned-none : (e : ℕ) (before : State) (kept : List ℕ) (w : StoreView) (left : Option (List ℕ)) (stands : List ℕ → Type 0) (s : Moment) → kept ≡ [] → IsOpen w before s.state → TookFurther e before [] [] kept w left left stands stands s s
turned-none e before kept w left stands s none opened = record { taken = []; takes = Takes-none left; on = on-none e before [] [] kept w stands s s (reached-none e before kept w s none opened) }

module _ (e : ℕ) (before : State) (kept : List ℕ) (w : StoreView) (left0 left1 : Option (List ℕ)) (stands0 stands1 : List ℕ → Type 0) (start mid : Moment) (t : TookFurther e before [] [] kept w left0 left1 stands0 stands1 start mid) where
  -- no turn is left, or no memory
  pub turned-pause : (status : Served) (faults0 faults : ℕ) → (status ≡ served.Done → ⊥) → EndedTaking e before status [] [] left0 left1 stands0 stands1 faults0 faults start mid
  turned-pause status faults0 faults other = record {
    taken = t.taken;
    takes = t.takes;
    at_end = λ done. absurd (other done);
    over = record { added = t.on.added; gained = t.on.gained; over = over-paused e before t.taken t.on.added kept w start mid t.on.reached status faults0 faults other };
  }

  module _ (f : ℕ) (same : f ≡ e) (left : Option (List ℕ)) (stands : List ℕ → Type 0) (new : Moment) where
    -- one turn more
    pub turned-more : (kept' : List ℕ) (x : StoreView) → (ServedSoFar f before t.taken t.on.added kept w start mid → TookFurther f before t.taken t.on.added kept' x left1 left stands1 stands start new) → TookFurther e before [] [] kept' x left0 left stands0 stands start new
    turned-more kept' x call =
        let u : TookFurther e before t.taken t.on.added kept' x left1 left stands1 stands start new = subst (λ (n : ℕ). TookFurther n before t.taken t.on.added kept' x left1 left stands1 stands start new) same (call (subst (λ (n : ℕ). ServedSoFar n before t.taken t.on.added kept w start mid) (sym same) t.on.reached)) in
        record {
          taken = t.taken ++ u.taken;
          takes = Takes-more left0 left1 left t.taken u.taken t.takes u.takes;
          on = on-on e before t.taken [] kept w stands0 stands1 start mid t.on e refl (t.taken ++ u.taken) kept' x stands new (λ reached. u.on);
        }

    -- the last one
    pub turned-last : (status : Served) (first faults0 faults : ℕ) → first ≤ faults0 → (ServedSoFar f before t.taken t.on.added kept w start mid → IsSound status × EndedTaking f before status t.taken t.on.added left1 left stands1 stands faults0 faults start new) → IsSound status × EndedTaking e before status [] [] left0 left stands0 stands first faults start new
    turned-last status first faults0 faults le call =
        let both = call (subst (λ (n : ℕ). ServedSoFar n before t.taken t.on.added kept w start mid) (sym same) t.on.reached) in
        let u : EndedTaking e before status t.taken t.on.added left1 left stands1 stands faults0 faults start new = subst (λ (n : ℕ). EndedTaking n before status t.taken t.on.added left1 left stands1 stands faults0 faults start new) same both.1 in (
          both.0,
          record {
            taken = t.taken ++ u.taken;
            takes = Takes-more left0 left1 left t.taken u.taken t.takes u.takes;
            at_end = u.at_end;
            over = over-over e before t.taken [] kept w stands0 stands1 start mid t.on status (t.taken ++ u.taken) stands first faults0 faults new le u.over;
          },
        )

-- one piece more was taken
pub rose-more : (n start before now : ℕ) → RoseBy n start before → now ≡ next_count before → RoseBy (n + 1) start now
rose-more n start before now rose is = omega arith

-- a read takes one piece at most
pub one-piece : (n before now : ℕ) → now ≡ pieces_after n before → now ≤ next_count before
one-piece zero before now is = omega (arith, is)
one-piece (suc n) before now is = omega (arith, is)

-- ---- a store that was not opened

-- what was not opened was not served
no-end : (fault : OpenFault) → unopened_of fault ≡ served.Done → ⊥
no-end opens.Device same = absurd (cc (same))
no-end (opens.Damaged block) same = absurd (cc (same))
no-end opens.NoMemory same = absurd (cc (same))

-- no block is damaged where opening met none
open-sound : (fault : OpenFault) → ((block : ℕ) → fault ≡ opens.Damaged block → ⊥) → IsSound (unopened_of fault)
open-sound opens.Device sound = tt
open-sound (opens.Damaged block) sound = absurd (sound block refl)
open-sound opens.NoMemory sound = tt

-- no line was acted
over-unopened : (e : ℕ) (before : State) (status : Served) (faults0 faults : ℕ) (old new : Moment) → new.state ≡ old.state → old.reads ≤ new.reads → AtRest before old.state → ServingEnded e before status [] [] faults0 faults old new
unfolding acknowledged
over-unopened e before status faults0 faults old new still later r =
    let same : before ≡ after_writes before [] = sym (no_writes before) in
    let now : AtRest before new.state = subst (λ (s : told.State). AtRest before s) (sym still) r in
    let rests : AtRest (after_writes before []) new.state = subst (λ (t : State). AtRest t new.state) same now in
    let at_once : (P : Image → Type 0) → ((left : Image) → MayLeave old.state left → P left) → Leaves P old.state new.state = λ P holds. subst (λ (s : told.State). Leaves P old.state s) (sym still) (begins old.state holds) in
    record {
      acted = [];
      others = [];
      order = refl;
      replies = [];
      writes = [];
      runs = runs-none e before;
      hidden = [];
      text = refl;
      all = λ done. (refl, refl);
      paused = λ pause. (refl, refl);
      far = λ front behind is long. absurd (omega (arith, ap length is, length-append front behind));
      whole = λ inner still. record { shown = []; hidden = []; order = refl; text = refl; first = tt };
      since = at_once (λ left. IsPrefix left before [] 0) (λ left may. prefix-none left before [] (r.each left may));
      at_exit = λ left may. prefix-none left before [] (now.each left may);
      rests = λ short. (0, rests);
      rests_all = λ settled. rests;
      quiet = λ settled none. still;
      counts = counts-none before old new (sym still) later;
    }

-- counted from fewer reads, on the same device
over-before : (e : ℕ) (before : State) (status : Served) (input output : List ℕ) (faults0 faults : ℕ) (first old new : Moment) → first.state ≡ old.state → first.reads ≤ old.reads → ServingEnded e before status input output faults0 faults old new → ServingEnded e before status input output faults0 faults first new
over-before e before status input output faults0 faults first old new same le o = record {
  acted = o.acted;
  others = o.others;
  order = o.order;
  replies = o.replies;
  writes = o.writes;
  runs = o.runs;
  counts = counts-earlier before o.replies o.writes first old new same le o.counts;
  hidden = o.hidden;
  text = o.text;
  all = o.all;
  paused = o.paused;
  far = o.far;
  whole = o.whole;
  since = subst (λ (s : told.State). Leaves (λ left. IsPrefix left before o.writes 0) s new.state) (sym same) o.since;
  at_exit = o.at_exit;
  rests = o.rests;
  rests_all = o.rests_all;
  quiet = λ settled none. o.quiet settled none ∙ sym same;
}

-- so is a run of a store that was opened before
pub turned-opened : (e : ℕ) (before : State) (status : Served) (left0 left : Option (List ℕ)) (stands0 stands : List ℕ → Type 0) (faults0 faults : ℕ) (first old new : Moment) → first.state ≡ old.state → first.reads ≤ old.reads → IsSound status × EndedTaking e before status [] [] left0 left stands0 stands faults0 faults old new → IsSound status × EndedTaking e before status [] [] left0 left stands0 stands faults0 faults first new
turned-opened e before status left0 left stands0 stands faults0 faults first old new same le both =
    let t = both.1 in (
      both.0,
      record {
        taken = t.taken;
        takes = t.takes;
        at_end = t.at_end;
        over = record { added = t.over.added; gained = t.over.gained; over = over-before e before status t.taken t.over.added faults0 faults first old new same le t.over.over };
      },
    )

-- nothing was served: the device is as it was
pub turned-unopened : (e : ℕ) (before : State) (fault : OpenFault) (status : Served) (left : Option (List ℕ)) (stands : List ℕ → Type 0) (faults : ℕ) (old new : Moment) → status ≡ unopened_of fault → new.state ≡ old.state → old.reads ≤ new.reads → AtRest before old.state → ((block : ℕ) → fault ≡ opens.Damaged block → ⊥) → IsSound status × EndedTaking e before status [] [] left left stands stands faults faults old new
turned-unopened e before fault status left stands faults old new is same later rests none =
    subst (λ (answer : Served). IsSound answer × EndedTaking e before answer [] [] left left stands stands faults faults old new) (sym is) (
      open-sound fault none,
      record {
        taken = [];
        takes = Takes-none left;
        at_end = λ done. absurd (no-end fault done);
        over = record { added = []; gained = Gains-none stands; over = over-unopened e before (unopened_of fault) faults faults old new same later rests };
      },
    )

-- opening that stops at two blocks stops at one
names-one : {A : Type 0} (r : Result A ℕ) (a b : ℕ) → r ≡ Err a → r ≡ Err b → a ≡ b
names-one (Ok x) a b first second = absurd (cc (first))
names-one (Err e) a b first second = let one : e ≡ a = cc (first) in let two : e ≡ b = cc (second) in sym one ∙ two

unopened-names : (fault : OpenFault) (s : told.State) (b : ℕ) → ((block : ℕ) → fault ≡ opens.Damaged block → StopsOpening s block) → FailsToOpen s b → IsUnopened b (unopened_of fault)
unopened-names opens.Device s b stops fails = tt
unopened-names (opens.Damaged block) s b stops fails = names-one (open_image fails.image) block b (stops block refl fails.image fails.shown) fails.stops
unopened-names opens.NoMemory s b stops fails = tt

-- where opening stops at a block the answer is that block, or a fault
pub unopened-named : (fault : OpenFault) (status : Served) (s : told.State) (b : ℕ) → status ≡ unopened_of fault → ((block : ℕ) → fault ≡ opens.Damaged block → StopsOpening s block) → FailsToOpen s b → IsUnopened b status
unopened-named fault status s b is stops fails = subst (IsUnopened b) (sym is) (unopened-names fault s b stops fails)
