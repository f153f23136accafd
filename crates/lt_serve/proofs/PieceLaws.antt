-- A piece of input more: serving goes on, or is over within it.
use Rattle.std.proofs.Common.{◌≡◌, ℕ, ◌+◌, ◌≤◌, refl, sym, ap, subst, ◌∙◌, List, [], ◌++◌, length, take, drop, length-append, append_assoc, append-nil, take_at, take-append-drop, Result, Ok, Err, OnOk, OnErr, IfErr, arith}
use Rattle.std.specs.Result.{IsErrAnd}
use Rattle.std.proofs.lemmas.List.{take-append-le}
use Rattle.std.proofs.Math.Seq.{take-length}
use Rattle.lt_terms.specs.Bytes.{Image}
use Rattle.lt_terms.specs.Causes.{Rose, HasCause}
use Rattle.lt_terms.specs.Items.{Item}
use Rattle.lt_page.specs.declared.errors.Failed.{Failed}
use Rattle.lt_device.specs.Moments.{Leaves, MayLeave}
use Rattle.lt_io.specs.Streams.{Gains}
use Rattle.lt_io.proofs.Flows.{Gains-none, Gains-more}
use Rattle.lt_image.specs.Standing.{IsPrefix, after_writes}
use Rattle.lt_image.proofs.KeptLaws.{writes-joined}
use Rattle.lt_image.proofs.PrefixLaws.{prefix-fewer, prefix-later}
use Rattle.lt_language.specs.Commands.{Command, commands, refused_rest, lines_of, rest_of}
use Rattle.lt_language.specs.Machine.{State}
use Rattle.lt_language.specs.Replies.{Reply, texts}
use Rattle.lt_line.specs.Held.{HeldLine, kept_of}
use Rattle.lt_line.specs.Waiting.{Waiting, nothing_waits}
use Rattle.lt_store.specs.Open.{StoreView, IsOpen}
use Rattle.lt_store.specs.Promise.{AtRest}
use Rattle.lt_store.proofs.GoLaws.{open-rests}
use Rattle.lt_serve.specs.declared.faults.RoundFault.{RoundFault}
use Rattle.lt_serve.specs.declared.faults.RoundFault.TheVariants as faults
use Rattle.lt_serve.specs.declared.served.Served.{Served}
use Rattle.lt_serve.specs.declared.served.Served.TheVariants as served
use Rattle.lt_serve.specs.Faults.{IsLost, IsHalt, served_of}
use Rattle.lt_serve.specs.Promise.{IsPause, IsInnerHalt, IsSettled, Moment, Runs, StartWithOk, TellsCounts, acknowledged, ServingEnded, EndedShowing}
use Rattle.lt_serve.specs.Rounds.{RoundServed, RoundFailed}
use Rattle.lt_serve.specs.Runs.{ok_count}
use Rattle.lt_serve.specs.Sending.{Sends}
use Rattle.lt_serve.specs.Serving.{ServedSoFar, ShowedFurther}
use Rattle.lt_serve.proofs.CountLaws.{counts-more}
use Rattle.lt_serve.proofs.LineLaws.{commands-append, rest_of-append}
use Rattle.lt_serve.proofs.OverLaws.{since-more, open-has, rests-later, shows, lines-answered}
use Rattle.lt_serve.proofs.RoundLaws.{no-first, no-second, stopped-order}
use Rattle.lt_serve.proofs.RunLaws.{runs-more, runs-counts, runs-oks, ok_count-append, texts-append}
use Rattle.lt_serve.proofs.ShownLaws.{acknowledged-append}

-- ---- one round

-- Serving stopped within the bytes: the sink took a front of the text of the replies `shown`, all of it where its count did not rise and it is not the cause.
pub record PieceStopped (e : ℕ) (durable : State) (bytes : List ℕ) (status : Served) (stands0 stands : List ℕ → Type 0) (faults0 faults : ℕ) (old new : Moment) : Type 0 where
  pub acted : List Command
  pub others : List Command
  pub order : acted ++ others ≡ commands bytes
  pub shown : List Reply
  pub hidden : List Reply
  pub first : StartWithOk hidden
  pub writes : List Item
  pub runs : Runs e durable acted (shown ++ hidden) writes
  pub output : List ℕ
  pub behind : List ℕ
  pub text : texts shown ≡ output ++ behind
  pub gained : Gains stands0 stands output
  pub halt : IsHalt status
  pub whole : IsInnerHalt status → (Rose faults0 faults → ⊥) → behind ≡ []
  pub since : Leaves (λ left. IsPrefix left durable writes 0) old.state new.state
  pub at_exit : (left : Image) → MayLeave new.state left → IsPrefix left durable writes (ok_count shown)
  pub rests : status ≡ served.NoMemory → (sure : ℕ) × AtRest (after_writes durable (take sure writes)) new.state
  pub rests_all : IsSettled status → AtRest (after_writes durable writes) new.state
  pub quiet : IsSettled status → writes ≡ [] → new.state ≡ old.state
  pub counts : TellsCounts durable (shown ++ hidden) writes old new

-- the settled text of a round is that of its replies
told-text : (e : ℕ) (s : State) (bytes kept : List ℕ) (waiting : Waiting) (w : StoreView) (old new : Moment) (p : RoundServed e s bytes kept nothing_waits waiting w old new) → waiting.settled_text ≡ texts p.replies
told-text e s bytes kept waiting w old new p = ap (λ (x : Waiting). x.settled_text) p.told

-- all of it was acted, and the sink failed
pub piece-untold : (e : ℕ) (s : State) (bytes more kept : List ℕ) (waiting0 waiting unsent : Waiting) (w : StoreView) (count : ℕ) (stands0 stands : List ℕ → Type 0) (faults0 faults : ℕ) (old new : Moment) → waiting0 ≡ nothing_waits → RoundServed e s bytes kept waiting0 waiting w old new → Sends count stands0 stands waiting unsent → PieceStopped e s (bytes ++ more) served.Sink stands0 stands faults0 faults old new
piece-untold e s bytes more kept waiting0 waiting unsent w count stands0 stands faults0 faults old new none round sends =
    let p : RoundServed e s bytes kept nothing_waits waiting w old new = subst (λ (x : Waiting). RoundServed e s bytes kept x waiting w old new) none round in
    record {
      acted = commands bytes;
      others = commands (rest_of bytes ++ more);
      order = sym (commands-append bytes more);
      shown = p.replies;
      hidden = [];
      first = tt;
      writes = p.writes;
      runs = subst (λ (rs : List Reply). Runs e s (commands bytes) rs p.writes) (sym (append-nil p.replies)) p.runs;
      output = take count waiting.settled_text;
      behind = drop count waiting.settled_text;
      text = sym (told-text e s bytes kept waiting w old new p) ∙ sym (take-append-drop count waiting.settled_text);
      gained = sends.gained;
      halt = tt;
      whole = λ inner. absurd inner;
      since = p.since;
      at_exit = open-has w s p.writes (ok_count p.replies) new.state p.opened (runs-counts e s (commands bytes) p.replies p.writes p.runs);
      rests = λ short. absurd (cc (short));
      rests_all = λ settled. open-rests w (after_writes s p.writes) new.state p.opened;
      quiet = λ settled. p.quiet;
      counts = subst (λ (rs : List Reply). TellsCounts s rs p.writes old new) (sym (append-nil p.replies)) p.counts;
    }

-- what the sink took of some text, all of it where its count did not rise
pub record Told (stands0 stands : List ℕ → Type 0) (faults0 faults : ℕ) (said : List ℕ) : Type 0 where
  pub output : List ℕ
  pub behind : List ℕ
  pub whole : said ≡ output ++ behind
  pub gained : Gains stands0 stands output
  pub all : (Rose faults0 faults → ⊥) → behind ≡ []

pub told-of : (result : Result (Unit {0}) Failed) (stands0 stands : List ℕ → Type 0) (faults0 faults : ℕ) (waiting unsent : Waiting) → OnOk result (Sends (length waiting.settled_text) stands0 stands waiting unsent) → OnErr result ((count : ℕ) × Sends count stands0 stands waiting unsent) → HasCause faults0 faults result → Told stands0 stands faults0 faults waiting.settled_text
told-of (Ok u) stands0 stands faults0 faults waiting unsent all front cause = record {
  output = waiting.settled_text;
  behind = [];
  whole = sym (append-nil waiting.settled_text);
  gained = subst (λ (xs : List ℕ). Gains stands0 stands xs) (take-length waiting.settled_text) all.gained;
  all = λ still. refl;
}
told-of (Err e) stands0 stands faults0 faults waiting unsent all front cause = record {
  output = take front.0 waiting.settled_text;
  behind = drop front.0 waiting.settled_text;
  whole = sym (take-append-drop front.0 waiting.settled_text);
  gained = front.1.gained;
  all = λ still. absurd (still cause.failed);
}

-- a round that failed ends serving
halts : (fault : RoundFault) → IsLost fault → IsHalt (served_of fault)
halts faults.Device lost = tt
halts (faults.Damaged block) lost = lost
halts faults.NoMemory lost = tt

-- and leaves it open which writes are durable
not-settled : (fault : RoundFault) → IsSettled (served_of fault) → ⊥
not-settled faults.Device settled = settled
not-settled (faults.Damaged block) settled = settled
not-settled faults.NoMemory settled = settled

-- the answer tells that memory was short only where the round did
was-short : (fault : RoundFault) → served_of fault ≡ served.NoMemory → fault ≡ faults.NoMemory
was-short faults.Device same = absurd (cc (same))
was-short (faults.Damaged block) same = absurd (cc (same))
was-short faults.NoMemory same = refl

-- the round failed
pub piece-stopped : (e : ℕ) (s : State) (bytes : List ℕ) (held : HeldLine) (fault : RoundFault) (waiting0 waiting unsent : Waiting) (stands0 stands : List ℕ → Type 0) (faults0 faults : ℕ) (old new : Moment) (result : Result (Unit {0}) Failed) → waiting0.settled_text ≡ [] → RoundFailed e s bytes held fault waiting0 waiting.settled_text old new
    → OnOk result (Sends (length waiting.settled_text) stands0 stands waiting unsent) → OnErr result ((count : ℕ) × Sends count stands0 stands waiting unsent) → HasCause faults0 faults result → PieceStopped e s bytes (served_of fault) stands0 stands faults0 faults old new
piece-stopped e s bytes held fault waiting0 waiting unsent stands0 stands faults0 faults old new result none p all front cause =
    let t = told-of result stands0 stands faults0 faults waiting unsent all front cause in
    let o = stopped-order e s bytes held fault waiting0 waiting.settled_text old new p in
    record {
      acted = p.acted;
      others = o.0;
      order = o.1;
      shown = p.shown;
      hidden = p.hidden;
      first = p.first;
      writes = p.writes;
      runs = p.runs;
      output = t.output;
      behind = t.behind;
      text = sym (p.text ∙ ap (λ xs. xs ++ texts p.shown) none) ∙ t.whole;
      gained = t.gained;
      halt = halts fault p.lost;
      whole = λ inner. t.all;
      since = p.since;
      at_exit = λ left may. subst (λ (k : ℕ). IsPrefix left s p.writes k) (sym p.unwritten) (p.since.now left may);
      rests = λ short. p.rests (was-short fault short);
      rests_all = λ settled. absurd (not-settled fault settled);
      quiet = λ settled. absurd (not-settled fault settled);
      counts = p.counts;
    }

-- ---- behind what was reached

-- a front of all that was taken, with a page or more behind it, is a front of what came before the last piece
front-before : (input piece front behind : List ℕ) → length piece ≤ 4096 → input ++ piece ≡ front ++ behind → 4096 ≤ length behind → input ≡ front ++ drop (length front) input
front-before input piece front behind short is long =
    let l : length input + length piece ≡ length front + length behind = sym (length-append input piece) ∙ ap length is ∙ length-append front behind in
    let cut : take (length front) input ≡ front = sym (take-append-le (length front) input piece (omega arith)) ∙ ap (take (length front)) is ∙ take_at front behind (length front) refl in
    sym (take-append-drop (length front) input) ∙ ap (λ xs. xs ++ drop (length front) input) cut

-- a halt is no end of input
not-done : (status : Served) → IsHalt status → status ≡ served.Done → ⊥
not-done status halt done = subst IsHalt done halt

-- a halt is no pause
not-pause : (status : Served) → IsHalt status → IsPause status → ⊥
not-pause served.Done halt pause = halt
not-pause served.Source halt pause = halt
not-pause served.Sink halt pause = pause
not-pause served.Device halt pause = pause
not-pause (served.Damaged block) halt pause = halt
not-pause served.NoMemory halt pause = pause
not-pause served.Turns halt pause = halt

module _ (e : ℕ) (before : State) (input output kept : List ℕ) (w : StoreView) (start mid : Moment) (r : ServedSoFar e before input output kept w start mid) (piece : List ℕ) where
  -- it was acted
  reached-more : (kept' : List ℕ) (waiting0 waiting : Waiting) (x : StoreView) (new : Moment) (p : RoundServed e (after_writes before r.writes) (rest_of input ++ piece) kept' waiting0 waiting x mid new) → ServedSoFar e before (input ++ piece) (output ++ texts p.replies) kept' x start new
  reached-more kept' waiting0 waiting x new p = record {
    replies = r.replies ++ p.replies;
    writes = r.writes ++ p.writes;
    runs = subst (λ (cs : List Command). Runs e before cs (r.replies ++ p.replies) (r.writes ++ p.writes)) (sym (commands-append input piece)) (runs-more e before (commands input) (commands (rest_of input ++ piece)) r.replies p.replies r.writes p.writes r.runs p.runs);
    text = ap (λ xs. xs ++ texts p.replies) r.text ∙ sym (texts-append r.replies p.replies);
    line = p.line ∙ ap kept_of (sym (rest_of-append input piece));
    opened = let joined : after_writes (after_writes before r.writes) p.writes ≡ after_writes before (r.writes ++ p.writes) = writes-joined before r.writes p.writes in subst (λ (t : State). IsOpen x t new.state) joined p.opened;
    since = since-more before r.writes p.writes start.state mid.state new.state r.since p.since;
    quiet = λ none. p.quiet (no-second r.writes p.writes none) ∙ r.quiet (no-first r.writes p.writes none);
    counts = counts-more before r.replies p.replies r.writes p.writes start mid new r.since p.since (runs-oks e before (commands input) r.replies r.writes r.runs) r.counts p.counts;
  }

  -- and all of it was told
  pub stepped-on : (kept' : List ℕ) (waiting0 waiting unsent : Waiting) (x : StoreView) (stands0 stands : List ℕ → Type 0) (new : Moment) → waiting0 ≡ nothing_waits → RoundServed e (after_writes before r.writes) (rest_of input ++ piece) kept' waiting0 waiting x mid new → Sends (length waiting.settled_text) stands0 stands waiting unsent → ShowedFurther e before (input ++ piece) output kept' x stands0 stands start new
  stepped-on kept' waiting0 waiting unsent x stands0 stands new none round sends =
      let p : RoundServed e (after_writes before r.writes) (rest_of input ++ piece) kept' nothing_waits waiting x mid new = subst (λ (y : Waiting). RoundServed e (after_writes before r.writes) (rest_of input ++ piece) kept' y waiting x mid new) none round in
      record {
        added = texts p.replies;
        gained = subst (λ (xs : List ℕ). Gains stands0 stands xs) (take-length waiting.settled_text ∙ told-text e (after_writes before r.writes) (rest_of input ++ piece) kept' waiting x mid new p) sends.gained;
        reached = reached-more kept' nothing_waits waiting x new p;
      }

  -- serving stopped in it
  over-piece : (status : Served) (stands0 stands : List ℕ → Type 0) (faults0 faults : ℕ) (new : Moment) → length piece ≤ 4096 → (p : PieceStopped e (after_writes before r.writes) (rest_of input ++ piece) status stands0 stands faults0 faults mid new) → ServingEnded e before status (input ++ piece) (output ++ p.output) faults0 faults start new
  over-piece status stands0 stands faults0 faults new short p =
      let later : List Command = refused_rest (rest_of (input ++ piece)) in
      let told : List Reply = r.replies ++ p.shown in
      let regroup : r.replies ++ (p.shown ++ p.hidden) ≡ told ++ p.hidden = sym (append_assoc r.replies p.shown p.hidden) in
      let text_told : texts told ≡ (output ++ p.output) ++ p.behind = texts-append r.replies p.shown ∙ ap (λ xs. xs ++ texts p.shown) (sym r.text) ∙ ap (λ xs. output ++ xs) p.text ∙ sym (append_assoc output p.output p.behind) in
      record {
        acted = commands input ++ p.acted;
        others = p.others ++ later;
        order = append_assoc (commands input) p.acted (p.others ++ later) ∙ ap (λ cs. commands input ++ cs) (sym (append_assoc p.acted p.others later) ∙ ap (λ cs. cs ++ later) p.order)
            ∙ sym (append_assoc (commands input) (commands (rest_of input ++ piece)) later) ∙ ap (λ cs. cs ++ later) (sym (commands-append input piece));
        replies = r.replies ++ (p.shown ++ p.hidden);
        writes = r.writes ++ p.writes;
        runs = runs-more e before (commands input) p.acted r.replies (p.shown ++ p.hidden) r.writes p.writes r.runs p.runs;
        hidden = p.behind ++ texts p.hidden;
        text = ap texts regroup ∙ texts-append told p.hidden ∙ ap (λ xs. xs ++ texts p.hidden) text_told ∙ append_assoc (output ++ p.output) p.behind (texts p.hidden);
        all = λ done. absurd (not-done status p.halt done);
        paused = λ pause. absurd (not-pause status p.halt pause);
        far = λ front behind is long. shows (length (lines_of front)) r.replies (p.shown ++ p.hidden) (output ++ p.output) p.output
            (lines-answered e before input r.replies r.writes r.runs front (drop (length front) input) (front-before input piece front behind short is long)) (ap (λ xs. xs ++ p.output) r.text);
        whole = λ inner still.
            let none = p.whole inner still in
            record {
              shown = told;
              hidden = p.hidden;
              order = regroup;
              text = sym (text_told ∙ ap (λ xs. (output ++ p.output) ++ xs) none ∙ append-nil (output ++ p.output));
              first = p.first;
            };
        since = since-more before r.writes p.writes start.state mid.state new.state r.since p.since;
        counts = counts-more before r.replies (p.shown ++ p.hidden) r.writes p.writes start mid new r.since p.since (runs-oks e before (commands input) r.replies r.writes r.runs) r.counts p.counts;
        at_exit = λ left may.
            let n : length (output ++ p.output) ≤ length (texts told) = omega (arith, ap length text_told, length-append (output ++ p.output) p.behind) in
            let a = acknowledged-append told p.hidden (length (output ++ p.output)) n in
            let b = runs-counts e before (commands input) r.replies r.writes r.runs in
            let c = ok_count-append r.replies p.shown in
            let d : acknowledged (r.replies ++ (p.shown ++ p.hidden)) (length (output ++ p.output)) ≡ acknowledged (told ++ p.hidden) (length (output ++ p.output)) = ap (λ (rs : List Reply). acknowledged rs (length (output ++ p.output))) regroup in
            prefix-fewer left before (r.writes ++ p.writes) (acknowledged (r.replies ++ (p.shown ++ p.hidden)) (length (output ++ p.output))) (length r.writes + ok_count p.shown) (omega arith)
            (prefix-later left before r.writes p.writes (ok_count p.shown) (p.at_exit left may));
        rests = λ none. rests-later before r.writes p.writes new.state (p.rests none);
        rests_all = λ settled. let joined : after_writes (after_writes before r.writes) p.writes ≡ after_writes before (r.writes ++ p.writes) = writes-joined before r.writes p.writes in subst (λ (t : State). AtRest t new.state) joined (p.rests_all settled);
        quiet = λ settled none. p.quiet settled (no-second r.writes p.writes none) ∙ r.quiet (no-first r.writes p.writes none);
      }

  -- and some of it was told
  pub stepped-over : (status : Served) (stands0 stands : List ℕ → Type 0) (faults0 faults : ℕ) (new : Moment) → length piece ≤ 4096 → PieceStopped e (after_writes before r.writes) (rest_of input ++ piece) status stands0 stands faults0 faults mid new → IsHalt status × EndedShowing e before status (input ++ piece) output stands0 stands faults0 faults start new
  stepped-over status stands0 stands faults0 faults new short p = (p.halt, record { added = p.output; gained = p.gained; over = over-piece status stands0 stands faults0 faults new short p })

-- ---- one call behind another

-- counted from earlier
over-earlier : (e : ℕ) (before : State) (status : Served) (input output : List ℕ) (first faults0 faults : ℕ) (start new : Moment) → first ≤ faults0 → ServingEnded e before status input output faults0 faults start new → ServingEnded e before status input output first faults start new
over-earlier e before status input output first faults0 faults start new le o = record {
  acted = o.acted;
  others = o.others;
  order = o.order;
  replies = o.replies;
  writes = o.writes;
  runs = o.runs;
  hidden = o.hidden;
  text = o.text;
  all = o.all;
  paused = o.paused;
  far = o.far;
  whole = λ inner still. o.whole inner (λ (rose : Rose faults0 faults). still (omega (arith, rose, le)));
  since = o.since;
  at_exit = o.at_exit;
  rests = o.rests;
  rests_all = o.rests_all;
  quiet = o.quiet;
  counts = o.counts;
}

-- nothing was stepped yet
pub on-none : (e : ℕ) (before : State) (input output kept : List ℕ) (w : StoreView) (stands : List ℕ → Type 0) (start now : Moment) → ServedSoFar e before input output kept w start now → ShowedFurther e before input output kept w stands stands start now
on-none e before input output kept w stands start now r = record {
  added = [];
  gained = Gains-none stands;
  reached = subst (λ (xs : List ℕ). ServedSoFar e before input xs kept w start now) (sym (append-nil output)) r;
}

module _ (e : ℕ) (before : State) (input output kept : List ℕ) (w : StoreView) (stands0 stands1 : List ℕ → Type 0) (start mid : Moment) (s : ShowedFurther e before input output kept w stands0 stands1 start mid) where
  -- serving is over in a call more
  pub over-over : (status : Served) (input' : List ℕ) (stands : List ℕ → Type 0) (first faults0 faults : ℕ) (new : Moment) → first ≤ faults0 → EndedShowing e before status input' (output ++ s.added) stands1 stands faults0 faults start new → EndedShowing e before status input' output stands0 stands first faults start new
  over-over status input' stands first faults0 faults new le u = record {
    added = s.added ++ u.added;
    gained = Gains-more stands0 stands1 stands s.added u.added s.gained u.gained;
    over = over-earlier e before status input' (output ++ (s.added ++ u.added)) first faults0 faults start new le (subst (λ (xs : List ℕ). ServingEnded e before status input' xs faults0 faults start new) (append_assoc output s.added u.added) u.over);
  }

  module _ (f : ℕ) (same : f ≡ e) where
    -- a call of a store with as many extents goes on
    pub on-on : (input' kept' : List ℕ) (x : StoreView) (stands : List ℕ → Type 0) (new : Moment) → (ServedSoFar f before input (output ++ s.added) kept w start mid → ShowedFurther f before input' (output ++ s.added) kept' x stands1 stands start new) → ShowedFurther e before input' output kept' x stands0 stands start new
    on-on input' kept' x stands new call =
        let u : ShowedFurther e before input' (output ++ s.added) kept' x stands1 stands start new = subst (λ (n : ℕ). ShowedFurther n before input' (output ++ s.added) kept' x stands1 stands start new) same (call (subst (λ (n : ℕ). ServedSoFar n before input (output ++ s.added) kept w start mid) (sym same) s.reached)) in
        record {
          added = s.added ++ u.added;
          gained = Gains-more stands0 stands1 stands s.added u.added s.gained u.gained;
          reached = subst (λ (xs : List ℕ). ServedSoFar e before input' xs kept' x start new) (append_assoc output s.added u.added) u.reached;
        }

    -- or serving is over in it
    pub on-over : (status : Served) (input' : List ℕ) (stands : List ℕ → Type 0) (first faults0 faults : ℕ) (new : Moment) → first ≤ faults0 → (ServedSoFar f before input (output ++ s.added) kept w start mid → IsHalt status × EndedShowing f before status input' (output ++ s.added) stands1 stands faults0 faults start new) → IsHalt status × EndedShowing e before status input' output stands0 stands first faults start new
    on-over status input' stands first faults0 faults new le call =
        let both = call (subst (λ (n : ℕ). ServedSoFar n before input (output ++ s.added) kept w start mid) (sym same) s.reached) in
        (both.0, over-over status input' stands first faults0 faults new le (subst (λ (n : ℕ). EndedShowing n before status input' (output ++ s.added) stands1 stands faults0 faults start new) same both.1))

-- what holds of the fault of a call holds of the answer that passes it on
pub at-exit : {T E : Type 0} (result : Result T E) (fault : E) (P : E → Type 0) → IsErrAnd result (λ other. other ≡ fault) → P fault → IfErr result P
at-exit (Ok x) fault P same p = absurd same
at-exit (Err other) fault P same p = subst P (sym same) p
