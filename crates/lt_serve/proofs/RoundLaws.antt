-- A round goes on by a part of a line, by a line, and by a commit; and it fails.
use Rattle.std.proofs.Common.{◌≡◌, ◌≢◌, ℕ, ◌+◌, ◌-◌, ◌<◌, ◌≤◌, zero, suc, refl, sym, ap, subst, ◌∙◌, List, [], ◌∷◌, ◌++◌, map, take, drop, length, length-append, length-drop, append_assoc, append-nil, take-add, take-append-drop, Bool, true, false, ◌||◌, cond, inl, inr, arith}
use Rattle.std.specs.Bool.{IsFalse}
use Rattle.std.proofs.lemmas.Bool.{cases_Bool, false≢true}
use Rattle.std.proofs.lemmas.List.{map-append}
use Rattle.lt_terms.specs.Items.{Item}
use Rattle.lt_device.specs.Moments.{Leaves}
use Rattle.lt_device.specs.State as told
use Rattle.lt_image.specs.Standing.{IsPrefix, Stands, after_writes}
use Rattle.lt_image.proofs.KeptLaws.{no_writes, writes-joined}
use Rattle.lt_language.specs.Commands.{Command, command_of, commands, line_feed, has_line_feed, lines_of, rest_of}
use Rattle.lt_language.specs.Machine.{State}
use Rattle.lt_language.specs.Replies as replies
use Rattle.lt_language.specs.Replies.{Reply, text, texts}
use Rattle.lt_line.specs.Held.{HeldLine, kept_of}
use Rattle.lt_line.specs.Waiting.{Waiting, all_settled}
use Rattle.lt_line.proofs.HeldLaws.{kept_of-append, kept_of-none}
use Rattle.lt_store.specs.Going.{Goes, Survives}
use Rattle.lt_store.specs.Open.{IsOpen, StoreView, extents_of, state_of}
use Rattle.lt_store.specs.Promise.{AtRest}
use Rattle.lt_store.proofs.GoLaws.{goes-none, goes-behind, breaks-behind, goes-state}
use Rattle.lt_serve.specs.declared.faults.RoundFault.{RoundFault}
use Rattle.lt_serve.specs.declared.faults.RoundFault.TheVariants as faults
use Rattle.lt_serve.specs.Acting.{LineAnswered, CommandAnswered, CommandFailed, settled_unless}
use Rattle.lt_serve.specs.Rounds.{FailedAtCommit, FailedAtLine, RoundServed, RoundFailed, LinesActed, all_text}
use Rattle.lt_serve.specs.Runs.{ok_count}
use Rattle.lt_serve.specs.Promise.{Moment, Runs, StartWithOk, TellsCounts, is_ok}
use Rattle.lt_serve.proofs.CountLaws.{counts-line, counts-none, counts-quiet, counts-still}
use Rattle.lt_serve.proofs.LineLaws.{commands-append, commands-unbroken, commands-ended, lines-ended, rest_of-unbroken, rest_of-ended}
use Rattle.lt_serve.proofs.RunLaws.{ok_count-append, ok_count-cons, runs-more, runs-none, runs-oks, texts-append, texts-more}

-- ---- replies that wait

texts-length : (rs : List Reply) (r : Reply) → length (texts (rs ++ r ∷ [])) ≡ length (texts rs) + length (text r)
texts-length rs r = ap length (texts-more rs r) ∙ length-append (texts rs) (text r)

some-more : (hidden : List Reply) (r : Reply) → hidden ++ r ∷ [] ≢ []
some-more [] r = λ e. cc
some-more (x ∷ hidden) r = λ e. cc

start-one : (r : Reply) → is_ok r ≡ true → StartWithOk (r ∷ [])
start-one replies.ok is = tt
start-one (replies.value v) is = absurd (false≢true is)
start-one replies.none is = absurd (false≢true is)
start-one (replies.full n f) is = absurd (false≢true is)
start-one replies.limit is = absurd (false≢true is)
start-one (replies.stat w r t f) is = absurd (false≢true is)
start-one (replies.bad kind) is = absurd (false≢true is)

start-behind : (first : Reply) (hidden ys : List Reply) → StartWithOk (first ∷ hidden) → StartWithOk (first ∷ (hidden ++ ys))
start-behind replies.ok hidden ys start = tt
start-behind (replies.value v) hidden ys start = absurd start
start-behind replies.none hidden ys start = absurd start
start-behind (replies.full n f) hidden ys start = absurd start
start-behind replies.limit hidden ys start = absurd start
start-behind (replies.stat w r t f) hidden ys start = absurd start
start-behind (replies.bad kind) hidden ys start = absurd start

-- the first write that was taken, or a reply behind it
start-more : (wrote : Bool) (hidden : List Reply) (r : Reply) → (wrote ≡ true → hidden ≢ []) → (wrote || is_ok r) ≡ true → StartWithOk hidden → StartWithOk (hidden ++ r ∷ [])
start-more wrote (x ∷ hidden) r some is start = start-behind x hidden (r ∷ []) start
start-more true [] r some is start = absurd (some refl refl)
start-more false [] r some is start = start-one r is

-- ---- where no write was taken

pub no-first : (xs ys : List Item) → xs ++ ys ≡ [] → xs ≡ []
no-first [] ys none = refl
no-first (x ∷ xs) ys none = absurd (cc (none))

pub no-second : (xs ys : List Item) → xs ++ ys ≡ [] → ys ≡ []
no-second [] ys none = none
no-second (x ∷ xs) ys none = absurd (cc (none))

no-rest : (n : ℕ) → drop {A = Item} n [] ≡ []
no-rest zero = refl
no-rest (suc n) = refl

-- nothing is pending still
still-idle : (v w : StoreView) (durable : State) (writes : List Item) (old new : told.State) → Goes v writes w durable old new → v.log.pending ≡ [] → writes ≡ [] → w.log.pending ≡ []
still-idle v w durable writes old new goes idle none = goes.pending ∙ ap (λ xs. drop goes.sure (xs ++ writes)) idle ∙ ap (drop goes.sure) none ∙ no-rest goes.sure

-- ---- acting goes on

-- nothing was taken yet
pub went-none : (v : StoreView) (durable : State) (rest kept : List ℕ) (waiting : Waiting) (s : Moment) → IsOpen v durable s.state → IsFalse (has_line_feed rest) → kept ≡ kept_of rest → waiting.pending_text ≡ [] → LinesActed v durable rest kept false waiting waiting v s s
went-none v durable rest kept waiting s opened free line none = record {
  shown = [];
  hidden = [];
  writes = [];
  runs = subst (λ (cs : List Command). Runs (extents_of v) (state_of v durable) cs [] []) (sym (commands-unbroken [] rest free)) (runs-none (extents_of v) (state_of v durable));
  line = line ∙ ap kept_of (sym (rest_of-unbroken [] rest free));
  settled = sym (append-nil waiting.settled_text);
  pending = none;
  room = omega arith;
  unwritten = refl;
  first = tt;
  none = λ is. refl;
  some = λ is. absurd (false≢true is);
  goes = goes-none v durable s.state opened;
  quiet = λ idle none. refl;
  counts = λ idle. counts-none durable s s refl (omega arith);
}

-- the unfinished line goes on
pub went-on : (v : StoreView) (durable : State) (bytes chunk kept kept' : List ℕ) (wrote : Bool) (waiting0 waiting : Waiting) (w : StoreView) (old new : Moment) → LinesActed v durable bytes kept wrote waiting0 waiting w old new
    → IsFalse (has_line_feed chunk) → kept' ≡ kept_of (kept ++ chunk) → LinesActed v durable (bytes ++ chunk) kept' wrote waiting0 waiting w old new
went-on v durable bytes chunk kept kept' wrote waiting0 waiting w old new went free more = record {
  shown = went.shown;
  hidden = went.hidden;
  writes = went.writes;
  runs = subst (λ (cs : List Command). Runs (extents_of v) (state_of v durable) cs (went.shown ++ went.hidden) went.writes) (sym (commands-unbroken bytes chunk free)) went.runs;
  line = more ∙ ap (λ k. kept_of (k ++ chunk)) went.line ∙ kept_of-append (rest_of bytes) chunk ∙ ap kept_of (sym (rest_of-unbroken bytes chunk free));
  settled = went.settled;
  pending = went.pending;
  room = went.room;
  unwritten = went.unwritten;
  first = went.first;
  none = went.none;
  some = went.some;
  goes = went.goes;
  quiet = went.quiet;
  counts = went.counts;
}

-- what is kept of the line that ends here
pub kept-line : (v : StoreView) (durable : State) (bytes chunk kept kept' : List ℕ) (wrote : Bool) (waiting0 waiting : Waiting) (w : StoreView) (old new : Moment) → LinesActed v durable bytes kept wrote waiting0 waiting w old new
    → kept' ≡ kept_of (kept ++ chunk) → kept' ≡ kept_of (rest_of bytes ++ chunk)
kept-line v durable bytes chunk kept kept' wrote waiting0 waiting w old new went more = more ∙ ap (λ k. kept_of (k ++ chunk)) went.line ∙ kept_of-append (rest_of bytes) chunk

module _ (v : StoreView) (durable : State) (bytes chunk kept : List ℕ) (wrote0 : Bool) (waiting0 waiting : Waiting) (w : StoreView) (old mid : Moment) (went : LinesActed v durable bytes kept wrote0 waiting0 waiting w old mid)
    (opened : IsOpen v durable old.state) (free : IsFalse (has_line_feed chunk)) (waiting' : Waiting) (x : StoreView) (new : Moment) where
  now : State
  now = after_writes durable (take went.goes.sure (v.log.pending ++ went.writes))

  abbrev Line : Bool → Type 0
  Line wrote = LineAnswered w now (command_of (rest_of bytes ++ chunk)) wrote0 wrote waiting waiting' x mid new

  abbrev Further : Bool → Type 0
  Further wrote = LinesActed v durable (bytes ++ (chunk ++ line_feed ∷ [])) [] wrote waiting0 waiting' x old new

  runs-further : (wrote : Bool) (a : Line wrote) → extents_of w ≡ extents_of v → Runs (extents_of v) (state_of v durable) (commands (bytes ++ (chunk ++ line_feed ∷ []))) ((went.shown ++ went.hidden) ++ a.reply ∷ []) (went.writes ++ a.writes)
  unfolding now
  runs-further wrote a same =
      let command : Command = command_of (rest_of bytes ++ chunk) in
      let here : Runs (extents_of v) (after_writes (state_of v durable) went.writes) (command ∷ []) (a.reply ∷ []) a.writes =
      subst (λ e. Runs e (after_writes (state_of v durable) went.writes) (command ∷ []) (a.reply ∷ []) a.writes) same
      (subst (λ s. Runs (extents_of w) s (command ∷ []) (a.reply ∷ []) a.writes) (goes-state v w went.writes durable old.state mid.state went.goes) a.runs) in
      subst (λ (cs : List Command). Runs (extents_of v) (state_of v durable) cs ((went.shown ++ went.hidden) ++ a.reply ∷ []) (went.writes ++ a.writes)) (sym (commands-ended bytes chunk free))
      (runs-more (extents_of v) (state_of v durable) (commands bytes) (command ∷ []) (went.shown ++ went.hidden) (a.reply ∷ []) went.writes a.writes went.runs here)

  goes-further : (wrote : Bool) (a : Line wrote) → Goes v (went.writes ++ a.writes) x durable old.state new.state
  unfolding now
  goes-further wrote a = goes-behind v w went.writes durable old.state mid.state went.goes x a.writes new.state a.goes

  quiet-further : (wrote : Bool) (a : Line wrote) → v.log.pending ≡ [] → went.writes ++ a.writes ≡ [] → new.state ≡ old.state
  quiet-further wrote a idle none =
      let first : went.writes ≡ [] = no-first went.writes a.writes none in
      a.quiet (still-idle v w durable went.writes old.state mid.state went.goes idle first) (no-second went.writes a.writes none) ∙ went.quiet idle first

  counts-further : (wrote : Bool) (a : Line wrote) → v.log.pending ≡ [] → TellsCounts durable ((went.shown ++ went.hidden) ++ a.reply ∷ []) (went.writes ++ a.writes) old new
  unfolding now
  counts-further wrote a idle =
      let g = went.goes in
      let all : v.log.pending ++ went.writes ≡ went.writes = ap (λ xs. xs ++ went.writes) idle in
      let at_most : g.sure ≤ length went.writes = omega (arith, g.within, ap length all) in
      let behind : length w.log.pending ≡ length went.writes - g.sure = ap length g.pending ∙ length-drop g.sure (v.log.pending ++ went.writes) ∙ ap (λ (xs : List Item). length xs - g.sure) all in
      counts-line durable (went.shown ++ went.hidden) went.writes a.writes a.reply old mid new went.goes.survives a.goes.survives (runs-oks (extents_of v) (state_of v durable) (commands bytes) (went.shown ++ went.hidden) went.writes went.runs) (went.counts idle)
      w.log.pending a.stat.reads a.stat.images a.stat.past g.opened.rest.image g.opened.rest.tells
      (λ few. record {
        count = g.sure;
        at_least = omega (arith, few, behind);
        at_most = at_most;
        stands = subst (λ ws. Stands g.opened.rest.image (after_writes durable (take g.sure ws))) all (g.opened.rest.each g.opened.rest.image g.opened.rest.tells);
      })

  line-further : [] ≡ kept_of (rest_of (bytes ++ (chunk ++ line_feed ∷ [])))
  line-further = sym kept_of-none ∙ ap kept_of (sym (rest_of-ended bytes chunk free))

  -- no write was taken yet: the reply is settled
  further-shown : wrote0 ≡ false → (a : Line false) → is_ok a.reply ≡ false → extents_of w ≡ extents_of v → Further false
  further-shown before a not same =
      let none : went.hidden ≡ [] = went.none before in
      let more : waiting.pending_text ≡ [] = went.pending ∙ ap texts none in
      let room : waiting'.room ≡ waiting.room - length (text a.reply) = ap (λ (t : Waiting). t.room) a.told in
      let hidden0 : length (texts went.hidden) ≡ 0 = ap (λ rs. length (texts rs)) none in
      let count : ok_count (went.shown ++ a.reply ∷ []) ≡ ok_count went.shown + ok_count (a.reply ∷ []) = ok_count-append went.shown (a.reply ∷ []) in
      let shown_are : (went.shown ++ went.hidden) ++ a.reply ∷ [] ≡ (went.shown ++ a.reply ∷ []) ++ [] =
      ap (λ rs. (went.shown ++ rs) ++ a.reply ∷ []) none ∙ ap (λ rs. rs ++ a.reply ∷ []) (append-nil went.shown) ∙ sym (append-nil (went.shown ++ a.reply ∷ [])) in
      let one : ok_count (a.reply ∷ []) ≡ 0 = ok_count-cons a.reply [] ∙ ap (λ b. cond {A = ℕ} b 1 0 + ok_count []) not in
      record {
        shown = went.shown ++ a.reply ∷ [];
        hidden = [];
        writes = went.writes ++ a.writes;
        runs = subst (λ rs. Runs (extents_of v) (state_of v durable) (commands (bytes ++ (chunk ++ line_feed ∷ []))) rs (went.writes ++ a.writes))
            shown_are (runs-further false a same);
        line = line-further;
        settled = ap (λ (t : Waiting). t.settled_text) a.told ∙ ap (λ p. waiting.settled_text ++ (p ++ text a.reply)) more ∙ ap (λ s. s ++ text a.reply) went.settled
            ∙ append_assoc waiting0.settled_text (texts went.shown) (text a.reply) ∙ ap (λ t. waiting0.settled_text ++ t) (sym (texts-more went.shown a.reply));
        pending = ap (λ (t : Waiting). t.pending_text) a.told;
        room = omega (arith, texts-length went.shown a.reply, went.room, a.fits);
        unwritten = omega (arith, went.unwritten);
        first = tt;
        none = λ is. refl;
        some = λ is. absurd (false≢true is);
        goes = goes-further false a;
        quiet = quiet-further false a;
        counts = λ idle. subst (λ rs. TellsCounts durable rs (went.writes ++ a.writes) old new) shown_are (counts-further false a idle);
      }

  -- a write was taken, and the reply waits
  further-hidden : (a : Line true) → (wrote0 || is_ok a.reply) ≡ true → extents_of w ≡ extents_of v → Further true
  further-hidden a is same =
      let room : waiting'.room ≡ waiting.room - length (text a.reply) = ap (λ (t : Waiting). t.room) a.told in
      record {
        shown = went.shown;
        hidden = went.hidden ++ a.reply ∷ [];
        writes = went.writes ++ a.writes;
        runs = subst (λ rs. Runs (extents_of v) (state_of v durable) (commands (bytes ++ (chunk ++ line_feed ∷ []))) rs (went.writes ++ a.writes)) (append_assoc went.shown went.hidden (a.reply ∷ [])) (runs-further true a same);
        line = line-further;
        settled = ap (λ (t : Waiting). t.settled_text) a.told ∙ went.settled;
        pending = ap (λ (t : Waiting). t.pending_text) a.told ∙ ap (λ p. p ++ text a.reply) went.pending ∙ sym (texts-more went.hidden a.reply);
        room = omega (arith, texts-length went.hidden a.reply, went.room, a.fits);
        unwritten = went.unwritten;
        first = start-more wrote0 went.hidden a.reply went.some is went.first;
        none = λ no. absurd (false≢true (sym no));
        some = λ yes. some-more went.hidden a.reply;
        goes = goes-further true a;
        quiet = quiet-further true a;
        counts = λ idle. subst (λ rs. TellsCounts durable rs (went.writes ++ a.writes) old new) (append_assoc went.shown went.hidden (a.reply ∷ [])) (counts-further true a idle);
      }

  either : (wrote before : Bool) → before ≡ wrote0 → (a : Line wrote) → wrote ≡ (before || is_ok a.reply) → extents_of w ≡ extents_of v → Further wrote
  either false false was a is same = further-shown (sym was) a (sym is) same
  either false true was a is same = absurd (false≢true is)
  either true before was a is same = further-hidden a (ap (λ b. b || is_ok a.reply) (sym was) ∙ sym is) same

  -- a line ended, and was answered
  pub went-line : (wrote : Bool) → LineAnswered w (after_writes durable (take went.goes.sure (v.log.pending ++ went.writes))) (command_of (rest_of bytes ++ chunk)) wrote0 wrote waiting waiting' x mid new → extents_of w ≡ extents_of v
      → LinesActed v durable (bytes ++ (chunk ++ line_feed ∷ [])) [] wrote waiting0 waiting' x old new
  unfolding now
  went-line wrote a same = either wrote wrote0 refl a a.wrote_is same

-- ---- a commit, and a fault

module _ (v : StoreView) (durable : State) (bytes kept : List ℕ) (wrote : Bool) (waiting0 waiting : Waiting) (w : StoreView) (old mid : Moment) (went : LinesActed v durable bytes kept wrote waiting0 waiting w old mid) (nothing : v.log.pending ≡ []) where
  all_are : v.log.pending ++ went.writes ≡ went.writes
  all_are = ap (λ xs. xs ++ went.writes) nothing

  runs-durable : Runs (extents_of v) durable (commands bytes) (went.shown ++ went.hidden) went.writes
  runs-durable = subst (λ s. Runs (extents_of v) s (commands bytes) (went.shown ++ went.hidden) went.writes) (ap (after_writes durable) nothing ∙ no_writes durable) went.runs

  rests-first : (n : ℕ) (new : Moment) → AtRest (after_writes (after_writes durable (take went.goes.sure (v.log.pending ++ went.writes))) (take n w.log.pending)) new.state → AtRest (after_writes durable (take (went.goes.sure + n) went.writes)) new.state
  rests-first n new rests =
      let all : List Item = v.log.pending ++ went.writes in
      let first : List Item = take went.goes.sure all in
      subst (λ s. AtRest s new.state)
      (ap (λ xs. after_writes (after_writes durable first) (take n xs)) went.goes.pending ∙ writes-joined durable first (take n (drop went.goes.sure all))
      ∙ ap (after_writes durable) (sym (take-add went.goes.sure n all)) ∙ ap (λ xs. after_writes durable (take (went.goes.sure + n) xs)) all_are) rests

  joined : texts (went.shown ++ went.hidden) ≡ texts went.shown ++ texts went.hidden
  joined = texts-append went.shown went.hidden

  long : length (texts (went.shown ++ went.hidden)) ≡ length (texts went.shown) + length (texts went.hidden)
  long = ap length joined ∙ length-append (texts went.shown) (texts went.hidden)

  -- what follows these bytes was not acted
  stopped : (all settled : List ℕ) (held : HeldLine) (fault : RoundFault) (new : Moment) → CommandFailed w (after_writes durable (take went.goes.sure (v.log.pending ++ went.writes))) fault mid new → settled ≡ waiting.settled_text
      → (held.is_ended ≡ true → FailedAtLine all held.kept (commands bytes)) → (held.is_ended ≡ false → FailedAtCommit all held.kept (commands bytes) (waiting0.room - length (texts (went.shown ++ went.hidden))))
      → RoundFailed (extents_of v) durable all held fault waiting0 settled old new
  stopped all settled held fault new lost is at_line at_commit = record {
    acted = commands bytes;
    shown = went.shown;
    hidden = went.hidden;
    writes = went.writes;
    runs = runs-durable;
    fits = omega (arith, went.room, long);
    at_line = at_line;
    at_commit = at_commit;
    text = is ∙ went.settled;
    unwritten = went.unwritten;
    first = went.first;
    since = subst (λ xs. Leaves (λ left. IsPrefix left durable xs 0) old.state new.state) all_are (breaks-behind v w went.writes durable old.state mid.state went.goes new.state lost.survives);
    counts = counts-still durable _ (went.shown ++ went.hidden) went.writes old mid new went.goes.survives lost.survives (went.counts nothing) lost.counts;
    lost = lost.lost;
    rests = λ short. let r = lost.rests short in (went.goes.sure + r.0, rests-first r.0 new r.1);
  }

  -- the event of the line that ended failed
  pub stopped-line : (chunk more settled : List ℕ) (held : HeldLine) (fault : RoundFault) (new : Moment) → CommandFailed w (after_writes durable (take went.goes.sure (v.log.pending ++ went.writes))) fault mid new → settled ≡ waiting.settled_text
      → IsFalse (has_line_feed chunk) → held.is_ended ≡ true → held.kept ≡ kept_of (kept ++ chunk) → RoundFailed (extents_of v) durable (bytes ++ ((chunk ++ line_feed ∷ []) ++ more)) held fault waiting0 settled old new
  stopped-line chunk more settled held fault new lost is free ended kept_is = stopped (bytes ++ ((chunk ++ line_feed ∷ []) ++ more)) settled held fault new lost is
      (λ same. record {
        before = lines_of bytes;
        line = rest_of bytes ++ chunk;
        after = lines_of (rest_of (bytes ++ (chunk ++ line_feed ∷ [])) ++ more);
        lines = lines-ended bytes chunk more free;
        acted_are = refl;
        held = kept-line v durable bytes chunk kept held.kept wrote waiting0 waiting w old mid went kept_is;
      })
      (λ not. absurd (false≢true (sym not ∙ ended)))

  -- the commit failed
  pub stopped-commit : (more settled : List ℕ) (held : HeldLine) (fault : RoundFault) (new : Moment) → CommandFailed w (after_writes durable (take went.goes.sure (v.log.pending ++ went.writes))) fault mid new → settled ≡ waiting.settled_text
      → held.is_ended ≡ false → held.kept ≡ kept → (more ≢ [] → waiting.room < 3007) → RoundFailed (extents_of v) durable (bytes ++ more) held fault waiting0 settled old new
  stopped-commit more settled held fault new lost is open_line kept_is short = stopped (bytes ++ more) settled held fault new lost is
      (λ ended. absurd (false≢true (sym open_line ∙ ended)))
      (λ same. record {
        taken = bytes;
        rest = more;
        split = refl;
        acted_are = refl;
        held = kept_is ∙ went.line;
        short = λ some. omega (arith, short some, went.room, long);
      })

  -- all writes are durable, and the replies are settled
  pub round-after : (x : StoreView) (new : Moment) → Goes w [] x (after_writes durable (take went.goes.sure (v.log.pending ++ went.writes))) mid.state new.state → (w.log.pending ≡ [] → new.state ≡ mid.state) → mid.reads ≤ new.reads → x.log.pending ≡ []
      → (first settled : Waiting) → waiting0 ≡ all_settled first → settled ≡ all_settled waiting → RoundServed (extents_of v) durable bytes kept first settled x old new
  round-after x new commit idle later none first settled begun is =
      let g = goes-behind v w went.writes durable old.state mid.state went.goes x [] new.state commit in
      let given : List Item = v.log.pending ++ (went.writes ++ []) in
      let given_are : given ≡ went.writes = ap (λ xs. v.log.pending ++ xs) (append-nil went.writes) ∙ all_are in
      let whole : take g.sure given ≡ went.writes = sym (append-nil (take g.sure given)) ∙ ap (λ xs. take g.sure given ++ xs) (sym none ∙ g.pending) ∙ take-append-drop g.sure given ∙ given_are in
      let all : List Reply = went.shown ++ went.hidden in
      let room0 : waiting0.room ≡ first.room = ap (λ (t : Waiting). t.room) begun in
      let room : waiting.room ≡ first.room - length (texts all) = omega (arith, went.room, long, room0) in
      let told : all_text waiting ≡ all_text first ++ texts all = ap (λ s. s ++ waiting.pending_text) went.settled ∙ append_assoc waiting0.settled_text (texts went.shown) waiting.pending_text
      ∙ ap (λ t. waiting0.settled_text ++ t) (ap (λ t. texts went.shown ++ t) went.pending ∙ sym joined) ∙ ap (λ (t : Waiting). t.settled_text ++ texts all) begun in
      record {
        replies = all;
        writes = went.writes;
        runs = runs-durable;
        line = went.line;
        fits = omega (arith, went.room, long, room0);
        told = is ∙ ap (λ t. record { settled_text = t; pending_text = []; room = waiting.room }) told ∙ ap (λ n. record { settled_text = all_text first ++ texts all; pending_text = []; room = n }) room;
        opened = subst (λ xs. IsOpen x (after_writes durable xs) new.state) whole g.opened;
        since = subst (λ xs. Leaves (λ left. IsPrefix left durable xs 0) old.state new.state) given_are g.survives;
        counts = counts-still durable durable all went.writes old mid new went.goes.survives commit.survives (went.counts nothing) (counts-quiet durable mid new went.goes.opened.rest.image went.goes.opened.rest.tells commit.survives later);
        quiet = λ unwritten. idle (still-idle v w durable went.writes old.state mid.state went.goes nothing unwritten) ∙ went.quiet nothing unwritten;
      }

-- the lines that were acted are the first of all
line-order : (bytes kept : List ℕ) (acted : List Command) → FailedAtLine bytes kept acted → (others : List Command) × (acted ++ others ≡ commands bytes)
line-order bytes kept acted a = (
  map command_of (a.line ∷ a.after),
  ap (λ cs. cs ++ map command_of (a.line ∷ a.after)) a.acted_are ∙ sym (map-append command_of a.before (a.line ∷ a.after)) ∙ ap (map command_of) (sym a.lines),
)

commit-order : (bytes kept : List ℕ) (acted : List Command) (left : ℕ) → FailedAtCommit bytes kept acted left → (others : List Command) × (acted ++ others ≡ commands bytes)
commit-order bytes kept acted left a = (
  commands (rest_of a.taken ++ a.rest),
  ap (λ cs. cs ++ commands (rest_of a.taken ++ a.rest)) a.acted_are ∙ sym (commands-append a.taken a.rest) ∙ ap commands (sym a.split),
)

pub stopped-order : (e : ℕ) (durable : State) (bytes : List ℕ) (held : HeldLine) (fault : RoundFault) (waiting0 : Waiting) (settled : List ℕ) (old new : Moment) → (p : RoundFailed e durable bytes held fault waiting0 settled old new) → (others : List Command) × (p.acted ++ others ≡ commands bytes)
stopped-order e durable bytes held fault waiting0 settled old new p = elim (cases_Bool held.is_ended) [
  | inl ended ↦ line-order bytes held.kept p.acted (p.at_line ended)
  | inr open_line ↦ commit-order bytes held.kept p.acted (waiting0.room - length (texts (p.shown ++ p.hidden))) (p.at_commit open_line)
]

-- a commit that failed
pub lost-commit : (w : StoreView) (durable : State) (old new : Moment) → IsOpen w durable old.state → old.reads ≤ new.reads → Survives w [] durable old.state new.state → CommandFailed w durable faults.Device old new
lost-commit w durable old new opened later survives = record { lost = tt; survives = survives; rests = λ is. absurd (cc); counts = counts-quiet durable old new opened.rest.image opened.rest.tells survives later }

-- ---- a line

-- a line's command was acted, and its reply is settled as long as no write was taken
pub answered-line : (v w : StoreView) (durable : State) (command : Command) (wrote0 wrote taken : Bool) (waiting0 waiting waiting' : Waiting) (old new : Moment) → CommandAnswered v durable command taken waiting0 waiting w old new
    → wrote ≡ (wrote0 || taken) → waiting' ≡ settled_unless wrote waiting → LineAnswered v durable command wrote0 wrote waiting0 waiting' w old new
answered-line v w durable command wrote0 wrote taken waiting0 waiting waiting' old new a is settled = record {
  reply = a.reply;
  writes = a.writes;
  runs = a.runs;
  goes = a.goes;
  quiet = a.quiet;
  stat = a.stat;
  wrote_is = is ∙ ap (λ b. wrote0 || b) a.taken_is;
  fits = a.fits;
  told = settled ∙ ap (settled_unless wrote) a.told;
}
