-- What is answered on any blocks, up to the first write that is taken.
use Rattle.std.proofs.Common.{◌≡◌, ◌⊎◌, ℕ, refl, sym, ap, subst, ◌∙◌, List, [], ◌∷◌, ◌++◌, map, append_assoc, append-nil, Bool, true, false, ◌||◌, inl, inr, Option, Some, Result, Ok, Err}
use Rattle.std.specs.Bool.{IsFalse}
use Rattle.std.proofs.lemmas.Bool.{false≢true}
use Rattle.std.proofs.lemmas.List.{map-append}
use Rattle.lt_terms.specs.Bytes.{Image}
use Rattle.lt_terms.specs.Items.{Item}
use Rattle.lt_device.specs.State as told
use Rattle.lt_htable.specs.declared.faults.LookFault.{LookFault}
use Rattle.lt_language.specs.Commands.{Command, put, delete, get, stat, bad, command_of, commands, line_feed, has_line_feed, lines_of, rest_of}
use Rattle.lt_language.specs.Machine.{found}
use Rattle.lt_language.specs.Replies as replies
use Rattle.lt_language.specs.Replies.{Reply, text, texts}
use Rattle.lt_line.specs.Held.{kept_of}
use Rattle.lt_line.specs.Waiting.{Waiting, all_settled, with_text}
use Rattle.lt_line.proofs.HeldLaws.{kept_of-append, kept_of-none}
use Rattle.lt_store.specs.Promise.{RepliesSeen, IsStatReply}
use Rattle.lt_store.specs.Committing.{committed}
use Rattle.lt_store.specs.Getting.{seen_of}
use Rattle.lt_store.specs.Open.{StoreView}
use Rattle.lt_tables.specs.Table.{value_of}
use Rattle.lt_serve.specs.declared.faults.RoundFault.{RoundFault}
use Rattle.lt_serve.specs.declared.faults.RoundFault.TheVariants as faults
use Rattle.lt_serve.specs.Acting.{settled_unless}
use Rattle.lt_serve.specs.Promise.{AreSeen, BeginsWithOk, IsSeenReply, Sight, StopsNext, WritesNext, is_ok}
use Rattle.lt_serve.specs.Rounds.{all_text}
use Rattle.lt_serve.specs.Seeing.{FailsSeen, IsStill, Sees, SeesLines, StaysBehind, StopsAt, Tells}
use Rattle.lt_serve.proofs.LineLaws.{commands-append, commands-unbroken, commands-ended, lines-ended, rest_of-unbroken, rest_of-ended}
use Rattle.lt_serve.proofs.RunLaws.{found-not, texts-append, texts-more}

-- ---- replies that tell what is seen

pub are-append : (sight : Sight) (c1 c2 : List Command) (r1 r2 : List Reply) → AreSeen sight c1 r1 → AreSeen sight c2 r2 → AreSeen sight (c1 ++ c2) (r1 ++ r2)
are-append sight [] c2 [] r2 first then = then
are-append sight [] c2 (r ∷ rs) r2 first then = absurd first
are-append sight (c ∷ cs) c2 [] r2 first then = absurd first
are-append sight (c ∷ cs) c2 (r ∷ rs) r2 first then = (first.0, are-append sight cs c2 rs r2 first.1 then)

pub begins-more : (xs ys : List ℕ) → BeginsWithOk xs → BeginsWithOk (xs ++ ys)
begins-more xs ys b = record { more = b.more ++ ys; is = ap (λ t. t ++ ys) b.is ∙ append_assoc (text replies.ok) b.more ys }

pub stops-more : (sight : Sight) (xs ys : List Command) (b : ℕ) → StopsNext sight xs b → StopsNext sight (xs ++ ys) b
stops-more sight [] ys b stops = absurd stops
stops-more sight (put key value ∷ xs) ys b stops = tt
stops-more sight (delete key ∷ xs) ys b stops = tt
stops-more sight (get key ∷ xs) ys b stops = stops
stops-more sight (stat ∷ xs) ys b stops = absurd stops
stops-more sight (bad kind ∷ xs) ys b stops = absurd stops

-- ---- the first write that is taken

get-not-ok : (seen : Result (Option Item) LookFault) (reply : Reply) → is_ok reply ≡ true → RepliesSeen seen (Some reply) → ⊥
get-not-ok (Ok item) reply ok is = let one : reply ≡ found (value_of item) = cc (is) in false≢true (sym (found-not (value_of item)) ∙ ap is_ok (sym one) ∙ ok)
get-not-ok (Err fault) reply ok is = is

stat-not-ok : (reply : Reply) → is_ok reply ≡ true → IsStatReply reply → ⊥
stat-not-ok replies.ok ok is = is
stat-not-ok (replies.value v) ok is = is
stat-not-ok replies.none ok is = is
stat-not-ok (replies.full n f) ok is = is
stat-not-ok replies.limit ok is = is
stat-not-ok (replies.stat w r t f) ok is = false≢true ok
stat-not-ok (replies.bad kind) ok is = is

pub writes-more : (xs ys : List Command) → WritesNext xs → WritesNext (xs ++ ys)
writes-more [] ys w = absurd w
writes-more (put key value ∷ xs) ys w = tt
writes-more (delete key ∷ xs) ys w = tt
writes-more (get key ∷ xs) ys w = absurd w
writes-more (stat ∷ xs) ys w = absurd w
writes-more (bad kind ∷ xs) ys w = absurd w

writes-stop : (sight : Sight) (xs : List Command) (b : ℕ) → WritesNext xs → StopsNext sight xs b
writes-stop sight [] b w = absurd w
writes-stop sight (put key value ∷ xs) b w = tt
writes-stop sight (delete key ∷ xs) b w = tt
writes-stop sight (get key ∷ xs) b w = absurd w
writes-stop sight (stat ∷ xs) b w = absurd w
writes-stop sight (bad kind ∷ xs) b w = absurd w

-- the command that was answered `OK` is a write
write-next : (sight : Sight) (command : Command) (reply : Reply) → is_ok reply ≡ true → IsSeenReply sight command reply → (more : List Command) → WritesNext (command ∷ more)
write-next sight (put key value) reply ok is more = tt
write-next sight (delete key) reply ok is more = tt
write-next sight (get key) reply ok is more = absurd (get-not-ok (sight key) reply ok is)
write-next sight stat reply ok is more = absurd (stat-not-ok reply ok is)
write-next sight (bad kind) reply ok is more = absurd (false≢true (ap is_ok (sym is) ∙ ok))

ok-is : (r : Reply) → is_ok r ≡ true → r ≡ replies.ok
ok-is replies.ok ok = refl
ok-is (replies.value v) ok = absurd (false≢true ok)
ok-is replies.none ok = absurd (false≢true ok)
ok-is (replies.full n f) ok = absurd (false≢true ok)
ok-is replies.limit ok = absurd (false≢true ok)
ok-is (replies.stat w r t f) ok = absurd (false≢true ok)
ok-is (replies.bad kind) ok = absurd (false≢true ok)

-- ---- stores that see the same

pub still-none : (v : StoreView) (s : told.State) → v.log.pending ≡ [] → IsStill v v s s
still-none v s idle = record { sees = refl; idle = idle; same = refl }

pub still-more : (v w x : StoreView) (old mid new : told.State) → IsStill v w old mid → IsStill w x mid new → IsStill v x old new
still-more v w x old mid new first then = record { sees = then.sees ∙ first.sees; idle = then.idle; same = then.same ∙ first.same }

pub shown-still : (v w : StoreView) (old mid : told.State) (image : Image) → IsStill v w old mid → old.shown ≡ Some image → mid.shown ≡ Some image
shown-still v w old mid image still shown = ap (λ (s : told.State). s.shown) still.same ∙ shown

-- ---- lines

-- nothing was answered yet
pub sees-none : (v : StoreView) (image : Image) (line kept : List ℕ) (wrote : Bool) (waiting : Waiting) (s : told.State) → IsFalse (has_line_feed line) → kept ≡ kept_of line → v.log.pending ≡ [] → wrote ≡ false → waiting.pending_text ≡ [] → Sees v image line kept wrote waiting waiting v s s
sees-none v image line kept wrote waiting s free held idle not none = record {
  acted = [];
  others = [];
  order = sym (commands-unbroken [] line free);
  replies = [];
  answers = tt;
  line = held ∙ ap kept_of (sym (rest_of-unbroken [] line free));
  settled = sym (append-nil waiting.settled_text);
  none = λ is. (refl, none, still-none v s idle);
  some = λ is. absurd (false≢true (sym not ∙ is));
}

-- the unfinished line goes on
pub sees-on : (v : StoreView) (image : Image) (bytes chunk kept kept' : List ℕ) (wrote : Bool) (waiting0 waiting : Waiting) (w : StoreView) (old new : told.State) → Sees v image bytes kept wrote waiting0 waiting w old new
    → IsFalse (has_line_feed chunk) → kept' ≡ kept_of (kept ++ chunk) → Sees v image (bytes ++ chunk) kept' wrote waiting0 waiting w old new
sees-on v image bytes chunk kept kept' wrote waiting0 waiting w old new s free more = record {
  acted = s.acted;
  others = s.others;
  order = s.order ∙ sym (commands-unbroken bytes chunk free);
  replies = s.replies;
  answers = s.answers;
  line = more ∙ ap (λ k. kept_of (k ++ chunk)) s.line ∙ kept_of-append (rest_of bytes) chunk ∙ ap kept_of (sym (rest_of-unbroken bytes chunk free));
  settled = s.settled;
  none = s.none;
  some = s.some;
}

module _ (v : StoreView) (image : Image) (bytes chunk kept : List ℕ) (waiting0 waiting : Waiting) (w : StoreView) (old mid : told.State) (free : IsFalse (has_line_feed chunk)) (waiting' : Waiting) (x : StoreView) (new : told.State) where
  abbrev Before : Bool → Type 0
  Before wrote = Sees v image bytes kept wrote waiting0 waiting w old mid

  abbrev Behind : Bool → Type 0
  Behind wrote = Sees v image (bytes ++ (chunk ++ line_feed ∷ [])) [] wrote waiting0 waiting' x old new

  abbrev command : Command
  command = command_of (rest_of bytes ++ chunk)

  line-behind : [] ≡ kept_of (rest_of (bytes ++ (chunk ++ line_feed ∷ [])))
  line-behind = sym kept_of-none ∙ ap kept_of (sym (rest_of-ended bytes chunk free))

  -- where no write was taken, all commands so far have replies
  all-acted : (s : Before false) → s.acted ≡ commands bytes
  all-acted s = sym (append-nil s.acted) ∙ ap (λ o. s.acted ++ o) (sym (s.none refl).0) ∙ s.order

  -- a write was taken before
  behind-write : (s : Before true) (said : List ℕ) → waiting' ≡ with_text waiting said → Behind true
  behind-write s said is = record {
    acted = s.acted;
    others = s.others ++ command ∷ [];
    order = sym (append_assoc s.acted s.others (command ∷ [])) ∙ ap (λ cs. cs ++ command ∷ []) s.order ∙ sym (commands-ended bytes chunk free);
    replies = s.replies;
    answers = s.answers;
    line = line-behind;
    settled = ap (λ (t : Waiting). t.settled_text) is ∙ s.settled;
    none = λ not. absurd (false≢true (sym not));
    some = λ yes. (
      subst BeginsWithOk (sym (ap (λ (t : Waiting). t.pending_text) is)) (begins-more waiting.pending_text said (s.some refl).0),
      writes-more s.others (command ∷ []) (s.some refl).1,
    );
  }

  -- the first write is taken
  first-write : (s : Before false) (reply : Reply) → is_ok reply ≡ true → IsSeenReply (seen_of v image) command reply → waiting' ≡ with_text waiting (text reply) → Behind true
  first-write s reply ok seen is =
      let pending : waiting'.pending_text ≡ text replies.ok ++ [] = ap (λ (t : Waiting). t.pending_text) is ∙ ap (λ p. p ++ text reply) (s.none refl).1 ∙ ap text (ok-is reply ok) ∙ sym (append-nil (text replies.ok)) in
      record {
        acted = s.acted;
        others = command ∷ [];
        order = ap (λ cs. cs ++ command ∷ []) (all-acted s) ∙ sym (commands-ended bytes chunk free);
        replies = s.replies;
        answers = s.answers;
        line = line-behind;
        settled = ap (λ (t : Waiting). t.settled_text) is ∙ s.settled;
        none = λ not. absurd (false≢true (sym not));
        some = λ yes. (record { more = []; is = pending }, write-next (seen_of v image) command reply ok seen []);
      }

  -- no write was taken
  no-write : (s : Before false) (reply : Reply) → IsSeenReply (seen_of v image) command reply → IsStill v x old new → waiting' ≡ all_settled (with_text waiting (text reply)) → Behind false
  no-write s reply seen still is = record {
    acted = s.acted ++ command ∷ [];
    others = [];
    order = append-nil (s.acted ++ command ∷ []) ∙ ap (λ cs. cs ++ command ∷ []) (all-acted s) ∙ sym (commands-ended bytes chunk free);
    replies = s.replies ++ reply ∷ [];
    answers = are-append (seen_of v image) s.acted (command ∷ []) s.replies (reply ∷ []) s.answers (seen, tt);
    line = line-behind;
    settled = ap (λ (t : Waiting). t.settled_text) is ∙ ap (λ p. waiting.settled_text ++ (p ++ text reply)) (s.none refl).1 ∙ ap (λ t. t ++ text reply) s.settled
        ∙ append_assoc waiting0.settled_text (texts s.replies) (text reply) ∙ ap (λ t. waiting0.settled_text ++ t) (sym (texts-more s.replies reply));
    none = λ not. (refl, ap (λ (t : Waiting). t.pending_text) is, still);
    some = λ yes. absurd (false≢true yes);
  }

  -- a line ended, and was answered
  pub sees-line : old.shown ≡ Some image → (wrote0 taken wrote : Bool) (unsettled : Waiting) → Before wrote0 → Tells w command taken waiting unsettled x mid new → wrote ≡ (wrote0 || taken) → waiting' ≡ settled_unless wrote unsettled → Behind wrote
  sees-line shown true taken wrote unsettled s t is settled = subst Behind (sym is) (behind-write s (text t.reply) (settled ∙ ap (λ b. settled_unless b unsettled) is ∙ t.told))
  sees-line shown false true wrote unsettled s t is settled =
      let still = (s.none refl).2 in
      let seen = subst (λ (f : Image → List ℕ → Result (Option Item) LookFault). IsSeenReply (f image) command t.reply) still.sees (t.seen image (shown-still v w old mid image still shown)) in
      subst Behind (sym is) (first-write s t.reply (sym t.taken_is) seen (settled ∙ ap (λ b. settled_unless b unsettled) is ∙ t.told))
  sees-line shown false false wrote unsettled s t is settled =
      let still = (s.none refl).2 in
      let seen = subst (λ (f : Image → List ℕ → Result (Option Item) LookFault). IsSeenReply (f image) command t.reply) still.sees (t.seen image (shown-still v w old mid image still shown)) in
      subst Behind (sym is) (no-write s t.reply seen (still-more v w x old mid new still (t.still refl still.idle)) (settled ∙ ap (λ b. settled_unless b unsettled) is ∙ ap all_settled t.told))

-- ---- faults

commands-behind : (bytes chunk more : List ℕ) → IsFalse (has_line_feed chunk) → commands (bytes ++ ((chunk ++ line_feed ∷ []) ++ more)) ≡ commands bytes ++ command_of (rest_of bytes ++ chunk) ∷ map command_of (lines_of (rest_of (bytes ++ (chunk ++ line_feed ∷ [])) ++ more))
commands-behind bytes chunk more free = ap (map command_of) (lines-ended bytes chunk more free) ∙ map-append command_of (lines_of bytes) ((rest_of bytes ++ chunk) ∷ lines_of (rest_of (bytes ++ (chunk ++ line_feed ∷ [])) ++ more))

-- where the next command stops, so does what is left
next-stops : (v : StoreView) (image : Image) (bytes kept : List ℕ) (wrote : Bool) (waiting0 waiting : Waiting) (w : StoreView) (old mid : told.State) (s : Sees v image bytes kept wrote waiting0 waiting w old mid) → old.shown ≡ Some image
    → (command : Command) (later : List Command) (b : ℕ) → StopsAt w command mid b → StopsNext (seen_of v image) (s.others ++ command ∷ later) b
next-stops v image bytes kept true waiting0 waiting w old mid s shown command later b stop = writes-stop (seen_of v image) (s.others ++ command ∷ later) b (writes-more s.others (command ∷ later) (s.some refl).1)
next-stops v image bytes kept false waiting0 waiting w old mid s shown command later b stop =
    let still = (s.none refl).2 in
    let here = subst (λ (f : Image → List ℕ → Result (Option Item) LookFault). StopsNext (f image) (command ∷ []) b) still.sees (stop image (shown-still v w old mid image still shown)) in
    subst (λ (o : List Command). StopsNext (seen_of v image) (o ++ command ∷ later) b) (sym (s.none refl).0) (stops-more (seen_of v image) (command ∷ []) later b here)

-- the line that ended failed
pub fails-line : (v : StoreView) (image : Image) (bytes chunk more kept : List ℕ) (wrote : Bool) (waiting0 waiting : Waiting) (w : StoreView) (old mid : told.State) → Sees v image bytes kept wrote waiting0 waiting w old mid → old.shown ≡ Some image
    → (fault : RoundFault) (settled : List ℕ) → IsFalse (has_line_feed chunk) → ((b : ℕ) → fault ≡ faults.Damaged b → StopsAt w (command_of (rest_of bytes ++ chunk)) mid b) → settled ≡ waiting.settled_text
    → FailsSeen (seen_of v image) (bytes ++ ((chunk ++ line_feed ∷ []) ++ more)) fault waiting0.settled_text settled
fails-line v image bytes chunk more kept wrote waiting0 waiting w old mid s shown fault settled free stop is =
    let command : Command = command_of (rest_of bytes ++ chunk) in
    let later : List Command = map command_of (lines_of (rest_of (bytes ++ (chunk ++ line_feed ∷ [])) ++ more)) in
    record {
      acted = s.acted;
      others = s.others ++ command ∷ later;
      order = sym (append_assoc s.acted s.others (command ∷ later)) ∙ ap (λ cs. cs ++ command ∷ later) s.order ∙ sym (commands-behind bytes chunk more free);
      replies = s.replies;
      answers = s.answers;
      text = is ∙ s.settled;
      stops = λ b same. next-stops v image bytes kept wrote waiting0 waiting w old mid s shown command later b (stop b same);
    }

-- the commit failed
pub fails-commit : (v : StoreView) (image : Image) (bytes more kept : List ℕ) (wrote : Bool) (waiting0 waiting : Waiting) (w : StoreView) (old mid : told.State) → Sees v image bytes kept wrote waiting0 waiting w old mid → (settled : List ℕ) → settled ≡ waiting.settled_text
    → FailsSeen (seen_of v image) (bytes ++ more) faults.Device waiting0.settled_text settled
fails-commit v image bytes more kept wrote waiting0 waiting w old mid s settled is = record {
  acted = s.acted;
  others = s.others ++ commands (rest_of bytes ++ more);
  order = sym (append_assoc s.acted s.others (commands (rest_of bytes ++ more))) ∙ ap (λ cs. cs ++ commands (rest_of bytes ++ more)) s.order ∙ sym (commands-append bytes more);
  replies = s.replies;
  answers = s.answers;
  text = is ∙ s.settled;
  stops = λ b same. absurd (cc (same));
}

-- ---- rounds

round-ends : (v : StoreView) (image : Image) (bytes kept : List ℕ) (wrote : Bool) (waiting0 waiting : Waiting) (w : StoreView) (old mid : told.State) (s : Sees v image bytes kept wrote waiting0 waiting w old mid) (x : StoreView) (new : told.State) → x ≡ committed w → (w.log.pending ≡ [] → new ≡ mid)
    → (BeginsWithOk waiting.pending_text × WritesNext s.others) ⊎ ((s.others ≡ []) × (waiting.pending_text ≡ []) × StaysBehind bytes kept v x old new)
round-ends v image bytes kept true waiting0 waiting w old mid s x new is same = inl (s.some refl)
round-ends v image bytes kept false waiting0 waiting w old mid s x new is same =
    let none = s.none refl in
    inr (
      none.0,
      none.1,
      record {
        line = s.line;
        still = record { sees = ap seen_of is ∙ none.2.sees; idle = ap (λ (y : StoreView). y.log.pending) is; same = same none.2.idle ∙ none.2.same };
      },
    )

-- all writes are durable, and the replies are settled
pub round-sees : (v : StoreView) (image : Image) (bytes kept : List ℕ) (wrote : Bool) (waiting0 waiting : Waiting) (w : StoreView) (old mid : told.State) → Sees v image bytes kept wrote waiting0 waiting w old mid
    → (x : StoreView) (new : told.State) → x ≡ committed w → (w.log.pending ≡ [] → new ≡ mid) → (first settled : Waiting) → waiting0 ≡ all_settled first → settled ≡ all_settled waiting
    → (output : List ℕ) × (settled.settled_text ≡ all_text first ++ output) × SeesLines (seen_of v image) bytes output (StaysBehind bytes kept v x old new)
round-sees v image bytes kept wrote waiting0 waiting w old mid s x new is same first settled begun all = (
  texts s.replies ++ waiting.pending_text,
  ap (λ (t : Waiting). t.settled_text) all ∙ ap (λ t. t ++ waiting.pending_text) s.settled ∙ append_assoc waiting0.settled_text (texts s.replies) waiting.pending_text
      ∙ ap (λ (t : Waiting). t.settled_text ++ (texts s.replies ++ waiting.pending_text)) begun,
  record {
    acted = s.acted;
    others = s.others;
    order = s.order;
    replies = s.replies;
    answers = s.answers;
    further = waiting.pending_text;
    text = refl;
    ends = round-ends v image bytes kept wrote waiting0 waiting w old mid s x new is same;
  },
)

-- what is kept of the line that ends here
pub sees-kept : (v : StoreView) (image : Image) (bytes chunk kept kept' : List ℕ) (wrote : Bool) (waiting0 waiting : Waiting) (w : StoreView) (old new : told.State) → Sees v image bytes kept wrote waiting0 waiting w old new → kept' ≡ kept_of (kept ++ chunk) → kept' ≡ kept_of (rest_of bytes ++ chunk)
sees-kept v image bytes chunk kept kept' wrote waiting0 waiting w old new s more = more ∙ ap (λ k. kept_of (k ++ chunk)) s.line ∙ kept_of-append (rest_of bytes) chunk
