-- What a round makes of the lines of a piece.
use Rattle.std.specs.Bool.{IsFalse}
use Rattle.lt_device.specs.declared.device.Device.{Ghosts}
use Rattle.lt_serve.specs.declared.session.Session.{Session}
use Rattle.lt_serve.specs.View.{kept_in, store_in}
use Rattle.std.specs.Prelude.{◌≡◌, ◌≢◌, ℕ, ◌+◌, ◌-◌, ◌<◌, ◌≤◌, Bool, true, false, List, [], ◌∷◌, ◌++◌, map, take, None}
use Rattle.std.specs.Prelude.{length}
use Rattle.lt_terms.specs.Items.{Item}
use Rattle.lt_device.specs.Moments.{Leaves}
use Rattle.lt_image.specs.Standing.{IsPrefix, after_writes}
use Rattle.lt_language.specs.Commands.{Command, command_of, commands, lines_of, rest_of, has_line_feed}
use Rattle.lt_language.specs.Machine.{State}
use Rattle.lt_language.specs.Replies.{Reply, texts}
use Rattle.lt_line.specs.Held.{HeldLine, kept_of}
use Rattle.lt_line.specs.Waiting.{Waiting}
use Rattle.lt_store.specs.Going.{Goes}
use Rattle.lt_store.specs.Open.{StoreView, IsOpen, extents_of, state_of}
use Rattle.lt_store.specs.Promise.{AtRest}
use Rattle.lt_serve.specs.declared.faults.RoundFault.{RoundFault}
use Rattle.lt_serve.specs.declared.faults.RoundFault.TheVariants as faults
use Rattle.lt_serve.specs.Faults.{IsLost}
use Rattle.lt_serve.specs.Outcomes.{most_text}
use Rattle.lt_serve.specs.Runs.{ok_count}
use Rattle.lt_serve.specs.Promise.{Moment, Runs, StartWithOk, TellsCounts, moment_of}

-- all text that waits, settled or not
abbrev pub all_text : Waiting → List ℕ
all_text waiting = waiting.settled_text ++ waiting.pending_text

-- The lines of the bytes were acted from `v` on. The replies before the first write that was taken are settled, and
-- the others wait; `wrote` where there are such.
pub record LinesActed (v : StoreView) (durable : State) (bytes kept : List ℕ) (wrote : Bool)
    (waiting0 waiting : Waiting) (w : StoreView) (old new : Moment) : Type 0 where
  pub shown : List Reply
  pub hidden : List Reply
  pub writes : List Item
  pub runs : Runs (extents_of v) (state_of v durable) (commands bytes) (shown ++ hidden) writes
  pub line : kept ≡ kept_of (rest_of bytes)
  pub settled : waiting.settled_text ≡ waiting0.settled_text ++ texts shown
  pub pending : waiting.pending_text ≡ texts hidden
  pub room : waiting.room + (length (texts shown) + length (texts hidden)) ≡ waiting0.room
  pub unwritten : ok_count shown ≡ 0
  pub first : StartWithOk hidden
  pub none : wrote ≡ false → hidden ≡ []
  pub some : wrote ≡ true → hidden ≢ []
  pub goes : Goes v writes w durable old.state new.state
  -- where nothing was pending and no write was taken, the device is as before
  pub quiet : v.log.pending ≡ [] → writes ≡ [] → new.state ≡ old.state
  -- what the `STAT` replies tell, where nothing was pending
  pub counts : v.log.pending ≡ [] → TellsCounts durable (shown ++ hidden) writes old new

-- A round that took the bytes: all their lines were answered, the replies are settled, and all writes are durable.
pub record RoundServed (e : ℕ) (durable : State) (bytes kept : List ℕ) (waiting0 waiting : Waiting) (w : StoreView)
    (old new : Moment) : Type 0 where
  pub replies : List Reply
  pub writes : List Item
  pub runs : Runs e durable (commands bytes) replies writes
  pub line : kept ≡ kept_of (rest_of bytes)
  pub fits : length (texts replies) ≤ waiting0.room
  pub told : waiting ≡ record {
    settled_text = all_text waiting0 ++ texts replies;
    pending_text = [];
    room =
        waiting0.room - length (texts replies);
  }
  pub opened : IsOpen w (after_writes durable writes) new.state
  pub since : Leaves (λ left. IsPrefix left durable writes 0) old.state new.state
  -- where no write was taken, the device is as before
  pub quiet : writes ≡ [] → new.state ≡ old.state
  -- what the `STAT` replies tell
  pub counts : TellsCounts durable replies writes old new

-- The event of a line failed: the line that is held is one of the bytes' lines, and those before it were acted.
pub record FailedAtLine (bytes kept : List ℕ) (acted : List Command) : Type 0 where
  pub before : List (List ℕ)
  pub line : List ℕ
  pub after : List (List ℕ)
  pub lines : lines_of bytes ≡ before ++ line ∷ after
  pub acted_are : acted ≡ map command_of before
  pub held : kept ≡ kept_of line

-- The commit failed: all lines of the bytes that were taken were acted, and these are all bytes, unless there was no
-- room left for another reply.
pub record FailedAtCommit (bytes kept : List ℕ) (acted : List Command) (left : ℕ) : Type 0 where
  pub taken : List ℕ
  pub rest : List ℕ
  pub split : bytes ≡ taken ++ rest
  pub acted_are : acted ≡ commands taken
  pub held : kept ≡ kept_of (rest_of taken)
  pub short : rest ≢ [] → left < most_text

-- A round that failed within the bytes: the lines before the one that is held were acted, the replies before their
-- first write that was taken are settled, and no other.
pub record RoundFailed (e : ℕ) (durable : State) (bytes : List ℕ) (held : HeldLine) (fault : RoundFault)
    (waiting0 : Waiting) (settled : List ℕ) (old new : Moment) : Type 0 where
  pub acted : List Command
  pub shown : List Reply
  pub hidden : List Reply
  pub writes : List Item
  pub runs : Runs e durable acted (shown ++ hidden) writes
  pub fits : length (texts (shown ++ hidden)) ≤ waiting0.room
  -- it failed at the line that is held where that has ended, and else at the commit
  pub at_line : held.is_ended ≡ true → FailedAtLine bytes held.kept acted
  pub at_commit : held.is_ended ≡ false
      → FailedAtCommit bytes held.kept acted (waiting0.room - length (texts (shown ++ hidden)))
  pub text : settled ≡ waiting0.settled_text ++ texts shown
  pub unwritten : ok_count shown ≡ 0
  pub first : StartWithOk hidden
  -- each image since holds first writes of these, behind all that was durable
  pub since : Leaves (λ left. IsPrefix left durable writes 0) old.state new.state
  -- no block is damaged; and where memory was short the device is at rest
  pub lost : IsLost fault
  pub rests : fault ≡ faults.NoMemory → (sure : ℕ) × AtRest (after_writes durable (take sure writes)) new.state
  -- what the `STAT` replies tell
  pub counts : TellsCounts durable (shown ++ hidden) writes old new

-- So many bytes of a piece were taken: one at least, unless it is empty, and all, unless less room is left than a reply
-- may need.
pub record TakesFront (n : ℕ) (piece : List ℕ) (room : ℕ) : Type 0 where
  pub within : n ≤ length piece
  pub some : 0 < length piece → 0 < n
  pub enough : n < length piece → room < most_text

-- a round is under way: the session is not to be used, its store is up with no job in flight, and it holds no line that
-- has ended
pub record IsActing (s : Session) : Type 0 where
  pub down : s.is_up ≡ false
  pub up : s.store.is_up ≡ true
  pub still : (store_in s).work.job ≡ None
  pub open_line : s.lines.is_ended ≡ false

-- a round begins: no write was taken yet, all writes are durable, and all text that waits is settled
pub record BeginsRound (s : Session) (waiting : Waiting) : Type 0 where
  pub acting : IsActing s
  pub durable : (store_in s).log.pending ≡ []
  pub none : s.wrote ≡ false
  pub settled : waiting.pending_text ≡ []

-- behind the line that the session has begun, on a device that its store is open on, these bytes are a round's
abbrev pub ServesLines : {D : Type 0} → Ghosts D → Session → Session → List ℕ → Waiting → Waiting → D → D → Type 0
ServesLines d s t bytes waiting0 waiting old new = (durable : State) (line : List ℕ)
    → IsOpen (store_in s) durable (d.state old) → IsFalse (has_line_feed line) → kept_in s ≡ kept_of line
    → RoundServed (extents_of (store_in s)) durable (line ++ bytes) (kept_in t) waiting0 waiting (store_in t)
    (moment_of d old) (moment_of d new)

-- behind the line that the session has begun, on a device that its store is open on, a round failed in these bytes
abbrev pub StopsInLines : {D : Type 0} → Ghosts D → Session → Session → List ℕ → RoundFault → Waiting → Waiting → D
    → D → Type 0
StopsInLines d s t bytes fault waiting0 waiting old new = (durable : State) (line : List ℕ)
    → IsOpen (store_in s) durable (d.state old) → IsFalse (has_line_feed line) → kept_in s ≡ kept_of line
    → RoundFailed (extents_of (store_in s)) durable (line ++ bytes) t.lines fault waiting0 waiting.settled_text
    (moment_of d old) (moment_of d new)

-- behind the line that the session has begun, on a device that its store is open on, these bytes were acted
abbrev pub ActsLines : {D : Type 0} → Ghosts D → Session → Session → List ℕ → Waiting → Waiting → D → D → Type 0
ActsLines d s t bytes waiting0 waiting old new = (durable : State) (line : List ℕ)
    → IsOpen (store_in s) durable (d.state old) → IsFalse (has_line_feed line) → kept_in s ≡ kept_of line
    → LinesActed (store_in s) durable (line ++ bytes) (kept_in t) t.wrote waiting0 waiting (store_in t)
    (moment_of d old) (moment_of d new)

-- from wherever a round has got to, it goes on by these bytes
abbrev pub ActsFurther : {D : Type 0} → Ghosts D → Session → Session → List ℕ → Waiting → Waiting → D → D → Type 0
ActsFurther d s t bytes now waiting old new = (v : StoreView) (durable : State) (before : List ℕ) (waiting0 : Waiting)
    (start : Moment) → IsOpen v durable start.state → extents_of (store_in s) ≡ extents_of v
    → LinesActed v durable before (kept_in s) s.wrote waiting0 now (store_in s) start (moment_of d old)
    → LinesActed v durable (before ++ bytes) (kept_in t) t.wrote waiting0 waiting (store_in t) start (moment_of d new)

-- from wherever a round has got to, it fails in these bytes
abbrev pub StopsFurther : {D : Type 0} → Ghosts D → Session → Session → List ℕ → RoundFault → Waiting → Waiting → D
    → D → Type 0
StopsFurther d s t bytes fault now waiting old new = (v : StoreView) (durable : State) (before : List ℕ)
    (waiting0 : Waiting) (start : Moment) → IsOpen v durable start.state → extents_of (store_in s) ≡ extents_of v
    → v.log.pending ≡ []
    → LinesActed v durable before (kept_in s) s.wrote waiting0 now (store_in s) start (moment_of d old)
    → RoundFailed (extents_of v) durable (before ++ bytes) t.lines fault waiting0 waiting.settled_text start
    (moment_of d new)
