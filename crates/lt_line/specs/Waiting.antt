-- The text of replies that waits to be written: what is settled, what is not yet, and the room behind it.
use Rattle.std.specs.Prelude.{ℕ, ◌+◌, ◌-◌, ◌≤◌, List, [], ◌++◌, length, drop, slice_range, vec_capacity}
use Rattle.lt_line.specs.declared.replies.Replies.TheInside.{Inside}

-- how many bytes of text fit
abbrev pub reply_room : ℕ
reply_room = 65536

-- the text that may be written, the text behind it that may not yet, and how many bytes more fit
pub record Waiting : Type 0 where
  pub settled_text : List ℕ
  pub pending_text : List ℕ
  pub room : ℕ

-- no text waits
abbrev pub nothing_waits : Waiting
nothing_waits = record { settled_text = []; pending_text = []; room = reply_room }

-- with more text that is not settled
abbrev pub with_text : Waiting → List ℕ → Waiting
with_text w text = record {
  settled_text = w.settled_text;
  pending_text = w.pending_text ++ text;
  room = w.room - length text;
}

-- all of it is settled
abbrev pub all_settled : Waiting → Waiting
all_settled w = record { settled_text = w.settled_text ++ w.pending_text; pending_text = []; room = w.room }

-- without the first n settled bytes
abbrev pub without_front : ℕ → Waiting → Waiting
without_front n w = record { settled_text = drop n w.settled_text; pending_text = w.pending_text; room = w.room + n }

-- what is settled alone
abbrev pub settled_alone : Waiting → Waiting
settled_alone w = record { settled_text = w.settled_text; pending_text = []; room = w.room + length w.pending_text }

-- in these bytes the text begins at one place, and what is not settled at another
abbrev pub waiting_at : List ℕ → ℕ → ℕ → Waiting
waiting_at bytes start settled = record {
  settled_text = slice_range bytes start settled;
  pending_text = drop settled bytes;
  room = reply_room - (length bytes - start);
}

-- what waits in the buffer
abbrev pub waiting_in : Inside → Waiting
waiting_in r = waiting_at r.bytes.items r.start r.settled

-- the places rise, and the bytes have room for all text
pub record HasRoom (r : Inside) : Type 0 where
  pub start : r.start ≤ r.settled
  pub settled : r.settled ≤ length r.bytes.items
  pub bytes : length r.bytes.items ≤ reply_room
  pub reserved : reply_room ≤ vec_capacity r.bytes
