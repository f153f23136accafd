-- Sources and sinks in memory.
use Rattle.std.specs.Prelude.{◌≡◌, ℕ, ◌-◌, List, [], ◌∷◌, ◌++◌, length, drop, min, Bool, ◌||◌, nat_le, nat_lt, filter}
use Rattle.std.specs.Prelude.{Some}
use Rattle.std.specs.List.{flat_map}
use Rattle.lt_terms.specs.Bytes.{is_in}
use Rattle.lt_terms.specs.Causes.{next_count}
use Rattle.lt_io.specs.Streams.{pieces_after}
use Rattle.lt_io.specs.declared.source.Source.{Ghosts as SourceGhosts}

-- the pieces that have bytes
abbrev pub nonempty : List (List ℕ) → List (List ℕ)
nonempty pieces = filter (λ piece. nat_lt 0 (length piece)) pieces

-- the bytes of all pieces
abbrev pub bytes_of : List (List ℕ) → List ℕ
bytes_of pieces = flat_map (λ piece. piece) pieces

-- a read hands out n bytes: the first piece, or 4,096 bytes of a longer one, or nothing where no piece is left
abbrev pub HandsOut : ℕ → List (List ℕ) → List (List ℕ) → Type 0
HandsOut n [] after = (n ≡ 0) × (after ≡ [])
HandsOut n (piece ∷ pieces) after = (n ≡ min (length piece) 4096) × (after ≡ nonempty (drop n piece ∷ []) ++ pieces)

-- a source in memory: the pieces left, none of them empty; the numbers of the reads that fail, the
-- number of the next read, the pieces taken and the faults
pub record MemoryInput : Type 0 where
  pub left_pieces : List (List ℕ)
  pub failing_calls : List ℕ
  pub next_call : ℕ
  pub taken_pieces : ℕ
  pub fault_count : ℕ

-- what a source in memory says of itself
abbrev pub memory_source : SourceGhosts MemoryInput
memory_source = record {
  left = λ s. Some (bytes_of s.left_pieces);
  pieces = λ s. s.taken_pieces;
  faults = λ s. s.fault_count;
}

-- a source with these pieces, whose reads with these numbers fail
abbrev pub fresh_source : List (List ℕ) → List ℕ → MemoryInput
fresh_source pieces failing = record {
  left_pieces = nonempty pieces;
  failing_calls = failing;
  next_call = 0;
  taken_pieces = 0;
  fault_count = 0;
}

-- the source after a read that handed out so many bytes and left these pieces
abbrev pub after_read : MemoryInput → ℕ → List (List ℕ) → MemoryInput
after_read s n left = record s {
  left_pieces = left;
  next_call = next_count s.next_call;
  taken_pieces = pieces_after n s.taken_pieces;
}

-- the source after a read that failed
abbrev pub after_failed_read : MemoryInput → MemoryInput
after_failed_read s = record s { next_call = next_count s.next_call; fault_count = next_count s.fault_count }

-- a source in memory that never fails
pub record SteadyInput : Type 0 where
  pub left_pieces : List (List ℕ)
  pub taken_pieces : ℕ

-- what a source in memory that never fails says of itself
abbrev pub steady_source : SourceGhosts SteadyInput
steady_source = record {
  left = λ s. Some (bytes_of s.left_pieces);
  pieces = λ s. s.taken_pieces;
  faults = λ _. 0;
}

-- a steady source with these pieces
abbrev pub fresh_steady : List (List ℕ) → SteadyInput
fresh_steady pieces = record { left_pieces = nonempty pieces; taken_pieces = 0 }

-- a sink in memory: what it took, how much it takes in all and in one write, the numbers of the
-- writes that fail, the number of the next write and the faults
pub record MemoryOutput : Type 0 where
  pub taken_bytes : List ℕ
  pub room_limit : ℕ
  pub step_limit : ℕ
  pub failing_calls : List ℕ
  pub next_call : ℕ
  pub fault_count : ℕ

-- a sink with this room that takes so many bytes in one write, whose writes with these numbers fail
abbrev pub fresh_sink : ℕ → ℕ → List ℕ → MemoryOutput
fresh_sink room step failing = record {
  taken_bytes = [];
  room_limit = room;
  step_limit = step;
  failing_calls = failing;
  next_call = 0;
  fault_count = 0;
}

-- the sink after a write that took these bytes
abbrev pub after_write : MemoryOutput → List ℕ → MemoryOutput
after_write sink bytes =
    record sink { taken_bytes = sink.taken_bytes ++ bytes; next_call = next_count sink.next_call }

-- the sink after a write that failed
abbrev pub after_failed_write : MemoryOutput → MemoryOutput
after_failed_write sink =
    record sink { next_call = next_count sink.next_call; fault_count = next_count sink.fault_count }

-- a write that is listed fails, and so does one with no room left
abbrev pub refuses : MemoryOutput → Bool
refuses sink = is_in sink.next_call sink.failing_calls || nat_le sink.room_limit (length sink.taken_bytes)

-- how many of so many bytes the next write to a sink takes
abbrev pub taken_of : MemoryOutput → ℕ → ℕ
taken_of sink n = min n (min sink.step_limit (sink.room_limit - length sink.taken_bytes))
