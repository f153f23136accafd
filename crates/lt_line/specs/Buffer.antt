-- The buffer of a line.
use Rattle.std.specs.Prelude.{◌≤◌, vec_len, vec_capacity}
use Rattle.lt_line.specs.Held.{HeldLine}
use Rattle.lt_line.specs.declared.lines.Lines.TheInside.{Inside}

-- what the buffer holds of a line
abbrev pub held_in : Inside → HeldLine
held_in lines = record { kept = lines.bytes.items; is_ended = lines.is_ended }

-- the buffer of a line holds at most what is kept of one, and has room for it
pub record IsBounded (lines : Inside) : Type 0 where
  pub within : vec_len lines.bytes ≤ 3261
  pub room : 3261 ≤ vec_capacity lines.bytes
