-- Bytes that are put behind others in a vector.
use Rattle.std.specs.Prelude.{◌≡◌, ℕ, ◌+◌, ◌≤◌, ◌++◌, List, length, vec_capacity}
use Rattle.std.specs.Global.{Vec}

-- the vector has room for these bytes behind its own
abbrev pub HasRoomFor : Vec ℕ → List ℕ → Type 0
HasRoomFor bytes more = length bytes.items + length more ≤ vec_capacity bytes

-- these bytes were put behind those of the vector, whose capacity did not fall
pub record Adds (old : Vec ℕ) (more : List ℕ) (new : Vec ℕ) : Type 0 where
  pub bytes : new.items ≡ old.items ++ more
  pub capacity : vec_capacity old ≤ vec_capacity new
