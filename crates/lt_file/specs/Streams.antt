-- What a source over a reader and a sink over a writer show.
use Rattle.std.specs.Prelude.{ℕ, List, Option}

-- the bytes that the reader has left, where it tells them, how many nonempty pieces were taken, and how many reads
-- failed
pub record Input : Type 0 where
  pub left_bytes : Option (List ℕ)
  pub pieces : ℕ
  pub faults : ℕ

-- the bytes that the writer holds, where it tells them, and how many writes failed
pub record Output : Type 0 where
  pub held : Option (List ℕ)
  pub faults : ℕ
