-- Giving settled text to a sink.
use Rattle.std.specs.Prelude.{◌≡◌, ℕ, ◌≤◌, List, take, length}
use Rattle.lt_io.specs.Streams.{Gains}
use Rattle.lt_line.specs.Waiting.{Waiting, without_front}

-- the sink took so many bytes of the settled text, and these were dropped
pub record Sends (count : ℕ) (stands0 stands : List ℕ → Type 0) (waiting0 waiting : Waiting) : Type 0 where
  pub within : count ≤ length waiting0.settled_text
  pub gained : Gains stands0 stands (take count waiting0.settled_text)
  pub dropped : waiting ≡ without_front count waiting0
