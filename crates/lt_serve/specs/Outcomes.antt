-- The text of an outcome.
use Rattle.std.specs.Prelude.{◌≡◌, ℕ, ◌≤◌, Bool, true, false, List, [], Option, Some, None, length}
use Rattle.lt_language.specs.Replies.{Reply, text}
use Rattle.lt_line.specs.Waiting.{Waiting, with_text}
use Rattle.lt_store.specs.declared.acting.Outcome.{Outcome}
use Rattle.lt_store.specs.declared.acting.Outcome.TheVariants as outcomes
use Rattle.lt_store.specs.declared.writing.Taken.TheVariants.{Ok}
use Rattle.lt_store.specs.Acting.{reply_of}

-- how many bytes the text of a reply has at most
abbrev pub most_text : ℕ
most_text = 3007

-- the value is that of the outcome
abbrev pub HasValue : Outcome → List ℕ → Type 0
HasValue (outcomes.Value n) value = (length value ≡ n) × (n ≤ 3000)
HasValue outcome value = Unit {0}

-- the text of a reply, where there is one
abbrev pub reply_text : Option Reply → List ℕ
reply_text None = []
reply_text (Some reply) = text reply

-- the text of the reply that an outcome is; nothing of a commit
abbrev pub outcome_text : Outcome → List ℕ → List ℕ
outcome_text outcome value = reply_text (reply_of outcome value)

-- a put or a delete was taken
abbrev pub is_taken : Outcome → Bool
is_taken (outcomes.Taken Ok) = true
is_taken outcome = false

-- the text was added behind what waits, and it is no longer than the text of a reply may be
pub record Adds (waiting0 waiting : Waiting) (added : List ℕ) : Type 0 where
  pub text : waiting ≡ with_text waiting0 added
  pub short : length added ≤ most_text
