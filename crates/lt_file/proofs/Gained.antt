-- What a sink over a writer gains where its writer tells what it holds.
use Rattle.std.proofs.Common.{◌≡◌, ℕ, List, [], Option, Some, None}
use Rattle.std.proofs.lemmas.List.{append-nil}
use Rattle.std.specs.Io.KnownBytes.{Appends, Keeps}
use Rattle.lt_io.specs.Streams.{Gains}

pub gains_appended : (old new : Option (List ℕ)) (bytes : List ℕ) → Appends old new bytes → Gains (λ taken. old ≡ Some taken) (λ taken. new ≡ Some taken) bytes
gains_appended None new bytes appends = record { each = λ taken is. absurd (cc) }
gains_appended (Some xs) None bytes appends = absurd appends
gains_appended (Some xs) (Some ys) bytes appends = record { each = λ taken is. cc }

pub gains_kept : (old new : Option (List ℕ)) → Keeps old new → Gains (λ taken. old ≡ Some taken) (λ taken. new ≡ Some taken) []
gains_kept None new keeps = record { each = λ taken is. absurd (cc) }
gains_kept (Some xs) None keeps = absurd keeps
gains_kept (Some xs) (Some ys) keeps = record { each = λ taken is. rw append-nil (cc) }
