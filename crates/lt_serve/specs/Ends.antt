-- What waits after the end of input.
use Rattle.std.specs.Prelude.{ℕ, List, [], ◌∷◌}
use Rattle.lt_language.specs.declared.Bad.TheVariants.{End}
use Rattle.lt_language.specs.Replies.{bad, text}
use Rattle.lt_line.specs.Waiting.{Waiting, with_text}

-- bytes after the last line feed are refused
abbrev pub with_end : List ℕ → Waiting → Waiting
with_end [] waiting = waiting
with_end (b ∷ rest) waiting = with_text waiting (text (bad End))
