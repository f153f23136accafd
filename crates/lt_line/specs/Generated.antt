-- The bytes of a stream of lines, as they are handed out.
use Rattle.std.specs.Prelude.{ℕ, List, ◌++◌, Some}
use Rattle.lt_language.specs.Commands.{joined}
use Rattle.lt_io.specs.declared.source.Source.{Ghosts as SourceGhosts}

-- what is left of the line that is being handed out, the lines behind it, and how many pieces were taken
pub record Generated : Type 0 where
  pub line_rest : List ℕ
  pub later_lines : List (List ℕ)
  pub taken_pieces : ℕ

-- the bytes that were not handed out yet
abbrev pub left_bytes : Generated → List ℕ
left_bytes g = g.line_rest ++ joined g.later_lines

-- what a generated source says of itself
abbrev pub generated_source : SourceGhosts Generated
generated_source = record { left = λ g. Some (left_bytes g); pieces = λ g. g.taken_pieces; faults = λ _. 0 }
