-- The lines that are still to be drawn.
use Rattle.std.specs.Prelude.{ℕ, ◌-◌, ◌<◌, ◌≤◌, List, ◌++◌}
use Rattle.lt_language.specs.Generator.{get_lines, write_lines}
use Rattle.lt_line.specs.declared.generator.LoadLines.TheInside.{Inside}

-- the writes that are left, and then the gets
abbrev pub lines_left : Inside → List (List ℕ)
lines_left l = write_lines l.keys l.drawn l.writes ++ get_lines l.next_get (l.keys - l.next_get)

-- there is a key, and no get is of a greater one than the last
pub record HasKeys (l : Inside) : Type 0 where
  pub some : 0 < l.keys
  pub within : l.next_get ≤ l.keys
