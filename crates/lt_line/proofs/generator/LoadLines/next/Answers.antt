use Rattle.std.proofs.Common.{◌∙◌, ◌-◌, sym}
use Rattle.lt_language.specs.Generator.{get_lines, write_line}
use Rattle.lt_line.proofs.GeneratorLaws.{next_write}
use Rattle.lt_line.proofs.generator.LoadLines.next.Goals as goal

pub returns-then-self-gt0-clause-some : goal.returns-then-self-gt0-clause-some
returns-then-self-gt0-clause-some c = record {
  line = write_line c.self.inside.keys c.draw-a.result c.draw-b.result c.draw-c.result;
  bytes_are = c.write_line.ensures;
  first = sym c.self.view_is ∙ next_write _ _ _ _ _ _
      (get_lines c.self.inside.next_get (c.self.inside.keys - c.self.inside.next_get)) c.if-self-gt0.true
      c.draw-a.ensures c.draw-b.ensures c.draw-c.ensures;
}
