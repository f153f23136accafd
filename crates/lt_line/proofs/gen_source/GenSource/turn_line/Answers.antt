use Rattle.std.proofs.Common.{◌≤◌, ◌∙◌, ap, sym, length, arith}
use Rattle.lt_line.specs.Generated.{left_bytes}
use Rattle.lt_line.proofs.GeneratorLaws.{none_left}
use Rattle.lt_line.proofs.gen_source.GenSource.turn_line.Goals as goal

pub returns-in-None-clause-same : goal.returns-in-None-clause-same
returns-in-None-clause-same c =
    let past : length c.self.inside.line.items ≤ c.self.inside.at = omega (arith, c.if-self-len.false, c.len.ensures.value) in
    none_left c.self.inside.line.items c.self.inside.at c.next.new.self past c.in-None.ensures.stays
    ∙ sym (none_left c.self.inside.line.items c.self.inside.at c.self.inside.lines past c.in-None.ensures.none)
    ∙ ap left_bytes c.self.view_is

pub returns-in-None-clause-end : goal.returns-in-None-clause-end
returns-in-None-clause-end c _ =
    let past : length c.self.inside.line.items ≤ c.self.inside.at = omega (arith, c.if-self-len.false, c.len.ensures.value) in
    none_left c.self.inside.line.items c.self.inside.at c.next.new.self past c.in-None.ensures.stays
