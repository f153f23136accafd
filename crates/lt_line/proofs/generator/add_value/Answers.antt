use Rattle.std.proofs.Common.{◌≤◌, ◌+◌, ◌/◌, ◌%◌, ◌^◌, ap, ◌∙◌, ◌++◌, arith}
use Rattle.std.proofs.lemmas.List.{take-replicate}
use Rattle.lt_line.proofs.generator.add_value.Goals as goal

pub returns-clause-items : goal.returns-clause-items
returns-clause-items c =
    let fits : 40 + c.args.c / 2 ^ 16 % 101 ≤ 140 = omega arith in
    c.add.ensures.items ∙ ap (λ v. c.args.line.now.items ++ v)
    (take-replicate (40 + c.args.c / 2 ^ 16 % 101) 140 (97 + c.args.c / 2 ^ 24 % 26) fits)
