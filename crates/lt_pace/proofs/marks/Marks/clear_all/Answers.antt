use Rattle.std.proofs.Common.{◌≡◌, ◌∙◌, ap, false, replicate, arith}
use Rattle.std.specs.Prelude.{vec_len}
use Rattle.lt_pace.specs.Marks.{most_nodes}
use Rattle.lt_pace.proofs.marks.Marks.clear_all.Goals as goal

pub returns : goal.returns
returns c =
    let len : vec_len c.self.inside.flags ≡ most_nodes = omega (arith, c.self.inside.flags.ok.0, c.self.invariant) in
    c.fill.ensures.items (λ y is. is) ∙ ap (λ n. replicate n false) len
