use Rattle.std.proofs.Common.{◌≡◌, ◌≤◌, ◌∙◌, ap, ◌+◌, ◌++◌, length, take, drop, append_assoc, arith}
use Rattle.lt_language.specs.Commands.{joined}
use Rattle.lt_line.specs.Generated.{left_bytes}
use Rattle.std.proofs.lemmas.List.{take_rest, length-take-le, drop-drop}
use Rattle.lt_line.proofs.GeneratorLaws.{front_is_whole, part_put}
use Rattle.lt_line.proofs.gen_source.GenSource.put_line.Goals as goal

pub returns-clause-bytes : goal.returns-clause-bytes
returns-clause-bytes c =
    let value = c.as_slice.ensures.value in
    let rest = drop c.self.inside.at c.self.inside.line.items in
    let least = rw value at (rw take_rest at c.min-n.ensures) in
    let fits : c.min-n.result ≤ length rest = omega (arith, least) in
    let part : length (take c.min-n.result rest) ≡ c.min-n.result = length-take-le c.min-n.result rest fits in
    let tail = drop (c.args.from + length (take c.min-n.result rest)) c.args.into.now in
    let filled = rw value at (rw take_rest at c.fill_from.ensures.filled)
    ∙ append_assoc (take c.args.from c.args.into.now) (take c.min-n.result rest) tail
    in
    let room : c.args.from + length (take c.min-n.result rest) ≤ 4096 = omega (arith, least, part) in
    let front : length (take c.args.from c.args.into.now) ≡ c.args.from =
    front_is_whole c.args.into.now c.fill_from.new.self (take c.min-n.result rest) c.args.from room c.fill_from.ensures.block.len filled
    in
    let put = part_put (take c.args.from c.args.into.now) rest c.fill_from.new.self tail
    (joined c.self.inside.lines) (c.args.from + c.min-n.result) c.min-n.result fits (omega (arith, front)) filled in
    rw drop-drop at put ∙ ap (λ s. take c.args.from c.args.into.now ++ left_bytes s) c.self.view_is
