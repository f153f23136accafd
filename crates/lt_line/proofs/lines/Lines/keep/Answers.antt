use Rattle.std.proofs.Common.{◌≡◌, ◌-◌, ◌++◌, ◌∙◌, sym, ap, min, length, arith}
use Rattle.lt_line.specs.Held.{kept_of}
use Rattle.lt_line.proofs.HeldLaws.{kept_of-room}
use Rattle.lt_line.proofs.lines.Lines.keep.Goals as goal

pub returns-clause-kept : goal.returns-clause-kept
returns-clause-kept c =
    let len : length c.self.inside.bytes.items ≡ c.len.result = sym c.self.inside.bytes.ok.0 ∙ sym c.len.ensures in
    let least : c.min-n.result ≡ min (length c.args.chunk.now) (3261 - length c.self.inside.bytes.items) = c.min-n.ensures ∙ ap (λ n. min (length c.args.chunk.now) (3261 - n)) (sym len) in
    let items = rw c.unwrap.ensures at c.extend_from_slice.ensures.items in
    items ∙ kept_of-room c.self.inside.bytes.items c.args.chunk.now c.min-n.result (omega arith) least ∙ ap (λ held. kept_of (held.kept ++ c.args.chunk.now)) c.self.view_is
