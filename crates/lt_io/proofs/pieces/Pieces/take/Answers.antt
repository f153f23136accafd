use Rattle.std.proofs.Common.{◌≡◌, ◌<◌, ◌∙◌, ap, sym, length, [], get_or, arith}
use Rattle.std.proofs.lemmas.List.{length-map, get_or-map, take_rest}
use Rattle.lt_io.specs.Memory.{bytes_of}
use Rattle.lt_io.specs.Pieces.{all_pieces}
use Rattle.lt_io.proofs.PieceLaws.{bytes_of-part}
use Rattle.lt_io.proofs.pieces.Pieces.take.Goals as goal

pub returns-else-n-piece-clause-bytes : goal.returns-else-n-piece-clause-bytes
returns-else-n-piece-clause-bytes c =
    let within : c.self.inside.first < length c.self.inside.pieces.items = omega (arith, c.self.inside.pieces.ok.0) in
    let within_all : c.self.inside.first < length (all_pieces c.self.inside) = rw length-map within in
    let is : get_or (all_pieces c.self.inside) c.self.inside.first [] ≡ c.deref.result.now =
    get_or-map (λ piece. piece.items) c.self.inside.pieces.items c.self.inside.first c.index.result.now [] within ∙ ap (λ piece. piece.items) (sym c.index.ensures) ∙ sym c.deref.ensures.value
    in
    let least = rw take_rest at c.min-n.ensures in
    let filled = rw take_rest at c.fill_from.ensures.filled in
    ap bytes_of (sym c.self.view_is)
    ∙ bytes_of-part (all_pieces c.self.inside) c.self.inside.first c.self.inside.at c.min-n.result c.deref.result.now c.fill_from.new.self _ within_all is (omega arith) filled
