use Rattle.std.proofs.Common.{rules, ◌≡◌, ◌<◌, ◌∙◌, ap, [], map, length, nat_lt, arith}
use Rattle.std.specs.List.{All}
use Rattle.std.proofs.lemmas.Fn.{filter_same}
use Rattle.std.proofs.lemmas.List.{length-map}
use Rattle.lt_io.proofs.PieceLaws.{without_none, map-filter, All-nonempty}
use Rattle.lt_io.specs.Memory.{nonempty}
use Rattle.lt_io.proofs.pieces.Pieces.new.Goals as goal

kept : (c : goal.After-retain) → map (λ piece. piece.items) c.retain.new.self.items ≡ nonempty (map (λ piece. piece.items) c.args.pieces.items)
kept c =
    ap (map (λ piece. piece.items)) (filter_same _ (λ piece. nat_lt 0 (length piece.items)) _ (λ x b f k. search rules) _ _ c.retain.ensures.filtered)
    ∙ map-filter (λ piece. piece.items) (λ bytes. nat_lt 0 (length bytes)) c.args.pieces.items

pub returns : goal.returns
returns c = without_none _ ∙ kept c

pub invariant_of-result : goal.invariant_of-result
invariant_of-result c =
    let each : All (λ piece. 0 < length piece) (map (λ piece. piece.items) c.retain.new.self.items) = All-nonempty (map (λ piece. piece.items) c.args.pieces.items) _ (kept c) in
    record { first = omega arith; at_end = λ _. omega arith; at = λ some. each 0 [] (rw length-map some); each = each }
