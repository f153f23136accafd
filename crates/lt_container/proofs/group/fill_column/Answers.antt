use Rattle.std.proofs.Common.{◌≡◌, ℕ, ◌+◌, ◌*◌, sym, ap, ◌∙◌, List, ◌++◌, length, take, arith, length-append}
use Rattle.lt_terms.specs.Bytes.{block_of, filled}
use Rattle.lt_container.proofs.GroupLaws.{joined, joined-more, padded-more}
use Rattle.lt_container.proofs.group.fill_column.Goals as goal

pub loop-place-preserved : goal.loop-place-preserved
loop-place-preserved c =
    let filters : List (List ℕ) = c.args.filters.now in
    let before : List ℕ = joined (take c.loop-place.place filters) c.args.column in
    let bytes : List ℕ = c.filter_in.result.now in
    let more : joined (take (c.loop-place.place + 1) filters) c.args.column ≡ before ++ bytes =
    joined-more filters c.args.column c.loop-place.place c.index-filters-place.result (omega arith) c.index-filters-place.is ∙ ap (λ xs. before ++ xs) (sym c.filter_in.ensures.filter) in
    record {
      block = c.fill_from.ensures.filled
          ∙ ap (λ page. filled page (64 * c.loop-place.place) bytes) c.loop-place.invariant.block
          ∙ ap (λ at. filled (block_of before) at bytes) (sym c.loop-place.invariant.len)
          ∙ padded-more 4096 before bytes
          ∙ ap block_of (sym more);
      len = ap length more ∙ length-append before bytes ∙ omega (arith, c.loop-place.invariant.len, c.filter_in.ensures.len);
    }
