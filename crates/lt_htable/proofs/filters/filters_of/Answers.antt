use Rattle.std.proofs.Common.{◌≡◌, ℕ, List, [], length, take, sym, ap, subst, ◌∙◌, arith}
use Rattle.std.proofs.Math.Seq.{take-length}
use Rattle.lt_terms.specs.Bytes.{IsBlock}
use Rattle.lt_terms.specs.Items.{Item}
use Rattle.lt_tables.specs.Filter.{HasFilters}
use Rattle.lt_tables.proofs.FilterLaws.{HasFilters-nil, HasFilters-block}
use Rattle.lt_htable.proofs.SoughtLaws.{column-small}
use Rattle.lt_htable.proofs.FillLaws.{parts-in_range, filters-more}
use Rattle.lt_htable.proofs.filters.filters_of.Goals as goal

pub loop-item-init : goal.loop-item-init
loop-item-init c = subst (λ (page : List ℕ). HasFilters [] page) (sym c.in_ok-filters.ensures) HasFilters-nil

pub add-requires-clause-column : goal.add-requires-clause-column
add-requires-clause-column c = column-small c.parts.result.now c.item-item.result.key c.parts.ensures

pub add-requires-clause-parts : goal.add-requires-clause-parts
add-requires-clause-parts c = parts-in_range c.parts-in-loop-item.result.now c.item-item.result.key c.parts-in-loop-item.ensures

pub loop-item-preserved : goal.loop-item-preserved
loop-item-preserved c = filters-more c.args.items.now c.loop-item.item-index c.item-item.result c.loop-item.filters c.add.new.self c.parts.result.now c.parts-in-loop-item.result.now (omega arith) c.item-item.is c.parts.ensures c.parts-in-loop-item.ensures c.loop-item.invariant c.add.ensures

pub returns : goal.returns
returns c =
    let items : List Item = c.args.items.now in
    let all : c.loop-item.item-index ≡ length items = omega arith in
    let has : HasFilters items c.loop-item.filters = subst (λ (xs : List Item). HasFilters xs c.loop-item.filters) (ap (λ n. take n items) all ∙ take-length items) c.loop-item.invariant in
    HasFilters-block items c.loop-item.filters (subst IsBlock c.page.ensures c.bytes-len.ensures.block) has
