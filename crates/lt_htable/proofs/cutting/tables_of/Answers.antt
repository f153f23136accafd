use Rattle.std.proofs.Common.{◌∙◌, ap, map, refl}
use Rattle.std.proofs.Common.{List}
use Rattle.lt_tables.specs.Cut.{cut_counts}
use Rattle.std.specs.Borrow.{Bor}
use Rattle.lt_terms.specs.Items.{Item}
use Rattle.lt_htable.proofs.PartLaws.{parts-of, parts-count, parts-fewer, parts-some}
use Rattle.lt_htable.proofs.CutLaws.{IsCutting-start, next, IsCutting-more, IsCutting-whole}
use Rattle.lt_htable.proofs.cutting.tables_of.Goals as goal

pub loop-count-init : goal.loop-count-init
loop-count-init c =
    IsCutting-start (λ table. table.now) c.args.items.now c.args.items.now c.in_ok-tables.tables.items c.deref-count-items.result.now c.in_ok-counts.counts.items
    c.in_ok-tables.ensures.items refl c.deref-count-items.ensures.value
    (c.in_ok-counts.ensures ∙ ap cut_counts (c.deref.ensures.value ∙ c.in_ok-entries.ensures.entries))

pub split_at-requires : goal.split_at-requires
split_at-requires c =
    (next c.args.items.now (map (λ table. table.now) c.loop-count.tables.items) c.deref-count-items.result.now c.loop-count.count-index _ c.loop-count.rest.now c.loop-count.invariant c.loop-count-test.true refl).within

pub loop-count-preserved : goal.loop-count-preserved
loop-count-preserved c =
    IsCutting-more (λ table. table.now) c.args.items.now c.loop-count.tables.items c.push.new.self.items c.split_at.result.0 c.deref-count-items.result.now c.loop-count.count-index _ c.loop-count.rest.now c.split_at.result.1.now c.loop-count.invariant c.loop-count-test.true refl
    c.in_ok-push.ensures.items c.split_at.ensures.front c.split_at.ensures.back

pub returns-clause-tables : goal.returns-clause-tables
returns-clause-tables c = IsCutting-whole c.args.items.now _ c.deref-count-items.result.now c.loop-count.count-index c.loop-count.rest.now c.loop-count.invariant c.loop-count-test.false

pub returns-clause-parts : goal.returns-clause-parts
returns-clause-parts c =
    let is = IsCutting-whole c.args.items.now _ c.deref-count-items.result.now c.loop-count.count-index c.loop-count.rest.now c.loop-count.invariant c.loop-count-test.false in
    parts-of (λ (table : Bor (List Item)). table.now) c.loop-count.tables.items c.args.items.now is c.requires.ranked c.in_ok-entries.ensures.valid

pub returns-clause-count : goal.returns-clause-count
returns-clause-count c =
    let is = IsCutting-whole c.args.items.now _ c.deref-count-items.result.now c.loop-count.count-index c.loop-count.rest.now c.loop-count.invariant c.loop-count-test.false in
    parts-count (λ (table : Bor (List Item)). table.now) c.loop-count.tables.items c.args.items.now is

pub returns-clause-fewer : goal.returns-clause-fewer
returns-clause-fewer c =
    let is = IsCutting-whole c.args.items.now _ c.deref-count-items.result.now c.loop-count.count-index c.loop-count.rest.now c.loop-count.invariant c.loop-count-test.false in
    parts-fewer (λ (table : Bor (List Item)). table.now) c.loop-count.tables.items c.args.items.now is c.in_ok-entries.ensures.valid

pub returns-clause-some : goal.returns-clause-some
returns-clause-some c =
    let is = IsCutting-whole c.args.items.now _ c.deref-count-items.result.now c.loop-count.count-index c.loop-count.rest.now c.loop-count.invariant c.loop-count-test.false in
    parts-some (λ (table : Bor (List Item)). table.now) c.loop-count.tables.items c.args.items.now is
