use Rattle.std.proofs.Common.{◌≡◌, ◌∙◌, sym, ap, Some, arith}
use Rattle.lt_terms.specs.Bytes.{same_bytes}
use Rattle.lt_terms.specs.Items.{Item}
use Rattle.lt_item.specs.Views.{item_of}
use Rattle.lt_tables.specs.Table.{newest_of}
use Rattle.lt_mem.specs.Inside.{items_inside}
use Rattle.lt_mem.proofs.IndexLaws.{index-count}
use Rattle.lt_mem.proofs.Walk.{has_place, head_begins, found, goes_on, same_item, no_item, numbered}
use Rattle.lt_mem.proofs.table.MemTable.find.Goals as goal

pub loop-number-init : goal.loop-number-init
loop-number-init c =
    head_begins _ _ _ _ _ c.self.invariant.index.buckets c.self.invariant.index.heads_are (c.bucket_of.ensures.bucket _ c.requires) c.bucket_of.ensures.below c.index-number.ensures

pub index-place-requires : goal.index-place-requires
index-place-requires c =
    let each = index-count _ _ _ _ c.self.invariant.index in
    let len = c.self.inside.places.ok.0 in
    let within = c.loop-number.invariant.within in
    let some = c.loop-number-test.true in
    omega arith

pub returns-in_err-item-clause-item : goal.returns-in_err-item-clause-item
returns-in_err-item-clause-item c =
    let there = (has_place _ _ _ _ _ _ c.self.invariant.index c.loop-number-test.true c.loop-number.invariant.within c.index-place.ensures).reads in
    let none = c.in_err-item.ensures.item in
    let bytes = c.deref.ensures.value in
    absurd (cc)

pub returns-then-eq-clause-item : goal.returns-then-eq-clause-item
returns-then-eq-clause-item c =
    let there = has_place _ _ _ _ _ _ c.self.invariant.index c.loop-number-test.true c.loop-number.invariant.within c.index-place.ensures in
    let same : item_of c.in_ok-item.item ≡ numbered (items_inside c.self.inside) c.loop-number.number = same_item _ _ _ _ _ _ _ c.deref.ensures.value c.in_ok-item.ensures.item there.reads in
    ap Some same
    ∙ sym (found _ _ _ no_item c.loop-number-test.true c.loop-number.invariant (ap (λ (item : Item). same_bytes item.key c.args.key.now) (sym same) ∙ sym c.if-eq.ensures))
    ∙ ap (newest_of c.args.key.now) c.self.view_is

pub loop-number-smaller : goal.loop-number-smaller
loop-number-smaller c = (has_place _ _ _ _ _ _ c.self.invariant.index c.loop-number-test.true c.loop-number.invariant.within c.index-place.ensures).smaller

pub loop-number-preserved : goal.loop-number-preserved
loop-number-preserved c =
    let there = has_place _ _ _ _ _ _ c.self.invariant.index c.loop-number-test.true c.loop-number.invariant.within c.index-place.ensures in
    let same : item_of c.in_ok-item.item ≡ numbered (items_inside c.self.inside) c.loop-number.number = same_item _ _ _ _ _ _ _ c.deref.ensures.value c.in_ok-item.ensures.item there.reads in
    goes_on _ _ _ _ no_item c.loop-number-test.true c.loop-number.invariant (ap (λ (item : Item). same_bytes item.key c.args.key.now) (sym same) ∙ sym c.if-eq.ensures)
    there.before
