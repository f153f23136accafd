use Rattle.std.proofs.Common.{◌<◌, subst, sym, length, get_or, take, ◌∷◌, []}
use Rattle.std.proofs.lemmas.List.{take_more, take_all}
use Rattle.lt_node.proofs.MarkLaws.{MarksMore, marks_start, marks_next, mark_more, below_at}
use Rattle.lt_node.proofs.fitting.mark.Goals as goal

pub loop-number-init : goal.loop-number-init
loop-number-init c = marks_start c.args.marks.now

pub loop-number-preserved : goal.loop-number-preserved
loop-number-preserved c =
    let i = c.loop-number.number-index in
    let here : get_or c.args.numbers.now i 0 < length c.loop-number.marks = subst (λ n. get_or c.args.numbers.now i 0 < n) (sym c.loop-number.auto.marks) (below_at _ c.args.numbers.now i c.requires c.loop-number-test.true) in
    marks_next c.args.marks.now c.loop-number.marks _ (take i c.args.numbers.now) (get_or c.args.numbers.now i 0 ∷ []) _ c.loop-number.invariant (mark_more c.loop-number.marks (get_or c.args.numbers.now i 0) here) (take_more c.args.numbers.now i 0 c.loop-number-test.true)

pub bounds-marks-number : goal.bounds-marks-number
bounds-marks-number c =
    let i = c.loop-number.number-index in
    subst (λ n. get_or c.args.numbers.now i 0 < n) (sym c.loop-number.auto.marks) (below_at _ c.args.numbers.now i c.requires c.loop-number-test.true)

pub returns : goal.returns
returns c = subst (λ xs. MarksMore c.args.marks.now xs c.loop-number.marks) (take_all _ c.args.numbers.now c.loop-number-test.false) c.loop-number.invariant
