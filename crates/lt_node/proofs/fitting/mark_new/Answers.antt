use Rattle.std.proofs.Common.{◌+◌, subst, length, get_or, take, drop, ◌∷◌, [], true, false}
use Rattle.std.proofs.lemmas.List.{take_more, take_all}
use Rattle.lt_node.proofs.MarkLaws.{TellsMore, tells_begin, tells_next, tells_stop, cut_here}
use Rattle.lt_node.proofs.fitting.mark_new.Goals as goal

pub loop-number-init : goal.loop-number-init
loop-number-init c = tells_begin (length c.args.marks.now) c.args.marks.now

pub loop-number-preserved : goal.loop-number-preserved
loop-number-preserved c =
    let i = c.loop-number.number-index in
    let xs = c.args.numbers.now in
    tells_next (length c.args.marks.now) c.args.marks.now c.loop-number.marks c.mark_one.new.marks (take i xs) (get_or xs i 0 ∷ []) (take (i + 1) xs) true c.loop-number.invariant c.loop-number.auto.marks c.if-not-mark_one.ensures (take_more xs i 0 c.loop-number-test.true)

pub returns-then-not-mark_one : goal.returns-then-not-mark_one
returns-then-not-mark_one c =
    let i = c.loop-number.number-index in
    let xs = c.args.numbers.now in
    tells_stop (length c.args.marks.now) c.args.marks.now c.mark_one.new.marks (take (i + 1) xs) (drop (i + 1) xs) xs
    (tells_next (length c.args.marks.now) c.args.marks.now c.loop-number.marks c.mark_one.new.marks (take i xs) (get_or xs i 0 ∷ []) (take (i + 1) xs) false c.loop-number.invariant c.loop-number.auto.marks c.if-not-mark_one.ensures (take_more xs i 0 c.loop-number-test.true))
    (cut_here xs (i + 1))

pub returns : goal.returns
returns c = subst (λ xs. TellsMore (length c.args.marks.now) c.args.marks.now xs true c.loop-number.marks) (take_all _ c.args.numbers.now c.loop-number-test.false) c.loop-number.invariant
