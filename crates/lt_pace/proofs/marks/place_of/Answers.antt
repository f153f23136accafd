use Rattle.std.proofs.Common.{◌≡◌, ◌∙◌, ◌+◌, ◌<◌, ◌≤◌, min, ap, subst, arith}
use Rattle.lt_pace.specs.Marks.{first_place, most_nodes}
use Rattle.lt_pace.proofs.MarkLaws.{place-far, place-near, starts-within}
use Rattle.lt_pace.proofs.marks.place_of.Goals as goal

pub overflow_mul-first : goal.overflow_mul-first
overflow_mul-first c =
    let low = starts-within c.loop.counter (omega (arith, c.loop.auto.counter-end, c.min-end.ensures)) in
    let at : c.loop.first ≡ first_place c.loop.counter = c.loop.invariant in
    omega (arith, low, at)

pub overflow_add-first : goal.overflow_add-first
overflow_add-first c =
    let low = starts-within c.loop.counter (omega (arith, c.loop.auto.counter-end, c.min-end.ensures)) in
    let at : c.loop.first ≡ first_place c.loop.counter = c.loop.invariant in
    omega (arith, low, at)

pub overflow_add-result : goal.overflow_add-result
overflow_add-result c =
    let low = starts-within c.loop.counter (omega (arith, c.loop.auto.counter-end, c.min-end.ensures)) in
    let at : c.loop.first ≡ first_place c.loop.counter = c.loop.invariant in
    let small : c.args.node.number < 65536 = omega arith in
    omega (arith, low, at, c.from.ensures, small)

pub returns-clause-near : goal.returns-clause-near
returns-clause-near c =
    let end : c.loop.counter ≡ min c.args.node.level 5 = omega (arith, c.loop.auto.counter-end, c.loop-test.false, c.min-end.ensures) in
    let at : c.loop.first + c.from.result ≡ first_place (min c.args.node.level 5) + c.args.node.number = (λ i. (c.loop.invariant ∙ ap first_place end) i + c.from.ensures i) in
    λ before. at ∙ place-near c.args.node (subst (λ n. n < most_nodes) at before)

pub returns-clause-far : goal.returns-clause-far
returns-clause-far c =
    let end : c.loop.counter ≡ min c.args.node.level 5 = omega (arith, c.loop.auto.counter-end, c.loop-test.false, c.min-end.ensures) in
    let at : c.loop.first + c.from.result ≡ first_place (min c.args.node.level 5) + c.args.node.number = (λ i. (c.loop.invariant ∙ ap first_place end) i + c.from.ensures i) in
    λ behind. place-far c.args.node (subst (λ n. most_nodes ≤ n) at behind)
