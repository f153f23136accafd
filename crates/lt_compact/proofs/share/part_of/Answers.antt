use Rattle.std.proofs.Common.{◌≡◌, ◌<◌, ◌∙◌, ℕ, List, length, take, sym, subst, get_or, refl, ◌+◌, arith}
use Rattle.std.proofs.lemmas.List.{get_or-take, length-take-le}
use Rattle.lt_terms.specs.Items.{Item}
use Rattle.lt_compact.proofs.PieceLaws.{IsAfter, after-next}
use Rattle.lt_compact.proofs.share.part_of.Goals as goal

pub split_at-requires : goal.split_at-requires
split_at-requires c =
    let i : ℕ = c.loop-count.count-index in
    let size : length (take c.args.place c.args.counts.now) ≡ c.args.place = length-take-le c.args.place c.args.counts.now (omega (arith, c.requires.place)) in
    let within : i < c.args.place = omega (arith, size, c.loop-count-test.true) in
    let next = after-next c.args.items.now c.args.counts.now i (get_or c.args.counts.now i 0) c.loop-count.rest.now c.requires.counts c.loop-count.invariant (omega (arith, within, c.requires.place)) refl in
    omega (arith, next.within, get_or-take c.args.place c.args.counts.now i 0 within)

pub loop-count-preserved : goal.loop-count-preserved
loop-count-preserved c =
    let i : ℕ = c.loop-count.count-index in
    let size : length (take c.args.place c.args.counts.now) ≡ c.args.place = length-take-le c.args.place c.args.counts.now (omega (arith, c.requires.place)) in
    let within : i < c.args.place = omega (arith, size, c.loop-count-test.true) in
    let next = after-next c.args.items.now c.args.counts.now i (get_or (take c.args.place c.args.counts.now) i 0) c.loop-count.rest.now c.requires.counts c.loop-count.invariant (omega (arith, within, c.requires.place)) (get_or-take c.args.place c.args.counts.now i 0 within) in
    subst (λ (xs : List Item). IsAfter c.args.items.now c.args.counts.now (i + 1) xs) (sym c.split_at.ensures.back) next.after

pub split_at-requires-2 : goal.split_at-requires-2
split_at-requires-2 c =
    let size : length (take c.args.place c.args.counts.now) ≡ c.args.place = length-take-le c.args.place c.args.counts.now (omega (arith, c.requires.place)) in
    let here : c.loop-count.count-index ≡ c.args.place = omega (arith, size, c.loop-count-test.false, c.loop-count.auto.count-index-end) in
    let at : IsAfter c.args.items.now c.args.counts.now c.args.place c.loop-count.rest.now = subst (λ (i : ℕ). IsAfter c.args.items.now c.args.counts.now i c.loop-count.rest.now) here c.loop-count.invariant in
    (after-next c.args.items.now c.args.counts.now c.args.place (get_or c.args.counts.now c.args.place 0) c.loop-count.rest.now c.requires.counts at c.requires.place refl).within

pub returns : goal.returns
returns c =
    let size : length (take c.args.place c.args.counts.now) ≡ c.args.place = length-take-le c.args.place c.args.counts.now (omega (arith, c.requires.place)) in
    let here : c.loop-count.count-index ≡ c.args.place = omega (arith, size, c.loop-count-test.false, c.loop-count.auto.count-index-end) in
    let at : IsAfter c.args.items.now c.args.counts.now c.args.place c.loop-count.rest.now = subst (λ (i : ℕ). IsAfter c.args.items.now c.args.counts.now i c.loop-count.rest.now) here c.loop-count.invariant in
    c.split_at-2.ensures.front ∙ sym (after-next c.args.items.now c.args.counts.now c.args.place (get_or c.args.counts.now c.args.place 0) c.loop-count.rest.now c.requires.counts at c.requires.place refl).part
