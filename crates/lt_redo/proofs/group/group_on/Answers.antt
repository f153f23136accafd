use Rattle.std.proofs.Common.{ℕ, sym, ◌∙◌, arith}
use Rattle.std.proofs.lemmas.List.{length-drop, length-take-le}
use Rattle.lt_redo.proofs.ReadLaws.{items_of-reads, items_of-count}
use Rattle.lt_redo.proofs.group.group_on.Goals as goal

pub returns-clause-valid : goal.returns-clause-valid
returns-clause-valid c = (items_of-reads _ _ c.in_ok-of.field-0 (sym c.of.ensures ∙ c.in_ok-of.was)).valid

pub returns-clause-cost : goal.returns-clause-cost
returns-clause-cost c =
    let read = items_of-reads _ _ c.in_ok-of.field-0 (sym c.of.ensures ∙ c.in_ok-of.was) in
    omega (arith, read.cost, c.split_at.ensures.front_len, length-drop {A = ℕ}, length-take-le {A = ℕ})

pub returns-clause-some : goal.returns-clause-some
returns-clause-some c =
    let count = items_of-count _ _ c.in_ok-of.field-0 (sym c.of.ensures ∙ c.in_ok-of.was) in
    omega (arith, count, c.if-count-eq0.false)
