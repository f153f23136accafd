use Rattle.std.proofs.Common.{◌≡◌, ◌++◌, ◌∷◌, [], ◌+◌, List, length, map, ap, sym, ◌∙◌, arith}
use Rattle.std.specs.List.{range_with_len}
use Rattle.std.proofs.lemmas.List.{length_push}
use Rattle.std.proofs.lemmas.List.FromFn.{map-range_with_len_more}
use Rattle.lt_tables.specs.declared.ColumnPlan.{ColumnPlan}
use Rattle.lt_tables.specs.Placement.{columns, plan_of}
use Rattle.lt_balance.proofs.plans.placed.Goals as goal

pub loop-column-preserved : goal.loop-column-preserved
loop-column-preserved c = (
  ap length c.in_ok-push.ensures.items ∙ length_push c.loop-column.plans.items c.plan.result ∙ ap (λ n. n + 1) c.loop-column.invariant.0,
  λ es are.
      c.in_ok-push.ensures.items
      ∙ ap (λ (plan : ColumnPlan). c.loop-column.plans.items ++ plan ∷ []) (c.plan.ensures es are)
      ∙ ap (λ (plans : List ColumnPlan). plans ++ plan_of es c.args.made.now c.loop-column.column ∷ []) (c.loop-column.invariant.1 es are)
      ∙ sym (map-range_with_len_more (plan_of es c.args.made.now) 0 c.loop-column.column c.loop-column.column (omega arith)),
)

pub invariant_of-result : goal.invariant_of-result
invariant_of-result c = c.loop-column.invariant.0 ∙ (let done : c.loop-column.column ≡ 64 = omega arith in done)

pub returns : goal.returns
unfolding columns
returns c = λ es are. c.loop-column.invariant.1 es are ∙ ap (λ n. map (plan_of es c.args.made.now) (range_with_len 0 n)) (let done : c.loop-column.column ≡ 64 = omega arith in done)
