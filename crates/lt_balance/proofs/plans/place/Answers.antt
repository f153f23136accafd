use Rattle.std.proofs.Common.{◌≡◌, List, map, subst}
use Rattle.lt_tables.specs.declared.Sending.{Sending}
use Rattle.lt_tables.specs.Placement.{columns, plan_of}
use Rattle.lt_balance.proofs.PlanLaws.{placement-none, placement-some}
use Rattle.lt_balance.proofs.plans.place.Goals as goal

pub returns-in-None : goal.returns-in-None
returns-in-None c = placement-none c.args.entries.now (c.in-None.ensures c.args.entries.now c.columns_of-columns.ensures)

pub returns-in_ok-placed-in-Some : goal.returns-in_ok-placed-in-Some
returns-in_ok-placed-in-Some c =
    placement-some c.args.entries.now c.in-Some.made.items c.in_ok-placed-in-Some.field-0 (c.in-Some.ensures c.args.entries.now c.columns_of-columns.ensures)
    (subst (λ (made : List Sending). c.in_ok-placed-in-Some.field-0 ≡ map (plan_of c.args.entries.now made) columns) c.as_slice.ensures.value (c.in_ok-placed-in-Some.ensures c.args.entries.now c.columns_of-columns.ensures))
