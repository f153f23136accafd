-- The placement that the sendings make.
use Rattle.std.proofs.Common.{◌≡◌, List, [], map, Some, None, sym, ap, ◌∙◌}
use Rattle.std.specs.Option.{option_map}
use Rattle.lt_tables.specs.declared.Entry.{Entry}
use Rattle.lt_tables.specs.declared.ColumnPlan.{ColumnPlan}
use Rattle.lt_tables.specs.declared.Sending.{Sending}
use Rattle.lt_tables.specs.Placement.{columns, plan_of, senders, sendings, placement}

pub placement-none : (es : List Entry) → sendings es (senders es) [] ≡ None → None ≡ placement es
unfolding placement
placement-none es is = sym (ap (option_map (λ made. map (plan_of es made) columns)) is)

pub placement-some : (es : List Entry) (made : List Sending) (plans : List ColumnPlan) → sendings es (senders es) [] ≡ Some made → plans ≡ map (plan_of es made) columns → Some plans ≡ placement es
unfolding placement
placement-some es made plans is plans_are = ap (λ ps. Some ps) plans_are ∙ sym (ap (option_map (λ made. map (plan_of es made) columns)) is)
