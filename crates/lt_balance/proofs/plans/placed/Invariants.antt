use Rattle.std.proofs.Common.{◌≡◌, List, length, map}
use Rattle.std.specs.List.{range_with_len}
use Rattle.lt_tables.specs.declared.Entry.{Entry}
use Rattle.lt_tables.specs.Placement.{plan_of}
use Rattle.lt_balance.specs.Columns.{AreColumns}
use Rattle.lt_balance.proofs.plans.placed.Given as goal

abbrev pub invariant-loop-column : goal.invariant-loop-column
invariant-loop-column l =
    (length l.plans.items ≡ l.column) × ((es : List Entry) → AreColumns es l.columns → l.plans.items ≡ map (plan_of es l.made) (range_with_len 0 l.column))
