use Rattle.std.proofs.Common.{◌<◌, ◌≤◌}
use Rattle.std.specs.List.{AllWithin, AllAdjacentBelow}
use Rattle.lt_tables.specs.declared.Entry.{Entry}
use Rattle.lt_balance.proofs.entries.are_entries.Given as goal

abbrev pub invariant-loop-i : goal.invariant-loop-i
invariant-loop-i l =
    AllWithin (λ (e : Entry). (e.column < 64) × (e.cost ≤ 4080)) l.entries 0 l.i × AllAdjacentBelow (λ (a b : Entry). a.suffix ≤ b.suffix) l.entries l.i
