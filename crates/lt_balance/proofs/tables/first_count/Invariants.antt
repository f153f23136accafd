use Rattle.std.proofs.Common.{◌≡◌, false}
use Rattle.lt_balance.proofs.TableLaws.{IsFitted}
use Rattle.lt_balance.specs.Columns.{NoneSends}
use Rattle.lt_balance.proofs.tables.first_count.Given as goal

abbrev pub invariant-loop-count : goal.invariant-loop-count
invariant-loop-count l = IsFitted l.entries l.count l.columns × (l.sends ≡ false → NoneSends l.columns)
