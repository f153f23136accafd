use Rattle.std.proofs.Common.{ℕ, ◌<◌, get_or}
use Rattle.lt_balance.specs.Columns.{no_column}
use Rattle.lt_balance.proofs.sendings.place_by_load.Given as goal

abbrev pub invariant-loop-at : goal.invariant-loop-at
invariant-loop-at l = (k : ℕ) → k < l.at → (get_or l.columns l.column no_column).load < (get_or l.columns (get_or l.order k 0) no_column).load
