use Rattle.std.proofs.Common.{◌≡◌, ◌-◌, ◌<◌, ℕ, length, get_or}
use Rattle.lt_balance.specs.Columns.{no_column}
use Rattle.lt_balance.proofs.sendings.first_rooms.Given as goal

abbrev pub invariant-loop-c : goal.invariant-loop-c
invariant-loop-c l = (length l.rooms ≡ 64) × ((k : ℕ) → k < l.c → get_or l.rooms k 0 ≡ 4080 - (get_or l.columns k no_column).load)
