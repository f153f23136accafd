use Rattle.std.proofs.Common.{length}
use Rattle.lt_balance.proofs.TableLaws.{IsCut}
use Rattle.lt_balance.proofs.tables.cut.Given as goal

abbrev pub invariant-loop-rest : goal.invariant-loop-rest
invariant-loop-rest l = IsCut l.entries l.counts.items l.rest

abbrev pub decreases-loop-rest : goal.decreases-loop-rest
decreases-loop-rest l = length l.rest
