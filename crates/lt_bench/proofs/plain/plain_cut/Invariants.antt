use Rattle.std.proofs.Common.{length}
use Rattle.lt_balance.specs.Entries.{AreEntries}
use Rattle.lt_bench.proofs.plain.plain_cut.Given as goal

abbrev pub invariant-loop-rest : goal.invariant-loop-rest
invariant-loop-rest l = AreEntries l.rest

abbrev pub decreases-loop-rest : goal.decreases-loop-rest
decreases-loop-rest l = length l.rest
