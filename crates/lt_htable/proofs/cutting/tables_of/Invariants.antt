use Rattle.std.proofs.Common.{map, drop}
use Rattle.lt_htable.proofs.CutLaws.{IsCutting}
use Rattle.lt_htable.proofs.cutting.tables_of.Given as goal

abbrev pub invariant-loop-count : goal.invariant-loop-count
invariant-loop-count l = IsCutting l.items (map (λ table. table.now) l.tables.items) (drop l.count-index l.count-items) l.rest
