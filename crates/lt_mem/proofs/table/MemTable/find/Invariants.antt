use Rattle.lt_mem.specs.Inside.{items_inside}
use Rattle.lt_mem.proofs.Walk.{IsAt}
use Rattle.lt_mem.proofs.table.MemTable.find.Given as goal

abbrev pub invariant-loop-number : goal.invariant-loop-number
invariant-loop-number l = IsAt l.key (items_inside l.self-inside) l.number

abbrev pub decreases-loop-number : goal.decreases-loop-number
decreases-loop-number l = l.number
