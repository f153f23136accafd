use Rattle.std.proofs.Common.{take}
use Rattle.lt_alloc.specs.Extents.{AreTaken}
use Rattle.lt_alloc.proofs.extents.Extents.of.Given as goal

abbrev pub invariant-loop-number : goal.invariant-loop-number
invariant-loop-number l = AreTaken l.extents (take l.number-index l.used) l.taken.items
