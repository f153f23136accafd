use Rattle.lt_compact.proofs.GiveLaws.{AreGiven}
use Rattle.lt_compact.proofs.giving.give_back.Given as goal

-- the numbers so far are free again
abbrev pub invariant-loop-number : goal.invariant-loop-number
invariant-loop-number l = AreGiven l.fn.extents l.extents l.numbers l.number-index
