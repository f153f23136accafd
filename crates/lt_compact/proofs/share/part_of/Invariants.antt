use Rattle.lt_compact.proofs.PieceLaws.{IsAfter}
use Rattle.lt_compact.proofs.share.part_of.Given as goal

-- the rest of the items behind the tables so far
abbrev pub invariant-loop-count : goal.invariant-loop-count
invariant-loop-count l = IsAfter l.items l.counts l.count-index l.rest
