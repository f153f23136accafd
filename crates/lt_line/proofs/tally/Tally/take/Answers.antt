use Rattle.lt_line.proofs.TallyLaws.{Gains-ended, Gains-longer}
use Rattle.lt_line.proofs.tally.Tally.take.Goals as goal

pub returns-then-byte-eq10 : goal.returns-then-byte-eq10
returns-then-byte-eq10 c = Gains-ended _ _ _ c.if-byte-eq10.true c.end_line.ensures

pub returns-else-byte-eq10 : goal.returns-else-byte-eq10
returns-else-byte-eq10 c = Gains-longer _ _ _ c.if-byte-eq10.false c.lengthen.ensures
