use Rattle.lt_tables.proofs.CutLaws.{placement-single}
use Rattle.lt_tables.proofs.placing.one_stays.Goals as goal

pub returns : goal.returns
returns c = placement-single
