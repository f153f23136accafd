use Rattle.lt_tables.proofs.CutLaws.{cut-joined}
use Rattle.lt_tables.proofs.placing.joins_again.Goals as goal

pub returns : goal.returns
returns c = cut-joined
