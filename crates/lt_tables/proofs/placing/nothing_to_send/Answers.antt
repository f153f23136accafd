use Rattle.lt_tables.proofs.CutLaws.{placement-nil}
use Rattle.lt_tables.proofs.placing.nothing_to_send.Goals as goal

pub returns : goal.returns
returns c = placement-nil
