use Rattle.lt_redo.proofs.AreaLaws.{has_log-local}
use Rattle.lt_redo.proofs.laws.logs_are_local.Goals as goal

pub returns : goal.returns
returns c = has_log-local
