use Rattle.lt_image.proofs.KeptLaws.{log-grows, group-added}
use Rattle.lt_image.proofs.keeping.logs_grow.Goals as goal

pub returns-clause-items : goal.returns-clause-items
returns-clause-items c = log-grows

pub returns-clause-group : goal.returns-clause-group
returns-clause-group c = group-added
