use Rattle.lt_image.proofs.EndLaws.{deal-lowers, due-rewrite-lowers, other-rewrite-leaves}
use Rattle.lt_image.proofs.ending.moves_lower_work.Goals as goal

pub returns-clause-deal : goal.returns-clause-deal
returns-clause-deal c = deal-lowers

pub returns-clause-due : goal.returns-clause-due
returns-clause-due c = due-rewrite-lowers

pub returns-clause-other : goal.returns-clause-other
returns-clause-other c = other-rewrite-leaves
