use Rattle.lt_image.proofs.TakeLaws.{deal-takes, rewrite-takes}
use Rattle.lt_image.proofs.pressing.moves_take_what_they_need.Goals as goal

pub returns-clause-deal : goal.returns-clause-deal
returns-clause-deal c = deal-takes

pub returns-clause-rewrite : goal.returns-clause-rewrite
returns-clause-rewrite c = rewrite-takes
