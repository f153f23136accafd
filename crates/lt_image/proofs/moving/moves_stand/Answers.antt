use Rattle.lt_image.proofs.JobCountLaws.{deal-stands, rewrite-stands}
use Rattle.lt_image.proofs.moving.moves_stand.Goals as goal

pub returns-clause-deal : goal.returns-clause-deal
returns-clause-deal c = deal-stands

pub returns-clause-rewrite : goal.returns-clause-rewrite
returns-clause-rewrite c = rewrite-stands
