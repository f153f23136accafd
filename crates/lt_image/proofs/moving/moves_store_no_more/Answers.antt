use Rattle.lt_image.proofs.JobCountLaws.{deal-fewer, rewrite-fewer}
use Rattle.lt_image.proofs.moving.moves_store_no_more.Goals as goal

pub returns-clause-deal : goal.returns-clause-deal
returns-clause-deal c = deal-fewer

pub returns-clause-rewrite : goal.returns-clause-rewrite
returns-clause-rewrite c = rewrite-fewer
