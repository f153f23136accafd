use Rattle.lt_image.proofs.JobCountLaws.{deal-committed, rewrite-committed}
use Rattle.lt_image.proofs.moving.moves_commit.Goals as goal

pub returns-clause-deal : goal.returns-clause-deal
returns-clause-deal c = deal-committed

pub returns-clause-rewrite : goal.returns-clause-rewrite
returns-clause-rewrite c = rewrite-committed
