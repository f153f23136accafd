use Rattle.lt_image.proofs.CountLaws.{flush-committed}
use Rattle.lt_image.proofs.flushing.flushes_commit.Goals as goal

pub returns : goal.returns
returns c = flush-committed
