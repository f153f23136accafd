use Rattle.lt_node.proofs.AfterLaws.{flush_root}
use Rattle.lt_node.proofs.laws.flushes_grow_the_root.Goals as goal

pub returns : goal.returns
returns c = flush_root
