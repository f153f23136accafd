use Rattle.lt_node.proofs.AfterLaws.{rewritten_node}
use Rattle.lt_node.proofs.laws.rewritings_replace_the_node.Goals as goal

pub returns : goal.returns
returns c = rewritten_node
