use Rattle.lt_node.proofs.AfterLaws.{dealt_node}
use Rattle.lt_node.proofs.laws.deals_take_the_oldest.Goals as goal

pub returns : goal.returns
returns c = dealt_node
