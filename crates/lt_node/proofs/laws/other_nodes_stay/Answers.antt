use Rattle.lt_node.proofs.AfterLaws.{unset_node}
use Rattle.lt_node.proofs.laws.other_nodes_stay.Goals as goal

pub returns : goal.returns
returns c = unset_node
