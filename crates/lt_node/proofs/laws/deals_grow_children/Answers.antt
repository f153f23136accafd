use Rattle.lt_node.proofs.AfterLaws.{dealt_children}
use Rattle.lt_node.proofs.laws.deals_grow_children.Goals as goal

pub returns : goal.returns
returns c = dealt_children
