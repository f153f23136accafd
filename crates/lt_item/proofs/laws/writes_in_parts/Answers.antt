use Rattle.lt_item.proofs.Splices.{filled-item}
use Rattle.lt_item.proofs.laws.writes_in_parts.Goals as goal

pub returns : goal.returns
returns c = filled-item
