use Rattle.lt_terms.proofs.ItemLaws.{front_item-spelling}
use Rattle.lt_terms.proofs.laws.read_again.Goals as goal

pub returns : goal.returns
returns c = front_item-spelling
