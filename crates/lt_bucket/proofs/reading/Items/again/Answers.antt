use Rattle.lt_bucket.proofs.ItemsOf.{items_in-reads}
use Rattle.lt_bucket.proofs.reading.Items.again.Goals as goal

pub returns-clause-valid : goal.returns-clause-valid
returns-clause-valid c = (items_in-reads _ _ c.self.invariant).valid
