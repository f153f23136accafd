use Rattle.std.proofs.Common.{◌∙◌, sym, ap, length}
use Rattle.lt_bucket.proofs.ItemsOf.{items_in-reads}
use Rattle.lt_bucket.proofs.reading.Items.len.Goals as goal

pub returns : goal.returns
returns c = sym (items_in-reads _ _ c.self.invariant).count_is ∙ ap length c.self.view_is
