use Rattle.std.proofs.Common.{refl}
use Rattle.lt_page.proofs.Zeros.{IsBlock-zero_block, zero_block_from_replicate}
use Rattle.lt_page.proofs.page.Page.new.Goals as goal

pub returns-in-Ok-clause-zeros : goal.returns-in-Ok-clause-zeros
returns-in-Ok-clause-zeros c = zero_block_from_replicate 4096 _ refl c.fill.ensures

pub returns-in-Ok-clause-block : goal.returns-in-Ok-clause-block
returns-in-Ok-clause-block c = IsBlock-zero_block _ (returns-in-Ok-clause-zeros c)

pub invariant_of-result : goal.invariant_of-result
invariant_of-result c = IsBlock-zero_block _ (returns-in-Ok-clause-zeros c)
