use Rattle.std.proofs.Common.{refl}
use Rattle.lt_page.proofs.Zeros.{IsBlock-zero_block, zero_block_from_replicate}
use Rattle.lt_page.proofs.page.Page.clear.Goals as goal

pub returns-clause-zeros : goal.returns-clause-zeros
returns-clause-zeros c = zero_block_from_replicate 4096 _ refl refl

pub returns-clause-block : goal.returns-clause-block
returns-clause-block c = IsBlock-zero_block _ (returns-clause-zeros c)

pub invariant_of-self : goal.invariant_of-self
invariant_of-self c = IsBlock-zero_block _ (zero_block_from_replicate 4096 _ refl refl)
