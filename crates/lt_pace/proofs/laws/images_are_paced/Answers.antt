use Rattle.lt_pace.proofs.CandidateLaws.{settled-paced, small-paced}
use Rattle.lt_pace.proofs.laws.images_are_paced.Goals as goal

pub returns-clause-settled : goal.returns-clause-settled
returns-clause-settled c = settled-paced

pub returns-clause-small : goal.returns-clause-small
returns-clause-small c = small-paced
