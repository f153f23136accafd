use Rattle.lt_image.proofs.EndLaws.{digits-within, digits-below}
use Rattle.lt_image.proofs.ending.digits_are_small.Goals as goal

pub returns-clause-within : goal.returns-clause-within
returns-clause-within c = digits-within

pub returns-clause-below : goal.returns-clause-below
returns-clause-below c = digits-below
