use Rattle.lt_image.proofs.EndLaws.{digits-decide}
use Rattle.lt_image.proofs.ending.digits_decide.Goals as goal

pub returns : goal.returns
returns c = digits-decide
