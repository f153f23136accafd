use Rattle.lt_image.proofs.GroupAnswerLaws.{moved-sent}
use Rattle.lt_image.proofs.looking.moved_keys_are_sent.Goals as goal

pub returns : goal.returns
returns c = moved-sent
