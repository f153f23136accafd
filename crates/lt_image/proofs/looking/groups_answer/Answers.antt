use Rattle.lt_image.proofs.GroupAnswerLaws.{groups-answer}
use Rattle.lt_image.proofs.looking.groups_answer.Goals as goal

pub returns : goal.returns
returns c = groups-answer
