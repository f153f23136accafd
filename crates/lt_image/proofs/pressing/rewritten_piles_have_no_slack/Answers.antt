use Rattle.lt_image.proofs.SlackLaws.{rewritten-not_slack}
use Rattle.lt_image.proofs.pressing.rewritten_piles_have_no_slack.Goals as goal

pub returns : goal.returns
returns c = rewritten-not_slack
