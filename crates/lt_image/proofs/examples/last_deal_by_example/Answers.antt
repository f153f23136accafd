use Rattle.lt_image.proofs.ExampleLaws.{last-shares, last-kept, last-new, last-needs}
use Rattle.lt_image.proofs.examples.last_deal_by_example.Goals as goal

pub returns-clause-shares : goal.returns-clause-shares
returns-clause-shares c = last-shares

pub returns-clause-kept : goal.returns-clause-kept
returns-clause-kept c = last-kept

pub returns-clause-new : goal.returns-clause-new
returns-clause-new c = last-new

pub returns-clause-needs : goal.returns-clause-needs
returns-clause-needs c = last-needs
