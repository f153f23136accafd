use Rattle.lt_image.proofs.ExampleLaws.{rewriting-share, rewriting-needs, slack-before, slack-after}
use Rattle.lt_image.proofs.examples.rewriting_by_example.Goals as goal

pub returns-clause-share : goal.returns-clause-share
returns-clause-share c = rewriting-share

pub returns-clause-needs : goal.returns-clause-needs
returns-clause-needs c = rewriting-needs

pub returns-clause-before : goal.returns-clause-before
returns-clause-before c = slack-before

pub returns-clause-after : goal.returns-clause-after
returns-clause-after c = slack-after
