use Rattle.lt_image.proofs.PressureLaws.{settled-same, paced-same, exhausted-same, node-needs-same, node-waits-same, node-slack-same}
use Rattle.lt_image.proofs.pressing.pressure_is_local.Goals as goal

pub returns-clause-settled : goal.returns-clause-settled
returns-clause-settled c = settled-same

pub returns-clause-paced : goal.returns-clause-paced
returns-clause-paced c = paced-same

pub returns-clause-exhausted : goal.returns-clause-exhausted
returns-clause-exhausted c = exhausted-same

pub returns-clause-waiting : goal.returns-clause-waiting
returns-clause-waiting c = node-waits-same

pub returns-clause-needed : goal.returns-clause-needed
returns-clause-needed c = node-needs-same

pub returns-clause-slack : goal.returns-clause-slack
returns-clause-slack c = node-slack-same
