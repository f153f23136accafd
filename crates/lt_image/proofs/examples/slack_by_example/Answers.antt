use Rattle.lt_image.proofs.ExampleLaws.{delete-slack, version-slack, extents-slack, no-slack}
use Rattle.lt_image.proofs.examples.slack_by_example.Goals as goal

pub returns-clause-delete : goal.returns-clause-delete
returns-clause-delete c = delete-slack

pub returns-clause-version : goal.returns-clause-version
returns-clause-version c = version-slack

pub returns-clause-extents : goal.returns-clause-extents
returns-clause-extents c = extents-slack

pub returns-clause-none : goal.returns-clause-none
returns-clause-none c = no-slack
