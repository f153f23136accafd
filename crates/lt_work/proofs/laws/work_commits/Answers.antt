use Rattle.lt_work.proofs.CommitLaws.{can-commit, commit-freed, commit-in_use, commit-names, commit-once, commit-stands, commit-suits, commit-true}
use Rattle.lt_work.proofs.laws.work_commits.Goals as goal

pub returns-clause-may : goal.returns-clause-may
returns-clause-may c = can-commit

pub returns-clause-names : goal.returns-clause-names
returns-clause-names c = commit-names

pub returns-clause-stands : goal.returns-clause-stands
returns-clause-stands c = commit-stands

pub returns-clause-true_on : goal.returns-clause-true_on
returns-clause-true_on c = commit-true

pub returns-clause-suits : goal.returns-clause-suits
returns-clause-suits c = commit-suits

pub returns-clause-freed : goal.returns-clause-freed
returns-clause-freed c = commit-freed

pub returns-clause-once : goal.returns-clause-once
returns-clause-once c = commit-once

pub returns-clause-in_use : goal.returns-clause-in_use
returns-clause-in_use c = λ m taken given w change can. commit-in_use m taken w change can given
