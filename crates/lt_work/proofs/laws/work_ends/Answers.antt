use Rattle.lt_work.proofs.EndLaws.{advances-less, commits-less, exhausted-image, settled-image}
use Rattle.lt_work.proofs.laws.work_ends.Goals as goal

pub returns-clause-advances : goal.returns-clause-advances
returns-clause-advances c = advances-less

pub returns-clause-commits : goal.returns-clause-commits
returns-clause-commits c = commits-less

pub returns-clause-settled : goal.returns-clause-settled
returns-clause-settled c = settled-image

pub returns-clause-exhausted : goal.returns-clause-exhausted
returns-clause-exhausted c = exhausted-image
