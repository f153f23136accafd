use Rattle.lt_work.proofs.OutlastLaws.{rest-suits, rest-true}
use Rattle.lt_work.proofs.laws.work_begins.Goals as goal

pub returns-clause-suits : goal.returns-clause-suits
returns-clause-suits c = rest-suits

pub returns-clause-true_on : goal.returns-clause-true_on
returns-clause-true_on c = rest-true
