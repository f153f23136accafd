use Rattle.lt_work.proofs.OutlastLaws.{same-true, flushed-true, flushed-suits, alike-suits, suits-apart, suits-below}
use Rattle.lt_work.proofs.laws.work_outlasts.Goals as goal

pub returns-clause-same : goal.returns-clause-same
returns-clause-same c = same-true

pub returns-clause-flushed : goal.returns-clause-flushed
returns-clause-flushed c = flushed-true

pub returns-clause-suits : goal.returns-clause-suits
returns-clause-suits c = flushed-suits

pub returns-clause-alike : goal.returns-clause-alike
returns-clause-alike c = alike-suits

pub returns-clause-apart : goal.returns-clause-apart
returns-clause-apart c = suits-apart

pub returns-clause-below : goal.returns-clause-below
returns-clause-below c = suits-below
