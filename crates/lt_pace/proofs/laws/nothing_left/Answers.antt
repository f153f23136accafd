use Rattle.lt_pace.proofs.CandidateLaws.{none-exhausted, none-settled}
use Rattle.lt_pace.proofs.laws.nothing_left.Goals as goal

pub returns-clause-settled : goal.returns-clause-settled
returns-clause-settled c = none-settled

pub returns-clause-exhausted : goal.returns-clause-exhausted
returns-clause-exhausted c = none-exhausted
