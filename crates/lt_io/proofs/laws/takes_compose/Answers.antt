use Rattle.lt_io.proofs.Flows.{Takes-none, Takes-more}
use Rattle.lt_io.proofs.laws.takes_compose.Goals as goal

pub returns-clause-none : goal.returns-clause-none
returns-clause-none c = Takes-none

pub returns-clause-more : goal.returns-clause-more
returns-clause-more c = Takes-more
