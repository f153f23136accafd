use Rattle.lt_compact.proofs.BeginLaws.{begun-shaped, goes-unreserved}
use Rattle.lt_compact.proofs.laws.jobs_begin.Goals as goal

pub returns-clause-shaped : goal.returns-clause-shaped
returns-clause-shaped c = begun-shaped

pub returns-clause-goes : goal.returns-clause-goes
returns-clause-goes c = goes-unreserved
