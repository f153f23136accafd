use Rattle.lt_format.proofs.RegionLaws.{regions-apart, regions-within}
use Rattle.lt_format.proofs.laws.regions_are_apart.Goals as goal

pub returns-clause-apart : goal.returns-clause-apart
returns-clause-apart c = regions-apart

pub returns-clause-within : goal.returns-clause-within
returns-clause-within c = regions-within
