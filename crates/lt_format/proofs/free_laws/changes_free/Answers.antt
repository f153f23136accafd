use Rattle.lt_format.proofs.FreeLaws.{change-named, freed-was, freed-once}
use Rattle.lt_format.proofs.free_laws.changes_free.Goals as goal

pub returns-clause-named : goal.returns-clause-named
returns-clause-named c = change-named

pub returns-clause-freed : goal.returns-clause-freed
returns-clause-freed c = freed-was

pub returns-clause-once : goal.returns-clause-once
returns-clause-once c = freed-once
