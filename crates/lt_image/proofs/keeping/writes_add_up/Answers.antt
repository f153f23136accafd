use Rattle.lt_image.proofs.KeptLaws.{no_writes, one_write, writes-joined}
use Rattle.lt_image.proofs.keeping.writes_add_up.Goals as goal

pub returns-clause-none : goal.returns-clause-none
returns-clause-none c = no_writes

pub returns-clause-one : goal.returns-clause-one
returns-clause-one c = one_write

pub returns-clause-joined : goal.returns-clause-joined
returns-clause-joined c = writes-joined
