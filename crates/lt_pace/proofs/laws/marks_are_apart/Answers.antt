use Rattle.lt_pace.proofs.MarkLaws.{clear-one, mark-one}
use Rattle.lt_pace.proofs.laws.marks_are_apart.Goals as goal

pub returns-clause-marked : goal.returns-clause-marked
returns-clause-marked c = mark-one

pub returns-clause-unmarked : goal.returns-clause-unmarked
returns-clause-unmarked c = clear-one
