use Rattle.lt_line.proofs.HeldLaws.{command_of-kept, kept_of-append, kept_of-none, kept_of-nothing}
use Rattle.lt_line.proofs.laws.kept_is_enough.Goals as goal

pub returns-clause-command : goal.returns-clause-command
returns-clause-command c = command_of-kept

pub returns-clause-goes_on : goal.returns-clause-goes_on
returns-clause-goes_on c = kept_of-append

pub returns-clause-none : goal.returns-clause-none
returns-clause-none c = kept_of-none

pub returns-clause-nothing : goal.returns-clause-nothing
returns-clause-nothing c = kept_of-nothing
