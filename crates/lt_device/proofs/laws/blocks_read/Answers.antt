use Rattle.lt_device.proofs.Steps.{written_shown, wrote_others, ended_shown}
use Rattle.lt_device.proofs.laws.blocks_read.Goals as goal

pub returns-clause-written : goal.returns-clause-written
returns-clause-written c = λ n b old new page image fit below is shown. written_shown n b old new page fit below is image shown

pub returns-clause-others : goal.returns-clause-others
returns-clause-others c = wrote_others

pub returns-clause-synced : goal.returns-clause-synced
returns-clause-synced c = ended_shown
