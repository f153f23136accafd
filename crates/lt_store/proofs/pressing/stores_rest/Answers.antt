use Rattle.lt_store.proofs.PressureLaws.{open-exhausted, open-settled, open-settled-paced, open-small-paced}
use Rattle.lt_store.proofs.pressing.stores_rest.Goals as goal

pub returns-clause-settled : goal.returns-clause-settled
returns-clause-settled c = open-settled

pub returns-clause-rested : goal.returns-clause-rested
returns-clause-rested c = open-settled-paced

pub returns-clause-exhausted : goal.returns-clause-exhausted
returns-clause-exhausted c = open-exhausted

pub returns-clause-small : goal.returns-clause-small
returns-clause-small c = open-small-paced
