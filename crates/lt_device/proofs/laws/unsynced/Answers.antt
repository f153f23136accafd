use Rattle.lt_device.proofs.Rest.{unsynced_writes, unsynced_syncs, unsynced_none, unsynced_near}
use Rattle.lt_device.proofs.laws.unsynced.Goals as goal

pub returns-clause-writes : goal.returns-clause-writes
returns-clause-writes g c = λ n b old new wrote so_far inside. unsynced_writes wrote so_far inside

pub returns-clause-syncs : goal.returns-clause-syncs
returns-clause-syncs g c = λ n old new sync so_far. unsynced_syncs sync so_far

pub returns-clause-none : goal.returns-clause-none
returns-clause-none g c = λ old new is. unsynced_none old is

pub returns-clause-near : goal.returns-clause-near
returns-clause-near g c = λ s image left rest is may. unsynced_near rest image left is may
