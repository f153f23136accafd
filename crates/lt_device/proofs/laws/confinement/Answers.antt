use Rattle.lt_device.proofs.Runs.{confined_begins, confined_widens, confined_writes, confined_joins, confined_within, confined_keeps}
use Rattle.lt_device.proofs.laws.confinement.Goals as goal

pub returns-clause-begins : goal.returns-clause-begins
returns-clause-begins g c = confined_begins

pub returns-clause-widens : goal.returns-clause-widens
returns-clause-widens g c = λ old new run more. confined_widens run more

pub returns-clause-writes : goal.returns-clause-writes
returns-clause-writes g c = λ n b old mid new wrote so_far inside. confined_writes wrote so_far inside

pub returns-clause-joins : goal.returns-clause-joins
returns-clause-joins g c = λ old mid new then first. confined_joins then first

pub returns-clause-within : goal.returns-clause-within
returns-clause-within g c = λ old mid new then first within. confined_within then first within

pub returns-clause-keeps : goal.returns-clause-keeps
returns-clause-keeps g c = λ old mid new run so_far keeps. confined_keeps run so_far keeps
