use Rattle.lt_device.proofs.Fits.{wrote_fit, ended_fit}
use Rattle.lt_device.proofs.Steps.{left_whole}
use Rattle.lt_device.proofs.laws.stays_fit.Goals as goal

pub returns-clause-write : goal.returns-clause-write
returns-clause-write c = wrote_fit

pub returns-clause-sync : goal.returns-clause-sync
returns-clause-sync c = ended_fit

pub returns-clause-left : goal.returns-clause-left
returns-clause-left c = λ n s left fit may. left_whole n s fit left may
