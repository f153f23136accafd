use Rattle.lt_device.proofs.Steps.{now_since, since_now, write_since, write_since_keeps, sync_since, sync_since_keeps}
use Rattle.lt_device.proofs.Fits.{some_now}
use Rattle.lt_device.proofs.laws.images_since.Goals as goal

pub returns-clause-now : goal.returns-clause-now
returns-clause-now c = now_since

pub returns-clause-since_now : goal.returns-clause-since_now
returns-clause-since_now c = since_now

pub returns-clause-write_adds : goal.returns-clause-write_adds
returns-clause-write_adds c = λ n b old new t left wrote since. write_since n b old new wrote t left since

pub returns-clause-write_keeps : goal.returns-clause-write_keeps
returns-clause-write_keeps c = λ n b old new t left wrote since. write_since_keeps n b old new wrote t left since

pub returns-clause-sync_adds : goal.returns-clause-sync_adds
returns-clause-sync_adds c = λ n s t left fit le since. sync_since n s fit t left le since

pub returns-clause-sync_keeps : goal.returns-clause-sync_keeps
returns-clause-sync_keeps c = λ n s t left fit le since. sync_since_keeps n s fit t left le since

pub returns-clause-some : goal.returns-clause-some
returns-clause-some c = some_now
