use Rattle.lt_device.proofs.Images.{crash_none}
use Rattle.lt_device.proofs.Steps.{write_near, write_any, sync_only, sync_shown}
use Rattle.lt_device.proofs.laws.images_now.Goals as goal

pub returns-clause-reads_as : goal.returns-clause-reads_as
returns-clause-reads_as c = λ n s image flags fit is told. record { shown = image; unsynced = flags; shown_is = is; unsynced_is = told; crash = crash_none image flags (fit.shown image is).pages }

pub returns-clause-write_only : goal.returns-clause-write_only
returns-clause-write_only c = λ n b old new left wrote may. write_near n b old new wrote left may

pub returns-clause-write_each : goal.returns-clause-write_each
returns-clause-write_each c = λ n b old new left page wrote is may. write_any n b old new wrote left page is may

pub returns-clause-sync_only : goal.returns-clause-sync_only
returns-clause-sync_only c = λ n s left fit may. sync_only n s fit left may

pub returns-clause-sync_reads : goal.returns-clause-sync_reads
returns-clause-sync_reads c = λ n s image flags fit is told. sync_shown n s fit image flags is told
