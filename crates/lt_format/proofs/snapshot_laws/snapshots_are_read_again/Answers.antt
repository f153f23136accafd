use Rattle.lt_format.proofs.SnapshotReadLaws.{snapshot_read-reads, pages-read, pages-fit}
use Rattle.lt_format.proofs.snapshot_laws.snapshots_are_read_again.Goals as goal

pub returns-clause-bytes : goal.returns-clause-bytes
returns-clause-bytes c = snapshot_read-reads

pub returns-clause-pages : goal.returns-clause-pages
returns-clause-pages c = pages-read

pub returns-clause-room : goal.returns-clause-room
returns-clause-room c = pages-fit
