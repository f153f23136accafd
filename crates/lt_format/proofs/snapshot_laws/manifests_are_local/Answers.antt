use Rattle.lt_format.proofs.LocalLaws.{snapshot-local, manifest-local}
use Rattle.lt_format.proofs.snapshot_laws.manifests_are_local.Goals as goal

pub returns-clause-snapshot : goal.returns-clause-snapshot
returns-clause-snapshot c = snapshot-local

pub returns-clause-manifest : goal.returns-clause-manifest
returns-clause-manifest c = manifest-local
