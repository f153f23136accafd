use Rattle.lt_tables.proofs.NewestLaws.{newest_of-newest}
use Rattle.lt_tables.proofs.VersionLaws.{get_versions}
use Rattle.lt_tables.proofs.reading.newest_counts.Goals as goal

pub returns-clause-value : goal.returns-clause-value
returns-clause-value c = get_versions

pub returns-clause-kept : goal.returns-clause-kept
returns-clause-kept c = λ versions key. newest_of-newest key versions
