use Rattle.lt_tables.proofs.NewestLaws.{newest-newest}
use Rattle.lt_tables.proofs.RankedCutLaws.{cut-ranked, cut-valid}
use Rattle.lt_tables.proofs.placing.cuts_keep_ranks.Goals as goal

pub returns-clause-newest : goal.returns-clause-newest
returns-clause-newest c = newest-newest

pub returns-clause-ranked : goal.returns-clause-ranked
returns-clause-ranked c = cut-ranked

pub returns-clause-valid : goal.returns-clause-valid
returns-clause-valid c = cut-valid
