use Rattle.lt_tables.proofs.FilterLaws.{HasFilters-nil}
use Rattle.lt_tables.proofs.filtering.filters_at_first.Goals as goal

pub returns : goal.returns
returns c = HasFilters-nil
