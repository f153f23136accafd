use Rattle.lt_tables.proofs.FilterLaws.{HasFilters-more}
use Rattle.lt_tables.proofs.filtering.filters_grow.Goals as goal

pub returns : goal.returns
returns c = HasFilters-more
