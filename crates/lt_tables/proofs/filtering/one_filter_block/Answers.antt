use Rattle.lt_tables.proofs.FilterLaws.{HasFilters-block}
use Rattle.lt_tables.proofs.filtering.one_filter_block.Goals as goal

pub returns : goal.returns
returns c = HasFilters-block
