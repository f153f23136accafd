use Rattle.lt_tables.proofs.CoverLaws.{covers-filter_block}
use Rattle.lt_tables.proofs.filtering.filters_cover.Goals as goal

pub returns : goal.returns
returns c = covers-filter_block
