use Rattle.lt_tables.proofs.GroupLaws.{groups-cover}
use Rattle.lt_tables.proofs.grouping.groups_cover.Goals as goal

pub returns : goal.returns
returns c = groups-cover
