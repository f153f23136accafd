use Rattle.lt_tables.proofs.NewestLaws.{batch-newest}
use Rattle.search_tests.proofs.tests.items_of.Goals as goal

pub returns : goal.returns
returns c = batch-newest c.put.new.table c.batch.result c.batch.ensures
