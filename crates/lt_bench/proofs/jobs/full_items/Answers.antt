use Rattle.std.proofs.Common.{◌≡◌, sym, subst}
use Rattle.lt_tables.specs.Table.{newest}
use Rattle.lt_tables.proofs.NewestLaws.{newest-newest}
use Rattle.lt_bench.proofs.jobs.full_items.Goals as goal

pub returns : goal.returns
returns c = subst (λ items. newest items ≡ items) (sym c.in_ok-items.ensures) (newest-newest c.loop-number.memory)
