use Rattle.lt_bloom.proofs.FilterLaws.{AddsPositions-none}
use Rattle.lt_bloom.proofs.filters.add_positions.Goals as goal

pub loop-position-init : goal.loop-position-init
loop-position-init c = AddsPositions-none c.args.page.now c.args.column
