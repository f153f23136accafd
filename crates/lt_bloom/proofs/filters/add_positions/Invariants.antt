use Rattle.std.proofs.Common.{take}
use Rattle.lt_tables.specs.Filter.{AddsPositions}
use Rattle.lt_bloom.proofs.filters.add_positions.Given as goal

abbrev pub invariant-loop-position : goal.invariant-loop-position
invariant-loop-position l = AddsPositions l.initial.page l.page l.column (take l.position-index l.positions)
