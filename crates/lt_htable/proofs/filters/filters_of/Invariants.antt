use Rattle.std.proofs.Common.{take}
use Rattle.lt_tables.specs.Filter.{HasFilters}
use Rattle.lt_htable.proofs.filters.filters_of.Given as goal

-- the filters of the items so far
abbrev pub invariant-loop-item : goal.invariant-loop-item
invariant-loop-item l = HasFilters (take l.item-index l.items) l.filters
