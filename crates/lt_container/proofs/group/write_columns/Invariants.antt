use Rattle.lt_device.specs.Calls.{FillsOnly}
use Rattle.lt_container.specs.Columns.{HasColumns, InColumns}
use Rattle.lt_container.proofs.group.write_columns.Given as goal

-- the blocks of the columns so far
abbrev pub invariant-loop-column : goal.invariant-loop-column
invariant-loop-column g l = record {
  columns : HasColumns l.filters l.first l.column (g.D.Device.state l.device).shown;
  fills : FillsOnly g.D.Device (InColumns l.first) ⊥ l.fn.device l.device;
}
