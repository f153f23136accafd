use Rattle.std.proofs.Common.{◌*◌, ◌≤◌, length}
use Rattle.lt_device.specs.Calls.{OnlyReads}
use Rattle.lt_htable.proofs.ScanLaws.{IsScannedTo}
use Rattle.lt_htable.proofs.scanning.scan.Given as goal

-- the items of the columns so far
abbrev pub invariant-loop-column : goal.invariant-loop-column
invariant-loop-column g l = record {
  scanned : IsScannedTo l.column (g.D.Device.state l.fn.device).shown l.first l.items.items;
  few : length l.items.items ≤ 816 * l.column;
  calls : OnlyReads g.D.Device l.column ⊥ l.fn.device l.device;
}
