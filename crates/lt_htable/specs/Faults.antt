-- A look-up's fault among the faults of a scan.
use Rattle.lt_htable.specs.declared.faults.LookFault.{LookFault}
use Rattle.lt_htable.specs.declared.faults.LookFault.TheVariants.{Device, Damaged}
use Rattle.lt_htable.specs.declared.faults.ScanFault.{ScanFault}
use Rattle.lt_htable.specs.declared.faults.ScanFault.TheVariants as scans

-- the fault of a scan that this fault of a look-up is
abbrev pub scan_fault_of : LookFault → ScanFault
scan_fault_of Device = scans.Device
scan_fault_of (Damaged block) = scans.Damaged block
