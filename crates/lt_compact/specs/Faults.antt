-- Faults of the layers below as faults of a step.
use Rattle.lt_htable.specs.declared.faults.BuildFault.{BuildFault}
use Rattle.lt_htable.specs.declared.faults.BuildFault.TheVariants as builds
use Rattle.lt_htable.specs.declared.faults.ScanFault.{ScanFault}
use Rattle.lt_htable.specs.declared.faults.ScanFault.TheVariants as scans
use Rattle.lt_compact.specs.declared.faults.JobFault.{JobFault}
use Rattle.lt_compact.specs.declared.faults.JobFault.TheVariants as steps

-- a fault of scanning a table, with its block, as one of a step
abbrev pub fault_of_scan : ScanFault → JobFault
fault_of_scan scans.Device = steps.Device
fault_of_scan (scans.Damaged block) = steps.Damaged block
fault_of_scan scans.NoMemory = steps.NoMemory

-- a fault of building a table or writing a group, as one of a step
abbrev pub fault_of_build : BuildFault → JobFault
fault_of_build builds.Device = steps.Device
fault_of_build builds.NoMemory = steps.NoMemory
