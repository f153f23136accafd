-- Faults of the layers below as faults of a store.
use Rattle.lt_htable.specs.declared.faults.BuildFault.{BuildFault}
use Rattle.lt_htable.specs.declared.faults.BuildFault.TheVariants as builds
use Rattle.lt_htable.specs.declared.faults.LookFault.{LookFault}
use Rattle.lt_htable.specs.declared.faults.LookFault.TheVariants as looks
use Rattle.lt_node.specs.declared.fault.CommitFault.{CommitFault}
use Rattle.lt_node.specs.declared.fault.CommitFault.TheVariants as commits
use Rattle.lt_store.specs.declared.faults.FlushFault.{FlushFault}
use Rattle.lt_store.specs.declared.faults.FlushFault.TheVariants as flushes
use Rattle.lt_store.specs.declared.faults.InitFault.{InitFault}
use Rattle.lt_store.specs.declared.faults.InitFault.TheVariants as makes
use Rattle.lt_store.specs.declared.faults.WriteFault.{WriteFault}
use Rattle.lt_store.specs.declared.faults.WriteFault.TheVariants as writes

-- a fault of building a table, as one of a flush
abbrev pub fault_of_build : BuildFault → FlushFault
fault_of_build builds.Device = flushes.Device
fault_of_build builds.NoMemory = flushes.NoMemory

-- a fault of committing a manifest, as one of a flush
abbrev pub fault_of_commit : CommitFault → FlushFault
fault_of_commit commits.Device = flushes.Device
fault_of_commit commits.NoMemory = flushes.NoMemory

-- a fault of committing a manifest, as one of making a store
abbrev pub init_fault_of : CommitFault → InitFault
init_fault_of commits.Device = makes.Device
init_fault_of commits.NoMemory = makes.NoMemory

-- a fault of looking a key up, with its block, as one of a store's call
abbrev pub fault_of_look : LookFault → WriteFault
fault_of_look looks.Device = writes.Device
fault_of_look (looks.Damaged block) = writes.Damaged block

-- a fault of a flush, as one of a store's call
abbrev pub fault_of_flush : FlushFault → WriteFault
fault_of_flush flushes.Device = writes.Device
fault_of_flush flushes.NoMemory = writes.NoMemory
