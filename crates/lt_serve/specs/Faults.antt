-- Faults of the layers below as faults of a round, and as answers of serving.
use Rattle.lt_layout.specs.declared.fault.OpenFault.{OpenFault}
use Rattle.lt_layout.specs.declared.fault.OpenFault.TheVariants as opens
use Rattle.lt_store.specs.declared.faults.WriteFault.{WriteFault}
use Rattle.lt_store.specs.declared.faults.WriteFault.TheVariants as writes
use Rattle.lt_serve.specs.declared.faults.RoundFault.{RoundFault}
use Rattle.lt_serve.specs.declared.faults.RoundFault.TheVariants as rounds
use Rattle.lt_serve.specs.declared.served.Served.{Served}
use Rattle.lt_serve.specs.declared.served.Served.TheVariants as served

-- the fault of a round that this fault of a write is
abbrev pub round_fault_of : WriteFault → RoundFault
round_fault_of writes.Device = rounds.Device
round_fault_of (writes.Damaged block) = rounds.Damaged block
round_fault_of writes.NoMemory = rounds.NoMemory

-- what serving answers where a round failed by this fault
abbrev pub served_of : RoundFault → Served
served_of rounds.Device = served.Device
served_of (rounds.Damaged block) = served.Damaged block
served_of rounds.NoMemory = served.NoMemory

-- what serving answers where opening failed by this fault
abbrev pub unopened_of : OpenFault → Served
unopened_of opens.Device = served.Device
unopened_of (opens.Damaged block) = served.Damaged block
unopened_of opens.NoMemory = served.NoMemory

-- the round failed, and not at a damaged block
abbrev pub IsLost : RoundFault → Type 0
IsLost (rounds.Damaged block) = ⊥
IsLost fault = Unit {0}

-- serving stopped somewhere
abbrev pub IsHalt : Served → Type 0
IsHalt served.Sink = Unit {0}
IsHalt served.Device = Unit {0}
IsHalt served.NoMemory = Unit {0}
IsHalt status = ⊥

-- what may end a round with its emission
abbrev pub IsStepEnd : Served → Type 0
IsStepEnd served.Sink = Unit {0}
IsStepEnd served.Device = Unit {0}
IsStepEnd (served.Damaged block) = Unit {0}
IsStepEnd served.NoMemory = Unit {0}
IsStepEnd status = ⊥

-- what serving may end with at the end of input
abbrev pub IsEnd : Served → Type 0
IsEnd served.Done = Unit {0}
IsEnd served.Sink = Unit {0}
IsEnd status = ⊥

-- what a turn may end serving with
abbrev pub IsTurnEnd : Served → Type 0
IsTurnEnd served.Turns = ⊥
IsTurnEnd status = Unit {0}
