use Rattle.lt_device.specs.Calls.{OnlyWrites, TouchesOnly}
use Rattle.lt_redo.specs.Slots.{InLogArea}
use Rattle.lt_redo.proofs.ClearLaws.{ClosedSoFar}
use Rattle.lt_redo.proofs.clear.close_gates.Given as goal

-- the gates of the slots so far are closed
abbrev pub invariant-loop-slot : goal.invariant-loop-slot
invariant-loop-slot g l = record {
  closed : ClosedSoFar l.geometry l.area l.slot (g.D.Device.state l.device);
  touches : TouchesOnly g.D.Device (InLogArea l.geometry l.area) l.fn.device l.device;
  calls : OnlyWrites g.D.Device ⊥ l.fn.device l.device;
}
