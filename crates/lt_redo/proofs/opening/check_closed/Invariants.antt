use Rattle.std.proofs.Common.{◌≡◌, ◌-◌}
use Rattle.std.specs.Option.{ForSome}
use Rattle.lt_device.specs.Calls.{OnlyReads}
use Rattle.lt_format.specs.Layout.{log_gate, first_open}
use Rattle.lt_redo.proofs.opening.check_closed.Given as goal

-- the gates so far are closed
abbrev pub invariant-loop-slot : goal.invariant-loop-slot
invariant-loop-slot g l = record {
  closed : ForSome (g.D.Device.state l.fn.device).shown (λ image.
      first_open image (log_gate l.geometry l.area) l.from (l.geometry.slots - l.from) ≡ first_open image (log_gate l.geometry l.area) l.slot (l.geometry.slots - l.slot));
  calls : OnlyReads g.D.Device (l.slot - l.from) ⊥ l.fn.device l.device;
}
