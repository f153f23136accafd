use Rattle.std.proofs.Common.{false}
use Rattle.lt_device.specs.Calls.{FillsOnly}
use Rattle.lt_format.specs.Layout.{edit_gate, gate_page}
use Rattle.lt_manifest.specs.Written.{AreWritten, ComesFrom, InEdits}
use Rattle.lt_manifest.proofs.area.close_edits.Given as goal

-- the blocks so far are written
abbrev pub invariant-loop-slot : goal.invariant-loop-slot
invariant-loop-slot g l = record {
  written : AreWritten (edit_gate l.area) (λ k. gate_page false) l.slot (g.D.Device.state l.device).shown;
  fills : FillsOnly g.D.Device (InEdits l.area) ⊥ l.fn.device l.device;
  kept : ComesFrom (InEdits l.area) (g.D.Device.state l.fn.device).shown (g.D.Device.state l.device).shown;
}
