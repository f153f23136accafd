use Rattle.std.proofs.Common.{◌≡◌, sym, ap, ◌∙◌, Some, arith}
use Rattle.lt_device.specs.State.{State}
use Rattle.lt_device.proofs.CallLaws.{reads_more}
use Rattle.lt_format.specs.Layout.{log_gate}
use Rattle.lt_redo.proofs.OpeningLaws.{first_open-closed, first_open-open, first_open-end}
use Rattle.lt_redo.proofs.opening.check_closed.Goals as goal

pub returns-then-branch-clause-damaged : goal.returns-then-branch-clause-damaged
returns-then-branch-clause-damaged g c = λ b is image told.
    let so_far = c.loop-slot.invariant in
    let opened = c.in_ok-read_gate.ensures.opened image (ap (λ (s : State). s.shown) so_far.calls.state ∙ told) ∙ c.if-branch.true in
    let at : c.log_gate.result ≡ b = cc (is) in
    so_far.closed image told ∙ first_open-open image (log_gate c.args.geometry.now c.args.area) c.loop-slot.slot c.args.geometry.now.slots c.loop-slot-test.true opened ∙ ap Some (sym c.log_gate.ensures ∙ at)

pub loop-slot-preserved : goal.loop-slot-preserved
loop-slot-preserved g c =
    let so_far = c.loop-slot.invariant in
    record {
      closed = λ image told.
          let closed = c.in_ok-read_gate.ensures.opened image (ap (λ (s : State). s.shown) so_far.calls.state ∙ told) ∙ c.if-branch.false in
          so_far.closed image told ∙ first_open-closed image (log_gate c.args.geometry.now c.args.area) c.loop-slot.slot c.args.geometry.now.slots c.loop-slot-test.true closed;
      calls = reads_more (omega (arith, c.loop-slot.auto.slot)) so_far.calls c.read_gate.ensures.calls;
    }

pub returns-clause-closed : goal.returns-clause-closed
returns-clause-closed g c = λ image told.
    c.loop-slot.invariant.closed image told ∙ first_open-end image (log_gate c.args.geometry.now c.args.area) c.loop-slot.slot c.args.geometry.now.slots c.loop-slot-test.false
