use Rattle.std.proofs.Common.{◌≡◌, ℕ, ◌<◌, subst, List, false, arith}
use Rattle.lt_device.specs.State.{written}
use Rattle.lt_device.proofs.CallLaws.{writes_block}
use Rattle.lt_device.proofs.TouchLaws.{touches-writes}
use Rattle.lt_format.specs.Layout.{log_gate, gate_page}
use Rattle.lt_redo.specs.Slots.{InLogArea}
use Rattle.lt_redo.proofs.CommitLaws.{wrote_at, written_at}
use Rattle.lt_redo.proofs.ClearLaws.{ClosedSoFar-more}
use Rattle.lt_redo.proofs.clear.close_gates.Goals as goal

pub returns-in_err-write-clause-touches : goal.returns-in_err-write-clause-touches
returns-in_err-write-clause-touches g c =
    let inside : InLogArea c.args.geometry.now c.args.area c.log_gate.result = (omega (arith, c.log_gate.ensures), omega (arith, c.log_gate.ensures, c.loop-slot-test.true)) in
    touches-writes c.loop-slot.invariant.touches c.write.ensures.wrote inside

pub loop-slot-preserved : goal.loop-slot-preserved
loop-slot-preserved g c =
    let geometry = c.args.geometry.now in
    let inside : InLogArea geometry c.args.area c.log_gate.result = (omega (arith, c.log_gate.ensures), omega (arith, c.log_gate.ensures, c.loop-slot-test.true)) in
    let closed = subst (λ (page : List ℕ). g.D.Device.state c.write.new.self ≡ written (g.D.Device.state c.loop-slot.device) c.log_gate.result page) c.requires.closes c.in_ok-write.ensures.ok in
    let is = written_at (g.D.Device.state c.loop-slot.device) (g.D.Device.state c.write.new.self) (gate_page false) c.log_gate.ensures closed in
    let in_range : log_gate geometry c.args.area c.loop-slot.slot < g.D.Device.blocks c.loop-slot.device = omega (arith, c.loop-slot.invariant.calls.size, c.requires.within, c.loop-slot-test.true) in
    record {
      closed = ClosedSoFar-more geometry c.args.area c.loop-slot.slot _ _ _ c.loop-slot.invariant.closed (wrote_at c.log_gate.ensures c.write.ensures.wrote) in_range is;
      touches = touches-writes c.loop-slot.invariant.touches c.write.ensures.wrote inside;
      calls = writes_block c.loop-slot.invariant.calls c.write.ensures.size c.write.ensures.count c.write.ensures.cause;
    }
