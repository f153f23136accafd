use Rattle.std.proofs.Common.{rules, ◌<◌, false, arith}
use Rattle.lt_format.specs.Layout.{edit_gate, gate_page}
use Rattle.lt_manifest.specs.Written.{InEdits}
use Rattle.lt_device.proofs.TouchLaws.{fills-writes, touches-writes}
use Rattle.lt_manifest.proofs.WriteLaws.{written-more, comes-writes}
use Rattle.lt_manifest.proofs.area.close_edits.Goals as goal

pub returns-in_err-write-clause-fills : goal.returns-in_err-write-clause-fills
returns-in_err-write-clause-fills g c =
    let inside : InEdits c.args.area c.edit_gate.result = (omega (arith, c.edit_gate.ensures), omega (arith, c.edit_gate.ensures, c.loop-slot-test.true)) in
    record { touches = touches-writes c.loop-slot.invariant.fills.touches c.write.ensures.wrote inside; no_sync = search rules; calls = search rules }

pub returns-in_err-write-clause-kept : goal.returns-in_err-write-clause-kept
returns-in_err-write-clause-kept g c =
    let inside : InEdits c.args.area c.edit_gate.result = (omega (arith, c.edit_gate.ensures), omega (arith, c.edit_gate.ensures, c.loop-slot-test.true)) in
    comes-writes (InEdits c.args.area) _ _ _ _ _ c.write.ensures.wrote inside c.loop-slot.invariant.kept

pub loop-slot-preserved : goal.loop-slot-preserved
loop-slot-preserved g c =
    let so_far = c.loop-slot.invariant in
    let write = c.write.ensures in
    let inside : InEdits c.args.area c.edit_gate.result = (omega (arith, c.edit_gate.ensures), omega (arith, c.edit_gate.ensures, c.loop-slot-test.true)) in
    let in_range : c.edit_gate.result < g.D.Device.blocks c.loop-slot.device = omega (arith, c.edit_gate.ensures, c.loop-slot-test.true, so_far.fills.calls.size, c.requires.within, c.requires.area) in
    record {
      written = written-more (edit_gate c.args.area) (λ k. gate_page false) c.loop-slot.slot _ _ _ _ _ c.edit_gate.ensures (λ k earlier e. omega arith) in_range write.wrote.fit c.in_ok-write.ensures.ok c.write_gate.ensures so_far.written;
      fills = fills-writes so_far.fills write.wrote inside write.size write.count write.cause;
      kept = comes-writes (InEdits c.args.area) _ _ _ _ _ write.wrote inside so_far.kept;
    }
