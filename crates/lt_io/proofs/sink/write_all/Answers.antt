use Rattle.std.proofs.Common.{arith, length-take-le, length-drop, ℕ}
use Rattle.lt_io.proofs.Flows.{Gains-written, GainsPart-stopped}
use Rattle.lt_io.proofs.sink.write_all.Goals as goal
use Rattle.lt_terms.proofs.CauseLaws.{OnErr-always}

pub returns-in_err-written-clause-err : goal.returns-in_err-written-clause-err
returns-in_err-written-clause-err g c =
    OnErr-always c.from_residual.result (GainsPart-stopped _ _ _ c.args.bytes.now c.loop-written.written c.loop-written-test.true c.loop-written.invariant.gained c.in_err-written.ensures.err)

pub loop-written-preserved : goal.loop-written-preserved
loop-written-preserved g c = record {
  within = omega (arith, c.in_ok-written.ensures.fits, length-take-le {A = ℕ}, length-drop {A = ℕ});
  later = omega (arith, c.in_ok-written.ensures.cause.later);
  gained = Gains-written _ _ _ c.args.bytes.now c.loop-written.written c.in_ok-written.field-0 c.loop-written.invariant.gained c.in_ok-written.ensures.taken;
}
