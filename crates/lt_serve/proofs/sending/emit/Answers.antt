use Rattle.std.proofs.Common.{◌+◌, ◌≤◌, ℕ, List, length, subst, take, arith}
use Rattle.lt_io.specs.Streams.{Gains}
use Rattle.lt_serve.proofs.SendLaws.{sends-none, sends-more}
use Rattle.lt_serve.proofs.sending.emit.Goals as goal

pub loop-sink-init : goal.loop-sink-init
loop-sink-init g c = record { later = omega arith; sends = (0, sends-none _ c.args.out.now) }

pub loop-sink-preserved : goal.loop-sink-preserved
loop-sink-preserved g c =
    let so_far = c.loop-sink.invariant in
    let all = c.settled-in-loop-sink.ensures.text in
    record {
      later = omega (arith, so_far.later, c.in_ok-taken.ensures.cause.later);
      sends = (
        so_far.sends.0 + c.in_ok-taken.taken,
        sends-more so_far.sends.0 c.in_ok-taken.taken _ _ _ c.args.out.now c.loop-sink.out c.drop_front.new.self so_far.sends.1
            (subst (λ (xs : List ℕ). c.in_ok-taken.taken ≤ length xs) all c.in_ok-taken.ensures.fits)
            (subst (λ (xs : List ℕ). Gains (g.K.Sink.stands c.loop-sink.sink) (g.K.Sink.stands c.write.new.self) (take c.in_ok-taken.taken xs)) all c.in_ok-taken.ensures.taken)
            c.drop_front.ensures,
      );
    }
