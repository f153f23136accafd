use Rattle.std.proofs.Common.{ℕ, ◌≤◌, length}
use Rattle.lt_serve.specs.Sending.{Sends}
use Rattle.lt_serve.proofs.sending.emit.Given as goal

abbrev pub invariant-loop-sink : goal.invariant-loop-sink
invariant-loop-sink g l = record {
  later : g.K.Sink.faults l.initial.sink ≤ g.K.Sink.faults l.sink;
  sends : (count : ℕ) × Sends count (g.K.Sink.stands l.initial.sink) (g.K.Sink.stands l.sink) l.initial.out l.out;
}

abbrev pub decreases-loop-sink : goal.decreases-loop-sink
decreases-loop-sink g l = length l.out.settled_text
