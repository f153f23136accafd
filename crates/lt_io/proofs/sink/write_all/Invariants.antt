use Rattle.std.proofs.Common.{◌-◌, ◌≤◌, length, take}
use Rattle.lt_io.specs.Streams.{Gains}
use Rattle.lt_io.proofs.sink.write_all.Given as goal

abbrev pub invariant-loop-written : goal.invariant-loop-written
invariant-loop-written g l = record {
  within : l.written ≤ length l.bytes;
  later : g.K.Sink.faults l.initial.sink ≤ g.K.Sink.faults l.sink;
  gained : Gains (g.K.Sink.stands l.initial.sink) (g.K.Sink.stands l.sink) (take l.written l.bytes);
}

abbrev pub decreases-loop-written : goal.decreases-loop-written
decreases-loop-written g l = length l.bytes - l.written
