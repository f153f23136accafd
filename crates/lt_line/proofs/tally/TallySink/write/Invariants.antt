use Rattle.std.proofs.Common.{length, ◌-◌, ◌≤◌, take}
use Rattle.lt_io.specs.Streams.{Gains}
use Rattle.lt_line.specs.Tally.{IsTallyOf}
use Rattle.lt_line.proofs.tally.TallySink.write.Given as goal

abbrev pub invariant-loop-taken : goal.invariant-loop-taken
invariant-loop-taken l = record {
  within : l.taken ≤ length l.bytes;
  gained : Gains (IsTallyOf l.initial.self) (IsTallyOf l.self) (take l.taken l.bytes);
}

abbrev pub decreases-loop-taken : goal.decreases-loop-taken
decreases-loop-taken l = length l.bytes - l.taken
