-- What a sink in memory stands for.
use Rattle.std.specs.Prelude.{◌≤◌, vec_len, vec_capacity}
use Rattle.lt_io.specs.Memory.{MemoryOutput}
use Rattle.lt_io.specs.declared.mem_sink.MemSink.TheInside.{Inside}

-- the sink, seen from outside
abbrev pub output_of : Inside → MemoryOutput
output_of sink = record {
  taken_bytes = sink.taken.items;
  room_limit = sink.room;
  step_limit = sink.step;
  failing_calls = sink.failing.items;
  next_call = sink.next;
  fault_count = sink.faults;
}

-- a sink takes at least one byte a write, and has room for all that it may take
pub record HasRoom (sink : Inside) : Type 0 where
  pub step : 1 ≤ sink.step
  pub within : vec_len sink.taken ≤ sink.room
  pub room : sink.room ≤ vec_capacity sink.taken
