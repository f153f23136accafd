use Rattle.std.proofs.Common.{rules}
use Rattle.lt_device.proofs.steady.SteadyDevice.write.Goals as goal

pub returns-clause-writes : goal.returns-clause-writes
returns-clause-writes c = record {
  ok = search rules;
  wrote = record { fit = search rules; page = c.args.from.now; whole = c.write.ensures.block; is = search rules };
  size = search rules;
  count = search rules;
  cause = search rules;
}
