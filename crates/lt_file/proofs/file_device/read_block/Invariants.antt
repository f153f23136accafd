use Rattle.std.proofs.Common.{◌-◌, ◌≤◌}
use Rattle.lt_file.proofs.file_device.read_block.Given as goal

abbrev pub invariant-loop-at : goal.invariant-loop-at
invariant-loop-at over l = l.at ≤ 4096

-- what is left to read
abbrev pub decreases-loop-at : goal.decreases-loop-at
decreases-loop-at over l = 4096 - l.at
