use Rattle.std.proofs.Common.{◌-◌, ◌≡◌, ◌≤◌, ◌++◌, length, take}
use Rattle.lt_line.specs.Generated.{left_bytes}
use Rattle.lt_line.proofs.gen_source.GenSource.fill.Given as goal

abbrev pub invariant-loop-n : goal.invariant-loop-n
invariant-loop-n l = record {
  within : l.n ≤ 4096;
  bytes : left_bytes l.initial.self ≡ take l.n l.into ++ left_bytes l.self;
  shown : length (take l.n l.into) ≡ l.n;
  pieces : l.self.taken_pieces ≡ l.initial.self.taken_pieces;
}

abbrev pub decreases-loop-n : goal.decreases-loop-n
decreases-loop-n l = 4096 - l.n
