use Rattle.std.proofs.Common.{◌≡◌, ◌≤◌, ◌++◌, drop}
use Rattle.std.specs.Prelude.{vec_capacity}
use Rattle.lt_format.specs.Snapshot.{numbers}
use Rattle.lt_manifest.proofs.snapshot.spelling.spell_numbers.Given as goal

-- what is spelled, and what is left to spell
abbrev pub invariant-loop-number : goal.invariant-loop-number
invariant-loop-number l = record {
  bytes : l.bytes.items ++ numbers (drop l.number-index l.list) ≡ l.fn.bytes.items ++ numbers l.list;
  capacity : vec_capacity l.fn.bytes ≤ vec_capacity l.bytes;
}
