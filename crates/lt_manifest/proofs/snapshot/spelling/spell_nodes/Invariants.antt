use Rattle.std.proofs.Common.{◌≡◌, ◌≤◌, ◌++◌, drop}
use Rattle.std.specs.Prelude.{vec_capacity}
use Rattle.lt_format.specs.Snapshot.{nodes_bytes}
use Rattle.lt_manifest.proofs.snapshot.spelling.spell_nodes.Given as goal

-- what is spelled, and what is left to spell
abbrev pub invariant-loop-entry : goal.invariant-loop-entry
invariant-loop-entry l = record {
  bytes : l.bytes.items ++ nodes_bytes (drop l.entry-index l.nodes) ≡ l.fn.bytes.items ++ nodes_bytes l.nodes;
  capacity : vec_capacity l.fn.bytes ≤ vec_capacity l.bytes;
}
