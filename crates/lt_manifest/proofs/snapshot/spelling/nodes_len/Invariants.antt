use Rattle.std.proofs.Common.{◌≡◌, ◌+◌, length, drop}
use Rattle.lt_format.specs.Snapshot.{nodes_bytes}
use Rattle.lt_manifest.proofs.snapshot.spelling.nodes_len.Given as goal

-- what is counted, and what is left to count
abbrev pub invariant-loop-entry : goal.invariant-loop-entry
invariant-loop-entry l = l.total + length (nodes_bytes (drop l.entry-index l.nodes)) ≡ length (nodes_bytes l.nodes)
