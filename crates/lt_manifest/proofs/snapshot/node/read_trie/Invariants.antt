use Rattle.std.proofs.Common.{◌≡◌, ◌≤◌, length}
use Rattle.std.specs.Prelude.{slice_index}
use Rattle.lt_manifest.proofs.NodeLaws.{IsTrieRead}
use Rattle.lt_manifest.proofs.snapshot.node.read_trie.Given as goal

-- the nodes so far were read
abbrev pub invariant-loop : goal.invariant-loop
invariant-loop l = record {
  levels : l.trie.levels ≡ l.geometry.levels;
  marks : l.extents ≤ length l.marks;
  part : IsTrieRead (slice_index l.bytes) (length l.bytes) l.geometry.levels l.extents l.front.nodes l.marks l.counter l.trie.nodes l.last l.place;
}
