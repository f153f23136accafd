use Rattle.std.proofs.Common.{◌≤◌, List, ℕ, length, slice_index}
use Rattle.lt_node.specs.Marks.{AreMarks}
use Rattle.lt_manifest.proofs.ExtentLaws.{IsPartRead}
use Rattle.lt_manifest.proofs.snapshot.extents.read_extents.Given as goal

-- the numbers so far were read and marked
abbrev pub invariant-loop : goal.invariant-loop
invariant-loop l = record {
  marks : l.extents ≤ length l.marks;
  part : (before : List ℕ) → AreMarks l.fn.marks before → IsPartRead (slice_index l.bytes) (length l.bytes) l.extents l.count l.at before l.marks l.counter l.list.items l.place;
}
