use Rattle.std.proofs.Common.{◌≡◌, ◌*◌, length, take}
use Rattle.lt_terms.specs.Bytes.{block_of}
use Rattle.lt_container.proofs.GroupLaws.{joined}
use Rattle.lt_container.proofs.group.fill_column.Given as goal

-- the filters of the pages so far, and zeros
abbrev pub invariant-loop-place : goal.invariant-loop-place
invariant-loop-place l = record {
  block : l.page ≡ block_of (joined (take l.place l.filters) l.column);
  len : length (joined (take l.place l.filters) l.column) ≡ 64 * l.place;
}
