use Rattle.std.proofs.Common.{◌≡◌, ◌≤◌, length, take, vec_capacity}
use Rattle.lt_terms.specs.Bytes.{AreBlocks}
use Rattle.lt_device.proofs.store.copies.Given as goal

abbrev pub invariant-loop-page : goal.invariant-loop-page
invariant-loop-page l = record {
  same : l.copies.items ≡ take l.page-index l.pages;
  blocks : AreBlocks l.copies.items;
  few : l.copies.len ≡ l.page-index;
  room : length l.pages ≤ vec_capacity l.copies;
}
