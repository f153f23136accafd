use Rattle.std.proofs.Common.{◌≡◌, ◌≤◌, replicate, vec_capacity}
use Rattle.lt_terms.specs.Bytes.{AreBlocks, zero_block}
use Rattle.lt_device.proofs.store.zero_pages.Given as goal

abbrev pub invariant-loop : goal.invariant-loop
invariant-loop l = record {
  made : l.pages.items ≡ replicate l.counter zero_block;
  blocks : AreBlocks l.pages.items;
  few : l.pages.len ≡ l.counter;
  room : l.count ≤ vec_capacity l.pages;
}
