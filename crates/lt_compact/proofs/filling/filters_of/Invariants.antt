use Rattle.std.proofs.Common.{◌≡◌, ◌≤◌, Some, length, take, vec_capacity}
use Rattle.lt_terms.specs.Bytes.{Image}
use Rattle.lt_device.specs.Calls.{OnlyReads}
use Rattle.lt_image.specs.Standing.{filter_blocks}
use Rattle.lt_compact.proofs.filling.filters_of.Given as goal

-- the filters of the tables so far
abbrev pub invariant-loop-number : goal.invariant-loop-number
invariant-loop-number g l = record {
  filters : (image : Image) → (g.D.Device.state l.fn.device).shown ≡ Some image → l.pages.items ≡ filter_blocks l.geometry image (take l.number-index l.tables);
  count : length l.pages.items ≡ l.number-index;
  room : length l.tables ≤ vec_capacity l.pages;
  calls : OnlyReads g.D.Device l.number-index ⊥ l.fn.device l.device;
}
