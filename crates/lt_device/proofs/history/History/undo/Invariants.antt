use Rattle.std.proofs.Common.{◌≡◌, drop, length}
use Rattle.lt_terms.specs.Bytes.{AreBlocks}
use Rattle.lt_device.specs.History.{WritesBelow, made_of, stable_of}
use Rattle.lt_device.proofs.history.History.undo.Given as goal

abbrev pub invariant-loop-entry : goal.invariant-loop-entry
invariant-loop-entry l = record {
  items : l.entry-items ≡ drop l.self.room l.self.entries.items;
  below : WritesBelow (length l.pages) (made_of (drop l.entry-index l.entry-items));
  blocks : AreBlocks l.pages;
  stable : stable_of (made_of (drop l.entry-index l.entry-items)) l.pages ≡ stable_of (made_of l.entry-items) l.fn.pages;
}
