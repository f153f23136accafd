use Rattle.std.proofs.Common.{◌≡◌, length, take}
use Rattle.std.specs.Option.{ForSome}
use Rattle.lt_device.specs.Calls.{OnlyReads}
use Rattle.lt_search.specs.Kept.{KeepsExactly, inner_tables}
use Rattle.lt_search.proofs.kept.InnerFilters.load.Given as goal

-- the filters of the nodes so far are kept
abbrev pub invariant-loop-entry : goal.invariant-loop-entry
invariant-loop-entry g l = record {
  len : length l.filters ≡ l.extents;
  filters : ForSome (g.D.Device.state l.fn.device).shown (KeepsExactly l.geometry l.filters (inner_tables l.geometry.levels (take l.entry-index l.entry-items)));
  calls : OnlyReads g.D.Device (length (inner_tables l.geometry.levels (take l.entry-index l.entry-items))) ⊥ l.fn.device l.device;
}
