use Rattle.std.proofs.Common.{◌≡◌, ◌++◌, List, ℕ, Some, length, take}
use Rattle.lt_terms.specs.Bytes.{Image}
use Rattle.lt_device.specs.Calls.{OnlyReads}
use Rattle.lt_search.specs.Kept.{KeepsExactly}
use Rattle.lt_search.proofs.kept.InnerFilters.load_pile.Given as goal

-- the filters of the tables so far are kept
abbrev pub invariant-loop-extent : goal.invariant-loop-extent
invariant-loop-extent g l = record {
  len : length l.self ≡ length l.fn.self;
  filters : (image : Image) (before : List ℕ) → (g.D.Device.state l.fn.device).shown ≡ Some image → KeepsExactly l.geometry l.fn.self before image
      → KeepsExactly l.geometry l.self (before ++ take l.extent-index l.tables) image;
  calls : OnlyReads g.D.Device l.extent-index ⊥ l.fn.device l.device;
}
