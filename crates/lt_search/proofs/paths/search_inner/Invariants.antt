use Rattle.std.proofs.Common.{◌≡◌, ◌*◌, Some}
use Rattle.lt_terms.specs.Bytes.{Image}
use Rattle.lt_device.specs.Calls.{OnlyReads}
use Rattle.lt_image.specs.Versions.{stops}
use Rattle.lt_search.specs.Asking.{asks_kept, inner_asked}
use Rattle.lt_search.specs.Reads.{bucket_reads}
use Rattle.lt_search.proofs.SearchLaws.{SoFar}
use Rattle.lt_search.proofs.paths.search_inner.Given as goal

-- none of the levels that were searched told anything
abbrev pub invariant-loop-level : goal.invariant-loop-level
invariant-loop-level g l = record {
  so_far : (image : Image) → (g.D.Device.state l.fn.device).shown ≡ Some image
      → SoFar (asks_kept l.filters l.key) bucket_reads l.geometry image l.key (stops l.level l.trie.nodes l.key) (g.D.Device.reads l.fn.device) (g.D.Device.reads l.device);
  out : l.out ≡ l.fn.out;
  calls : OnlyReads g.D.Device (2 * inner_asked l.filters l.trie.nodes l.key l.level) ⊥ l.fn.device l.device;
}
