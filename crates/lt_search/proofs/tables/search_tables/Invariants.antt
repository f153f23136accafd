use Rattle.std.proofs.Common.{◌≡◌, ℕ, ◌+◌, ◌*◌, Some, drop}
use Rattle.std.specs.Prelude.{count_by}
use Rattle.lt_terms.specs.Bytes.{Image}
use Rattle.lt_device.specs.Calls.{OnlyReads}
use Rattle.lt_format.specs.declared.node_id.NodeId.{NodeId}
use Rattle.lt_search.specs.Asking.{asks_of, may_ask}
use Rattle.lt_search.specs.Reads.{bucket_reads}
use Rattle.lt_search.specs.Seen.{pile_stops}
use Rattle.lt_search.proofs.SearchLaws.{SoFar}
use Rattle.lt_search.proofs.tables.search_tables.Given as goal

-- none of the tables that were asked told anything
abbrev pub invariant-loop-i : goal.invariant-loop-i
invariant-loop-i g l = record {
  so_far : (image : Image) (id : NodeId) (group : ℕ) → (g.D.Device.state l.fn.device).shown ≡ Some image
      → SoFar (asks_of l.filters l.key) bucket_reads l.geometry image l.key (pile_stops id (64 * group + l.i) (drop l.i l.tables)) (g.D.Device.reads l.fn.device) (g.D.Device.reads l.device);
  out : l.out ≡ l.fn.out;
  calls : OnlyReads g.D.Device (2 * count_by (may_ask l.filters l.key) (drop l.i l.tables)) ⊥ l.fn.device l.device;
}
