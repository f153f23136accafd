use Rattle.std.proofs.Common.{◌≡◌, ◌+◌, ◌-◌, ◌*◌, Some, IsTrue, length, drop}
use Rattle.lt_terms.specs.Bytes.{Image}
use Rattle.lt_device.specs.Calls.{OnlyReads}
use Rattle.lt_format.specs.declared.node_id.NodeId.{NodeId}
use Rattle.lt_format.specs.Trie.{is_last_level}
use Rattle.lt_search.specs.Seen.{asks_group}
use Rattle.lt_search.specs.Reads.{path_reads}
use Rattle.lt_search.proofs.GroupLaws.{later_stops}
use Rattle.lt_search.proofs.SearchLaws.{SoFar}
use Rattle.lt_search.proofs.groups.search_groups.Given as goal

-- none of the groups that were asked told anything
abbrev pub invariant-loop-group : goal.invariant-loop-group
invariant-loop-group g l = record {
  so_far : (image : Image) (id : NodeId) → (g.D.Device.state l.fn.device).shown ≡ Some image → IsTrue (is_last_level l.geometry.levels id)
      → SoFar (asks_group l.geometry l.groups image l.key) path_reads l.geometry image l.key (later_stops id l.tables l.group) (g.D.Device.reads l.fn.device) (g.D.Device.reads l.device);
  out : l.out ≡ l.fn.out;
  calls : OnlyReads g.D.Device (2 * length (drop (64 * l.group) l.tables) + (length l.groups - l.group)) ⊥ l.fn.device l.device;
}
