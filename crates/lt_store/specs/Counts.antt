-- The numbers that a store tells of itself.
use Rattle.std.specs.Prelude.{◌≡◌, ℕ, ◌≤◌, length}
use Rattle.lt_terms.specs.Bytes.{Image}
use Rattle.lt_device.specs.declared.device.Device.{Ghosts}
use Rattle.lt_device.specs.Moments.{MayLeave}
use Rattle.lt_language.specs.Machine.{State}
use Rattle.lt_format.specs.Trie.{table_total}
use Rattle.lt_image.specs.Standing.{HasCounts}
use Rattle.lt_image.specs.Versions.{free_extents}
use Rattle.lt_store.specs.declared.counts.Stat.{Stat}
use Rattle.lt_store.specs.Open.{IsOpen, StoreView}

-- the numbers of a store whose device has read this many blocks; free are the extents that the manifest does not name,
-- those that a job has reserved among them
abbrev pub stat_of : StoreView → ℕ → Stat
stat_of v reads = record {
  writes = v.writes;
  reads = reads;
  tables = table_total v.named.manifest.trie;
  free = free_extents v.named;
}

-- The numbers are those of the store and its device at this moment; and the tables and free extents are those of each
-- image that a crash may leave. What is durable lacks at most 818 of the accepted writes, the pending ones.
pub record Tells {T : Type 0} (D : Ghosts T) (v : StoreView) (stat : Stat) (device : T) : Type 0 where
  pub is : stat ≡ stat_of v (D.reads device)
  pub few : length v.log.pending ≤ 818
  pub images : (durable : State) → IsOpen v durable (D.state device) → (left : Image)
      → MayLeave (D.state device) left → HasCounts left stat.tables stat.free
