-- A store in memory, as its contracts see it.
use Rattle.lt_store.specs.declared.store.Store.{Store}
use Rattle.lt_store.specs.Open.{StoreView}

-- what calls speak of: all fields but the geometry, which is the manifest's, the page, which holds any bytes,
-- and a refusal, which memory table and extents tell
abbrev pub view_of : Store → StoreView
view_of s = record {
  is_up = s.is_up;
  named = s.manifest;
  log = s.log;
  memory = s.memory;
  taken = s.extents;
  kept = s.filters;
  writes = s.writes;
  work = s.work;
}
