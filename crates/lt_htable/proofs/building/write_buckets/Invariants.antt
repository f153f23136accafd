use Rattle.std.proofs.Common.{◌≡◌}
use Rattle.lt_device.specs.Calls.{OnlyWrites}
use Rattle.lt_device.specs.Moments.{ConfinedTo, ShowsSameOutside}
use Rattle.lt_htable.specs.Building.{HasBuckets, InExtent}
use Rattle.lt_htable.proofs.building.write_buckets.Given as goal

-- the buckets of the columns so far
abbrev pub invariant-loop-column : goal.invariant-loop-column
invariant-loop-column g l = record {
  buckets : HasBuckets l.placement l.items l.first l.column (g.D.Device.state l.device).shown;
  confined : ConfinedTo (InExtent l.first) (g.D.Device.state l.fn.device) (g.D.Device.state l.device);
  others : ShowsSameOutside (InExtent l.first) (g.D.Device.state l.fn.device).shown (g.D.Device.state l.device).shown;
  no_sync : (g.D.Device.state l.device).past ≡ (g.D.Device.state l.fn.device).past;
  calls : OnlyWrites g.D.Device ⊥ l.fn.device l.device;
}
