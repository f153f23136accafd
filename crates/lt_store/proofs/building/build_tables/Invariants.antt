use Rattle.std.proofs.Common.{◌≡◌, length, map}
use Rattle.lt_device.specs.Calls.{OnlyWrites}
use Rattle.lt_store.proofs.BuildLaws.{AreBuilt}
use Rattle.lt_store.proofs.building.build_tables.Given as goal

abbrev pub invariant-loop-turn : goal.invariant-loop-turn
invariant-loop-turn g l = record {
  built : AreBuilt l.geometry l.initial.filters l.filters (g.D.Device.state l.fn.device) (g.D.Device.state l.device) l.numbers (map (λ table. table.now) l.tables) l.turn;
  room : length l.filters ≡ length l.initial.filters;
  calls : OnlyWrites g.D.Device ⊥ l.fn.device l.device;
}
