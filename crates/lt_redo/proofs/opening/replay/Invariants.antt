use Rattle.std.proofs.Common.{◌≡◌, ◌*◌, ◌≤◌, length}
use Rattle.std.specs.Option.{ForSome}
use Rattle.lt_device.specs.Calls.{OnlyReads}
use Rattle.lt_redo.proofs.OpeningLaws.{IsReplayed}
use Rattle.lt_redo.proofs.opening.replay.Given as goal

-- the groups of the slots so far were read
abbrev pub invariant-loop-slot : goal.invariant-loop-slot
invariant-loop-slot g l = record {
  writes : l.read.writes ≡ l.writes;
  enough : l.slot ≤ length l.read.items.items;
  replayed : ForSome (g.D.Device.state l.fn.device).shown (IsReplayed l.geometry l.area l.writes l.slot l.read.items.items);
  calls : OnlyReads g.D.Device (2 * l.slot) ⊥ l.fn.device l.device;
}
