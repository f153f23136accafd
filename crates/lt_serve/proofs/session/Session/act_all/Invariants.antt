use Rattle.std.proofs.Common.{◌≡◌, ◌≤◌, ◌-◌, take, length}
use Rattle.lt_serve.specs.Rounds.{ActsLines, IsActing}
use Rattle.lt_serve.specs.Seeing.{SeesAll}
use Rattle.lt_serve.specs.Sizes.{SameSizes}
use Rattle.lt_serve.specs.View.{store_in}
use Rattle.lt_serve.proofs.session.Session.act_all.Given as goal

abbrev pub invariant-loop-at : goal.invariant-loop-at
invariant-loop-at g l = record {
  within : l.at ≤ length l.piece;
  acting : IsActing l.self;
  begun : l.at ≡ 0 → 3007 ≤ l.out.room;
  sizes : SameSizes (store_in l.fn.self) (store_in l.self);
  size : g.D.Device.blocks l.device ≡ g.D.Device.blocks l.fn.device;
  later : g.D.Device.faults l.fn.device ≤ g.D.Device.faults l.device;
  sees : SeesAll g.D.Device l.fn.self l.self (take l.at l.piece) l.fn.out l.out l.fn.device l.device;
  went : ActsLines g.D.Device l.fn.self l.self (take l.at l.piece) l.fn.out l.out l.fn.device l.device;
}

abbrev pub decreases-loop-at : goal.decreases-loop-at
decreases-loop-at g l = length l.initial.piece - l.at
