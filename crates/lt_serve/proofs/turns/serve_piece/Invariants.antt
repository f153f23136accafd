use Rattle.std.proofs.Common.{◌≡◌, ◌≤◌, ◌-◌, take, length}
use Rattle.lt_serve.specs.Promise.{GainsSome}
use Rattle.lt_serve.specs.Seeing.{SeesOnBy}
use Rattle.lt_serve.specs.Serving.{GoesOnBy, IsReady}
use Rattle.lt_serve.specs.Sizes.{SameSizes}
use Rattle.lt_serve.specs.View.{store_in}
use Rattle.lt_serve.proofs.turns.serve_piece.Given as goal

abbrev pub invariant-loop-at : goal.invariant-loop-at
invariant-loop-at g l = record {
  within : l.at ≤ length l.piece;
  ready : IsReady l.session l.replies (g.D.Device.blocks l.device);
  sizes : SameSizes (store_in l.fn.session) (store_in l.session);
  size : g.D.Device.blocks l.device ≡ g.D.Device.blocks l.fn.device;
  device_later : g.D.Device.faults l.fn.device ≤ g.D.Device.faults l.device;
  sink_later : g.K.Sink.faults l.fn.sink ≤ g.K.Sink.faults l.sink;
  sink_gains : GainsSome (g.K.Sink.stands l.fn.sink) (g.K.Sink.stands l.sink);
  sees : SeesOnBy g.D.Device g.K.Sink l.fn.session l.session (take l.at l.piece) l.fn.sink l.sink l.fn.device l.device;
  on : GoesOnBy g.D.Device g.K.Sink l.fn.session l.session (take l.at l.piece) l.fn.sink l.sink l.fn.device l.device;
}

abbrev pub decreases-loop-at : goal.decreases-loop-at
decreases-loop-at g l = length l.initial.piece - l.at
