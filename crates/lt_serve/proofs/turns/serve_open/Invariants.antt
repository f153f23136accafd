use Rattle.std.proofs.Common.{◌≡◌, ◌+◌, ◌≤◌, []}
use Rattle.lt_terms.specs.Causes.{RoseBy}
use Rattle.lt_language.specs.Machine.{State}
use Rattle.lt_store.specs.Open.{IsOpen, extents_of}
use Rattle.lt_serve.specs.Promise.{GainsSome, moment_of}
use Rattle.lt_serve.specs.Serving.{IsReady, TookFurther}
use Rattle.lt_serve.specs.Sizes.{SameSizes}
use Rattle.lt_serve.specs.View.{kept_in, store_in}
use Rattle.lt_serve.proofs.turns.serve_open.Given as goal
use Rattle.std.proofs.Common.{ℕ, List, Some}
use Rattle.lt_terms.specs.Bytes.{Image}
use Rattle.lt_io.specs.Streams.{Takes}
use Rattle.lt_store.specs.Getting.{seen_of}
use Rattle.lt_serve.specs.Seeing.{SeesMore, StaysBehind}

abbrev pub invariant-loop-number : goal.invariant-loop-number
invariant-loop-number g l = record {
  ready : IsReady l.session l.replies (g.D.Device.blocks l.device);
  sizes : SameSizes (store_in l.fn.session) (store_in l.session);
  size : g.D.Device.blocks l.device ≡ g.D.Device.blocks l.fn.device;
  source_later : g.S.Source.faults l.fn.source ≤ g.S.Source.faults l.source;
  sink_later : g.K.Sink.faults l.fn.sink ≤ g.K.Sink.faults l.sink;
  device_later : g.D.Device.faults l.fn.device ≤ g.D.Device.faults l.device;
  most : g.S.Source.pieces l.source ≤ g.S.Source.pieces l.fn.source + l.number;
  pieces : RoseBy l.number (g.S.Source.pieces l.fn.source) (g.S.Source.pieces l.source);
  sink_gains : GainsSome (g.K.Sink.stands l.fn.sink) (g.K.Sink.stands l.sink);
  sees : (image : Image) → (g.D.Device.state l.fn.device).shown ≡ Some image → (taken : List ℕ) × Takes (g.S.Source.left l.fn.source) (g.S.Source.left l.source) taken
      × SeesMore (seen_of (store_in l.fn.session) image) taken [] (g.K.Sink.stands l.fn.sink) (g.K.Sink.stands l.sink) (StaysBehind taken (kept_in l.session) (store_in l.fn.session) (store_in l.session) (g.D.Device.state l.fn.device) (g.D.Device.state l.device));
  on : (before : State) → IsOpen (store_in l.fn.session) before (g.D.Device.state l.fn.device)
      → TookFurther (extents_of (store_in l.fn.session)) before [] [] (kept_in l.session) (store_in l.session) (g.S.Source.left l.fn.source) (g.S.Source.left l.source) (g.K.Sink.stands l.fn.sink) (g.K.Sink.stands l.sink) (moment_of g.D.Device l.fn.device) (moment_of g.D.Device l.device);
}
