use Rattle.std.proofs.Common.{◌≡◌, ◌≤◌, ℕ, List, ◌++◌, take, drop, length, subst, sym, ◌∙◌, append-nil, length-drop, length-take-le, refl, ◌-◌, arith}
use Rattle.std.proofs.lemmas.List.{take_all, take_rest}
use Rattle.lt_serve.specs.declared.served.Served.TheVariants as served
use Rattle.lt_serve.specs.Faults.{IsHalt}
use Rattle.lt_serve.specs.Serving.{ShowedFurther}
use Rattle.lt_serve.specs.Promise.{EndedShowing, moment_of}
use Rattle.lt_serve.specs.View.{kept_in, store_in}
use Rattle.lt_store.specs.Open.{extents_of}
use Rattle.lt_serve.proofs.LineLaws.{taken-and-slice, taken-and-more}
use Rattle.lt_serve.proofs.PieceLaws.{on-none, on-on, on-over, at-exit}
use Rattle.lt_serve.proofs.SendLaws.{gains_some-none, gains_some-more}
use Rattle.lt_serve.proofs.CallLaws.{acts-ok, acts-fail, gives-behind, gives-still, same-fault}
use Rattle.lt_serve.proofs.SizeLaws.{sizes-same, sizes-more}
use Rattle.lt_serve.proofs.turns.serve_piece.Goals as goal
use Rattle.lt_store.specs.Getting.{seen_of}
use Rattle.lt_serve.specs.Seeing.{EndsSeen, SeesMore, StaysBehind}
use Rattle.lt_serve.proofs.SightLaws.{ends-twice, more-none, more-twice}

pub loop-at-init : goal.loop-at-init
loop-at-init g c = record {
  within = omega arith;
  ready = c.requires.ready;
  sizes = sizes-same _;
  size = refl;
  device_later = omega arith;
  sink_later = omega arith;
  sink_gains = gains_some-none _;
  sees = λ v image input output start shown s. subst (λ (bytes : List ℕ). SeesMore (seen_of v image) bytes output (g.K.Sink.stands c.args.sink.now) (g.K.Sink.stands c.args.sink.now) (StaysBehind bytes (kept_in c.args.session.now) v (store_in c.args.session.now) start (g.D.Device.state c.args.device.now))) (sym (append-nil input))
      (more-none (seen_of v image) input output _ _ s);
  on = λ before input output start r. subst (λ (bytes : List ℕ). ShowedFurther (extents_of (store_in c.args.session.now)) before bytes output (kept_in c.args.session.now) (store_in c.args.session.now) (g.K.Sink.stands c.args.sink.now) (g.K.Sink.stands c.args.sink.now) start (moment_of g.D.Device c.args.device.now)) (sym (append-nil input))
      (on-none _ before input output _ _ _ start _ r);
}

pub returns-in_err-at-clause-over : goal.returns-in_err-at-clause-over
returns-in_err-at-clause-over g c =
    let piece = c.args.piece.now in
    let short : length (take (length c.args.piece.now - c.loop-at.at) (drop c.loop-at.at c.args.piece.now)) ≤ 4096 = omega (arith, length-take-le {A = ℕ}, length-drop {A = ℕ}, c.requires.short) in
    at-exit c.from_residual.result _ _ c.from_residual.ensures.1 (
      (λ before input output start r.
          let s = c.loop-at.invariant.on before input output start r in
          subst (λ (bytes : List ℕ). IsHalt c.in_err-at.field-0.0 × EndedShowing (extents_of (store_in c.args.session.now)) before c.in_err-at.field-0.0 bytes output (g.K.Sink.stands c.args.sink.now) (g.K.Sink.stands c.step.new.sink) (g.K.Sink.faults c.args.sink.now) (g.K.Sink.faults c.step.new.sink) start (moment_of g.D.Device c.step.new.device)) (taken-and-slice input piece c.loop-at.at)
          (on-over _ before (input ++ take c.loop-at.at piece) output _ _ _ _ start _ s _ c.loop-at.invariant.sizes.extents c.in_err-at.field-0.0 _ _ _ _ _ _ c.loop-at.invariant.sink_later ((c.in_err-at.ensures.over short).0 before (input ++ take c.loop-at.at piece) (output ++ s.added) start))),
      (λ v image input output start shown s.
          let m = c.loop-at.invariant.sees v image input output start shown s in
          let before = input ++ take c.loop-at.at c.args.piece.now in
          subst (λ (bytes : List ℕ). EndsSeen (seen_of v image) c.in_err-at.field-0.0 bytes output (g.K.Sink.stands c.args.sink.now) (g.K.Sink.stands c.step.new.sink)) (taken-and-slice input c.args.piece.now c.loop-at.at)
          (ends-twice (seen_of v image) c.in_err-at.field-0.0 before _ output _ _ _ _ m ((c.in_err-at.ensures.over short).1 v image before (output ++ m.added) start shown m.lines))),
    )

pub loop-at-preserved : goal.loop-at-preserved
loop-at-preserved g c =
    let so_far = c.loop-at.invariant in
    let step = c.in_ok-at.ensures in
    let piece = c.args.piece.now in
    let n : c.in_ok-at.field-0 ≤ length (drop c.loop-at.at piece) = rw (take_rest c.args.piece.now c.loop-at.at) at c.in_ok-at.ensures.taken.0 in
    record {
      within = omega (arith, n, length-drop c.loop-at.at c.args.piece.now, so_far.within);
      ready = step.ready;
      sizes = sizes-more _ _ _ so_far.sizes step.device.sizes;
      size = step.device.size ∙ so_far.size;
      device_later = omega (arith, step.device.later, so_far.device_later);
      sink_later = omega (arith, step.sink.later, so_far.sink_later);
      sink_gains = gains_some-more _ _ _ so_far.sink_gains step.sink.gains;
      sees = λ v image input output start shown s.
          let m = so_far.sees v image input output start shown s in
          let before = input ++ take c.loop-at.at piece in
          subst (λ (bytes : List ℕ). SeesMore (seen_of v image) bytes output (g.K.Sink.stands c.args.sink.now) (g.K.Sink.stands c.step.new.sink) (StaysBehind bytes (kept_in c.step.new.session) v (store_in c.step.new.session) start (g.D.Device.state c.step.new.device))) (taken-and-more input piece c.loop-at.at c.in_ok-at.field-0)
          (more-twice (seen_of v image) before _ output _ _ _ _ _ m (step.on.1 v image before (output ++ m.added) start shown m.lines));
      on = λ before input output start r.
          let s = so_far.on before input output start r in
          subst (λ (bytes : List ℕ). ShowedFurther (extents_of (store_in c.args.session.now)) before bytes output (kept_in c.step.new.session) (store_in c.step.new.session) (g.K.Sink.stands c.args.sink.now) (g.K.Sink.stands c.step.new.sink) start (moment_of g.D.Device c.step.new.device)) (taken-and-more input piece c.loop-at.at c.in_ok-at.field-0)
          (on-on _ before (input ++ take c.loop-at.at piece) output _ _ _ _ start _ s _ so_far.sizes.extents _ _ _ _ _ (step.on.0 before (input ++ take c.loop-at.at piece) (output ++ s.added) start));
    }

pub returns-clause-on : goal.returns-clause-on
returns-clause-on g c = (
  (λ before input output start r.
      let whole : take c.loop-at.at c.args.piece.now ≡ c.args.piece.now = take_all c.loop-at.at c.args.piece.now (omega arith) in
      subst (λ (taken : List ℕ). ShowedFurther (extents_of (store_in c.args.session.now)) before (input ++ taken) output (kept_in c.loop-at.session) (store_in c.loop-at.session) (g.K.Sink.stands c.args.sink.now) (g.K.Sink.stands c.loop-at.sink) start (moment_of g.D.Device c.loop-at.device)) whole (c.loop-at.invariant.on before input output start r)),
  (λ v image input output start shown s.
      let whole : take c.loop-at.at c.args.piece.now ≡ c.args.piece.now = take_all c.loop-at.at c.args.piece.now (omega arith) in
      subst (λ (taken : List ℕ). SeesMore (seen_of v image) (input ++ taken) output (g.K.Sink.stands c.args.sink.now) (g.K.Sink.stands c.loop-at.sink) (StaysBehind (input ++ taken) (kept_in c.loop-at.session) v (store_in c.loop-at.session) start (g.D.Device.state c.loop-at.device))) whole (c.loop-at.invariant.sees v image input output start shown s)),
)

pub returns-in_err-at-clause-sink : goal.returns-in_err-at-clause-sink
returns-in_err-at-clause-sink g c =
    let so_far = c.loop-at.invariant in
    gives-behind _ _ _ so_far.sink_gains so_far.sink_later (λ is. same-fault c.step.result c.from_residual.result c.in_err-at.field-0.0 served.Sink c.in_err-at.was c.from_residual.ensures.1 is) c.step.ensures.sink

pub returns-clause-sink : goal.returns-clause-sink
returns-clause-sink g c =
    let so_far = c.loop-at.invariant in
    gives-still _ _ so_far.sink_gains so_far.sink_later (λ is. absurd (cc (is)))

pub returns-in_err-at-clause-device : goal.returns-in_err-at-clause-device
returns-in_err-at-clause-device g c =
    let so_far = c.loop-at.invariant in
    acts-fail _ _ _ c.step.result c.from_residual.result c.in_err-at.field-0.0 _ _ _ _ _ c.in_err-at.was c.from_residual.ensures.1 so_far.sizes so_far.size so_far.device_later c.step.ensures.device

pub returns-clause-device : goal.returns-clause-device
returns-clause-device g c =
    let so_far = c.loop-at.invariant in
    acts-ok _ _ _ _ _ _ _ so_far.sizes so_far.size so_far.device_later
