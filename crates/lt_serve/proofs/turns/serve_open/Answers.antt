use Rattle.std.proofs.Common.{ap, refl, rules, subst, ◌∙◌, Err, arith}
use Rattle.lt_serve.specs.Faults.{IsTurnEnd}
use Rattle.lt_serve.proofs.TurnLaws.{turned-none, turned-pause, turned-more, turned-last, rose-more}
use Rattle.lt_serve.proofs.CallLaws.{fails-behind, fails-still, gives-behind, gives-none, gives-still, takes-behind, takes-still}
use Rattle.lt_serve.proofs.SendLaws.{gains_some-none, gains_some-more}
use Rattle.lt_serve.proofs.SizeLaws.{sizes-same, sizes-more, stops-same}
use Rattle.lt_serve.proofs.turns.serve_open.Goals as goal
use Rattle.lt_serve.specs.Promise.{moment_of}
use Rattle.lt_serve.specs.View.{kept_in, store_in}
use Rattle.lt_serve.proofs.SightLaws.{served-none, serves-last, serves-more, serves-still}

pub returns-in_default-clause-over : goal.returns-in_default-clause-over
returns-in_default-clause-over g c = λ before opened. (tt, turned-pause _ before _ _ _ _ _ _ _ _ (turned-none _ before _ _ _ _ _ c.requires.none opened) _ _ _ (λ done. absurd (cc (done))))

pub returns-in_default-new-clause-over : goal.returns-in_default-new-clause-over
returns-in_default-new-clause-over g c = λ before opened. (tt, turned-pause _ before _ _ _ _ _ _ _ _ (turned-none _ before _ _ _ _ _ c.requires.none opened) _ _ _ (λ done. absurd (cc (done))))

pub loop-number-init : goal.loop-number-init
loop-number-init g c = record {
  ready = record { up = c.requires.up; none = c.in-Ok-new.ensures; within = c.requires.within };
  sizes = sizes-same _;
  size = refl;
  source_later = omega arith;
  sink_later = omega arith;
  sink_gains = gains_some-none _;
  device_later = omega arith;
  most = omega arith;
  pieces = omega arith;
  sees = λ image shown. served-none (store_in c.args.session.now) image (kept_in c.args.session.now) (g.D.Device.state c.args.device.now) _ _ c.requires.none (c.args.session.now.idle c.requires.up).durable;
  on = λ before opened. turned-none _ before _ _ _ _ _ c.requires.none opened;
}

pub returns-in-Err-clause-over : goal.returns-in-Err-clause-over
returns-in-Err-clause-over g c = λ before opened.
    let so_far = c.loop-number.invariant in
    let t = so_far.on before opened in
    turned-last _ before _ _ _ _ _ _ _ _ t _ so_far.sizes.extents _ _ _ c.in-Err.served _ _ _ so_far.sink_later (c.in-Err.ensures.over.0 before t.taken t.on.added (moment_of g.D.Device c.args.device.now))

pub loop-number-preserved : goal.loop-number-preserved
loop-number-preserved g c =
    let so_far = c.loop-number.invariant in
    let turn = c.in_default-turn.ensures in
    record {
      ready = turn.ready;
      sizes = sizes-more _ _ _ so_far.sizes turn.device.sizes;
      size = turn.device.size ∙ so_far.size;
      source_later = omega (arith, so_far.source_later, turn.source.later);
      sink_later = omega (arith, so_far.sink_later, turn.sink.later);
      sink_gains = gains_some-more _ _ _ so_far.sink_gains turn.sink.gains;
      device_later = omega (arith, so_far.device_later, turn.device.later);
      most = omega (arith, so_far.most, turn.one_piece);
      pieces = rose-more c.loop-number.number _ _ _ so_far.pieces turn.pieces;
      sees = λ image shown.
          let m = so_far.sees image shown in
          serves-more (store_in c.args.session.now) image _ _ _ _ _ _ _ _ m _ _ _ _ _ (turn.on.1 (store_in c.args.session.now) image m.0 m.2.added (g.D.Device.state c.args.device.now) shown m.2.lines);
      on = λ before opened.
          let t = so_far.on before opened in
          turned-more _ before _ _ _ _ _ _ _ _ t _ so_far.sizes.extents _ _ _ _ _ (turn.on.0 before t.taken t.on.added (moment_of g.D.Device c.args.device.now));
    }

pub returns-clause-over : goal.returns-clause-over
returns-clause-over g c = λ before opened. (tt, turned-pause _ before _ _ _ _ _ _ _ _ (c.loop-number.invariant.on before opened) _ _ _ (λ done. absurd (cc (done))))

pub returns-in-Err-clause-damaged : goal.returns-in-Err-clause-damaged
returns-in-Err-clause-damaged g c = λ b is. stops-same _ _ b _ c.loop-number.invariant.sizes (c.in-Err.ensures.device.damaged b (ap Err is))

pub returns-in_default-clause-seen : goal.returns-in_default-clause-seen
returns-in_default-clause-seen g c = λ image shown.
    serves-still _ _ _ _ _ _ _ _ _ _ (served-none (store_in c.args.session.now) image (kept_in c.args.session.now) (g.D.Device.state c.args.device.now) _ _ c.requires.none (c.args.session.now.idle c.requires.up).durable) _ (λ is. absurd (cc (is))) (λ b is. absurd (cc (is)))

pub returns-in_default-new-clause-seen : goal.returns-in_default-new-clause-seen
returns-in_default-new-clause-seen g c = λ image shown.
    serves-still _ _ _ _ _ _ _ _ _ _ (served-none (store_in c.args.session.now) image (kept_in c.args.session.now) (g.D.Device.state c.args.device.now) _ _ c.requires.none (c.args.session.now.idle c.requires.up).durable) _ (λ is. absurd (cc (is))) (λ b is. absurd (cc (is)))

pub returns-in-Err-clause-seen : goal.returns-in-Err-clause-seen
returns-in-Err-clause-seen g c = λ image shown.
    let m = c.loop-number.invariant.sees image shown in
    let last = c.in-Err.ensures.over.1 (store_in c.args.session.now) image m.0 m.2.added (g.D.Device.state c.args.device.now) shown m.2.lines in
    serves-last (store_in c.args.session.now) image _ _ _ _ _ _ _ _ m _ _ _ last

pub returns-clause-seen : goal.returns-clause-seen
returns-clause-seen g c = λ image shown. serves-still (store_in c.args.session.now) image _ _ _ _ _ _ _ _ (c.loop-number.invariant.sees image shown) _ (λ is. absurd (cc (is))) (λ b is. absurd (cc (is)))

pub returns-in_default-clause-causes : goal.returns-in_default-clause-causes
returns-in_default-clause-causes g c = record {
  turns = λ is. absurd (cc (is));
  pieces = omega arith;
  source = takes-still _ _ (omega arith) (λ is. absurd (cc (is)));
  sink = gives-none _ (λ is. absurd (cc (is)));
  device = fails-still _ _ (omega arith) (λ is. absurd (cc (is)));
}

pub returns-in_default-new-clause-causes : goal.returns-in_default-new-clause-causes
returns-in_default-new-clause-causes g c = record {
  turns = λ is. absurd (cc (is));
  pieces = omega arith;
  source = takes-still _ _ (omega arith) (λ is. absurd (cc (is)));
  sink = gives-none _ (λ is. absurd (cc (is)));
  device = fails-still _ _ (omega arith) (λ is. absurd (cc (is)));
}

pub returns-in-Err-clause-causes : goal.returns-in-Err-clause-causes
returns-in-Err-clause-causes g c =
    let so_far = c.loop-number.invariant in
    let last = c.in-Err.ensures in
    record {
      turns = λ is. absurd (subst IsTurnEnd is last.end);
      pieces = omega (arith, so_far.most, last.one_piece);
      source = takes-behind _ _ _ so_far.source_later (λ is. ap Err is) last.source;
      sink = gives-behind _ _ _ so_far.sink_gains so_far.sink_later (λ is. ap Err is) last.sink;
      device = fails-behind _ _ _ so_far.device_later last.device.later (λ is. last.device.cause (ap Err is));
    }

pub returns-clause-causes : goal.returns-clause-causes
returns-clause-causes g c =
    let so_far = c.loop-number.invariant in
    record {
      turns = λ is. search rules;
      pieces = search rules;
      source = takes-still _ _ so_far.source_later (λ is. absurd (cc (is)));
      sink = gives-still _ _ so_far.sink_gains so_far.sink_later (λ is. absurd (cc (is)));
      device = fails-still _ _ so_far.device_later (λ is. absurd (cc (is)));
    }
