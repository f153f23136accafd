use Rattle.std.proofs.Common.{◌≡◌, ℕ, ap, inr, refl, sym, subst, ◌∙◌, Err, arith}
use Rattle.lt_device.specs.State as told
use Rattle.lt_serve.specs.Promise.{ServesFrom, moment_of}
use Rattle.lt_serve.proofs.CallLaws.{fails-behind, gives-none, not-unopened, takes-still, unopened-device}
use Rattle.lt_serve.proofs.TurnLaws.{turned-opened, turned-unopened, unopened-named}
use Rattle.lt_image.specs.Versions.{open_image}
use Rattle.lt_serve.proofs.SizeLaws.{found-by-get}
use Rattle.lt_serve.proofs.turns.serve.Goals as goal
use Rattle.lt_store.proofs.OpenLaws.{not_both}
use Rattle.lt_image.specs.Versions.{Opened}
use Rattle.lt_store.specs.Getting.{seen_of}
use Rattle.lt_store.specs.Promise.{seen_on}
use Rattle.lt_store.proofs.SeenLaws.{opened-seen}
use Rattle.lt_serve.specs.Promise.{ServesSeen, Sight}
use Rattle.lt_serve.specs.View.{store_in}
use Rattle.lt_serve.proofs.ResultLaws.{one-ok}
use Rattle.lt_serve.proofs.SightLaws.{unopened-sees}

pub returns-in-Ok-clause-over : goal.returns-in-Ok-clause-over
returns-in-Ok-clause-over g c = λ before r.
    let opened = c.in-Ok.ensures.opened before r in
    let calls = c.in-Ok.ensures.calls in
    subst (λ (e : ℕ). ServesFrom g.S.Source g.K.Sink g.D.Device e before c.serve_open.result c.args.source.now c.serve_open.new.source c.args.sink.now c.serve_open.new.sink c.args.device.now c.serve_open.new.device) opened.1
    (turned-opened _ before c.serve_open.result _ _ _ _ _ _ (moment_of g.D.Device c.args.device.now) (moment_of g.D.Device c.open.new.device) (moment_of g.D.Device c.serve_open.new.device) (sym calls.state) calls.count.later (c.serve_open.ensures.over before opened.0))

pub returns-in-Err-clause-over : goal.returns-in-Err-clause-over
returns-in-Err-clause-over g c = λ before r.
    let calls = c.in-Err.ensures.calls in
    turned-unopened _ before c.in-Err.fault c.unopened_of.result _ _ _ (moment_of g.D.Device c.args.device.now) (moment_of g.D.Device c.open.new.device) c.unopened_of.ensures calls.state calls.count.later r (λ block is. c.in-Err.ensures.at_rest before r block (ap Err is))

pub returns-in-Ok-clause-unopened : goal.returns-in-Ok-clause-unopened
returns-in-Ok-clause-unopened g c = λ b fails.
    let r = c.in-Ok.ensures.reads fails.image fails.shown in
    absurd (not_both (open_image fails.image) r.opened b r.opens fails.stops)

pub returns-in-Err-clause-unopened : goal.returns-in-Err-clause-unopened
returns-in-Err-clause-unopened g c = λ b fails. (
  unopened-named c.in-Err.fault c.unopened_of.result _ b c.unopened_of.ensures (λ block is. c.in-Err.ensures.damaged block (ap Err is)) fails,
  c.in-Err.ensures.calls.state,
  refl,
  refl,
)

pub returns-in-Ok-clause-damaged : goal.returns-in-Ok-clause-damaged
returns-in-Ok-clause-damaged g c = λ b is. inr (found-by-get _ _ b _ c.in-Ok.ensures.reads (c.serve_open.ensures.damaged b is))

pub returns-in-Ok-clause-seen : goal.returns-in-Ok-clause-seen
returns-in-Ok-clause-seen g c = λ image opened shown opens.
    let r = c.in-Ok.ensures.reads image shown in
    let same : r.opened ≡ opened = one-ok (open_image image) r.opened opened r.opens opens in
    let sight : seen_of (store_in c.in-Ok.session) image ≡ seen_on opened image = (λ i key. opened-seen (store_in c.in-Ok.session) image r key i) ∙ ap (λ (o : Opened). seen_on o image) same in
    subst (λ (f : Sight). ServesSeen f c.serve_open.result (g.S.Source.left c.args.source.now) (g.S.Source.left c.serve_open.new.source) (g.K.Sink.stands c.args.sink.now) (g.K.Sink.stands c.serve_open.new.sink)) sight
    (c.serve_open.ensures.seen image (ap (λ (s : told.State). s.shown) c.in-Ok.ensures.calls.state ∙ shown))

pub returns-in-Err-clause-seen : goal.returns-in-Err-clause-seen
returns-in-Err-clause-seen g c = λ image opened shown opens.
    unopened-sees c.in-Err.fault c.unopened_of.result image opened _ _ c.unopened_of.ensures opens (λ b is. c.in-Err.ensures.damaged b (ap Err is) image shown)

pub returns-in-Ok-clause-causes : goal.returns-in-Ok-clause-causes
returns-in-Ok-clause-causes g c =
    let causes = c.serve_open.ensures.causes in
    record {
      turns = causes.turns;
      pieces = causes.pieces;
      source = causes.source;
      sink = causes.sink;
      device = fails-behind _ _ _ c.in-Ok.ensures.calls.later causes.device.later causes.device.cause;
    }

pub returns-in-Err-clause-causes : goal.returns-in-Err-clause-causes
returns-in-Err-clause-causes g c =
    let calls = c.in-Err.ensures.calls in
    let other = not-unopened c.in-Err.fault c.unopened_of.result c.unopened_of.ensures in
    record {
      turns = λ is. absurd (other.2 is);
      pieces = omega arith;
      source = takes-still _ _ (omega arith) other.0;
      sink = gives-none _ other.1;
      device = record { later = calls.later; cause = λ is. calls.cause (ap Err (unopened-device c.in-Err.fault (sym c.unopened_of.ensures ∙ is))) };
    }
