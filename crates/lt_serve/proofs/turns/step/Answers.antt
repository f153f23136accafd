use Rattle.std.proofs.Common.{◌≡◌, ◌++◌, ℕ, List, refl, subst, sym, ap, take, drop, [], arith}
use Rattle.lt_image.specs.Standing.{after_writes}
use Rattle.lt_language.specs.Commands.{rest_of}
use Rattle.lt_language.proofs.LineLaws.{lines_split}
use Rattle.lt_line.specs.Waiting.{all_settled}
use Rattle.lt_serve.specs.declared.served.Served.{Served}
use Rattle.lt_serve.specs.declared.served.Served.TheVariants as served
use Rattle.lt_serve.specs.Rounds.{all_text}
use Rattle.lt_serve.specs.Promise.{moment_of}
use Rattle.lt_serve.specs.View.{store_in}
use Rattle.lt_store.specs.Open.{extents_of}
use Rattle.lt_serve.specs.Faults.{served_of}
use Rattle.lt_serve.proofs.CallLaws.{acts-ok, acts-as, acts-other, by-device, by-damaged, gives-still}
use Rattle.lt_serve.proofs.LineLaws.{taken-and-rest}
use Rattle.lt_serve.proofs.PieceLaws.{PieceStopped, told-of, piece-untold, piece-stopped, stepped-on, stepped-over}
use Rattle.lt_serve.proofs.turns.step.Goals as goal
use Rattle.std.proofs.Common.{◌∙◌, append_assoc, take-append-drop}
use Rattle.std.proofs.Math.Seq.{take-length}
use Rattle.lt_io.specs.Streams.{Gains}
use Rattle.lt_store.specs.Getting.{seen_of}
use Rattle.lt_serve.specs.Promise.{AnswersSeen}
use Rattle.lt_serve.specs.Seeing.{FailsSeen}
use Rattle.lt_serve.specs.View.{kept_in}
use Rattle.lt_serve.proofs.SightLaws.{ends-cut, round-fails, round-more}

pub returns-in-Ok-emit-clause-on : goal.returns-in-Ok-emit-clause-on
returns-in-Ok-emit-clause-on g c = (
  (λ before input output start r.
      stepped-on _ before input output _ _ start _ r (take c.in-Ok.taken c.args.piece.now) _ c.args.replies.now c.round.new.out c.emit.new.out _ _ _ _ c.requires.ready.none
      (c.in-Ok.ensures.ok (after_writes before r.writes) (rest_of input) r.opened (lines_split input).last r.line) c.in-Ok-emit.ensures.all),
  (λ v image input output start shown s.
      let none : all_text c.args.replies.now ≡ [] = ap all_text c.requires.ready.none in
      let said = c.round.new.out.settled_text in
      record {
        added = said;
        gained = subst (λ (xs : List ℕ). Gains (g.K.Sink.stands c.args.sink.now) (g.K.Sink.stands c.emit.new.sink) xs) (take-length said) c.in-Ok-emit.ensures.all.gained;
        lines = round-more v (store_in c.args.session.now) image input output (kept_in c.args.session.now) start (g.D.Device.state c.args.device.now) s shown (take c.in-Ok.taken c.args.piece.now) (kept_in c.round.new.self) (store_in c.round.new.self) (g.D.Device.state c.round.new.device) said
            (λ image' line told free held. let r = c.in-Ok.ensures.sees image' line told free held in (r.0, r.1 ∙ ap (λ t. t ++ r.0) none, r.2));
      }),
)

pub returns-in-Err-emit-clause-over : goal.returns-in-Err-emit-clause-over
returns-in-Err-emit-clause-over g c = λ short. (
  (λ before input output start r.
      let front = c.in-Err-emit.ensures.front in
      stepped-over _ before input output _ _ start _ r c.args.piece.now served.Sink _ _ _ _ _ short
      (subst (λ (bytes : List ℕ). PieceStopped (extents_of (store_in c.args.session.now)) (after_writes before r.writes) bytes served.Sink (g.K.Sink.stands c.args.sink.now) (g.K.Sink.stands c.emit.new.sink) (g.K.Sink.faults c.args.sink.now) (g.K.Sink.faults c.emit.new.sink) (moment_of g.D.Device c.args.device.now) (moment_of g.D.Device c.round.new.device)) (taken-and-rest (rest_of input) c.args.piece.now c.in-Ok.taken)
      (piece-untold _ _ (rest_of input ++ take c.in-Ok.taken c.args.piece.now) (drop c.in-Ok.taken c.args.piece.now) _ c.args.replies.now c.round.new.out c.emit.new.out _ front.0 _ _ _ _ _ _ c.requires.ready.none
      (c.in-Ok.ensures.ok (after_writes before r.writes) (rest_of input) r.opened (lines_split input).last r.line) front.1))),
  (λ v image input output start shown s.
      let none : all_text c.args.replies.now ≡ [] = ap all_text c.requires.ready.none in
      let said = c.round.new.out.settled_text in
      let front = c.in-Err-emit.ensures.front in
      let piece = c.args.piece.now in
      let n = c.in-Ok.taken in
      let lines = round-more v (store_in c.args.session.now) image input output (kept_in c.args.session.now) start (g.D.Device.state c.args.device.now) s shown (take n piece) (kept_in c.round.new.self) (store_in c.round.new.self) (g.D.Device.state c.round.new.device) said
      (λ image' line told free held. let r = c.in-Ok.ensures.sees image' line told free held in (r.0, r.1 ∙ ap (λ t. t ++ r.0) none, r.2)) in
      record {
        added = take front.0 said;
        gained = front.1.gained;
        answers = subst (λ (bytes : List ℕ). AnswersSeen (seen_of v image) served.Sink bytes (output ++ take front.0 said)) (taken-and-rest input piece n)
            (ends-cut (seen_of v image) (input ++ take n piece) (output ++ said) _ lines served.Sink (drop n piece) (output ++ take front.0 said) (drop front.0 said)
            (ap (λ t. output ++ t) (sym (take-append-drop front.0 said)) ∙ sym (append_assoc output (take front.0 said) (drop front.0 said))) (λ is. absurd (cc (is))) (λ b is. absurd (cc (is))));
      }),
)

pub returns-in-Err-clause-over : goal.returns-in-Err-clause-over
returns-in-Err-clause-over g c = λ short. (
  (λ before input output start r.
      let none : all_text c.args.replies.now ≡ [] = ap all_text c.requires.ready.none in
      let stopped = c.in-Err.ensures.err (after_writes before r.writes) (rest_of input) r.opened (lines_split input).last r.line in
      stepped-over _ before input output _ _ start _ r c.args.piece.now c.served_of.result _ _ _ _ _ short
      (subst (λ (status : Served). PieceStopped (extents_of (store_in c.args.session.now)) (after_writes before r.writes) (rest_of input ++ c.args.piece.now) status (g.K.Sink.stands c.args.sink.now) (g.K.Sink.stands c.emit-in-Err.new.sink) (g.K.Sink.faults c.args.sink.now) (g.K.Sink.faults c.emit-in-Err.new.sink) (moment_of g.D.Device c.args.device.now) (moment_of g.D.Device c.round.new.device)) (sym c.served_of.ensures)
      (piece-stopped _ _ (rest_of input ++ c.args.piece.now) c.round.new.self.lines c.in-Err.fault (all_settled c.args.replies.now) c.round.new.out c.emit-in-Err.new.out _ _ _ _ _ _ c.emit-in-Err.result none stopped
      c.emit-in-Err.ensures.all c.emit-in-Err.ensures.front c.emit-in-Err.ensures.cause))),
  (λ v image input output start shown s.
      let first : (all_text c.args.replies.now) ≡ [] = ap all_text c.requires.ready.none in
      let said = c.round.new.out.settled_text in
      let t = told-of c.emit-in-Err.result (g.K.Sink.stands c.args.sink.now) (g.K.Sink.stands c.emit-in-Err.new.sink) (g.K.Sink.faults c.args.sink.now) (g.K.Sink.faults c.emit-in-Err.new.sink) c.round.new.out c.emit-in-Err.new.out c.emit-in-Err.ensures.all c.emit-in-Err.ensures.front c.emit-in-Err.ensures.cause in
      record {
        added = t.output;
        gained = t.gained;
        answers = subst (λ (status : Served). AnswersSeen (seen_of v image) status (input ++ c.args.piece.now) (output ++ t.output)) (sym c.served_of.ensures)
            (round-fails v (store_in c.args.session.now) image input output (kept_in c.args.session.now) start (g.D.Device.state c.args.device.now) s shown c.args.piece.now said t.output t.behind c.in-Err.fault t.whole
            (λ image' line told free held. subst (λ (t : List ℕ). FailsSeen (seen_of (store_in c.args.session.now) image') (line ++ c.args.piece.now) c.in-Err.fault t said) first (c.in-Err.ensures.fails image' line told free held)));
      }),
)

pub returns-in-Ok-emit-clause-ready : goal.returns-in-Ok-emit-clause-ready
returns-in-Ok-emit-clause-ready g c =
    let device = c.in-Ok.ensures.device in
    record {
      up = c.in-Ok.ensures.up;
      none = c.in-Ok-emit.ensures.free c.in-Ok.ensures.settled;
      within = omega (arith, c.requires.ready.within, device.sizes.blocks, device.size);
    }

pub returns-in-Ok-emit-clause-device : goal.returns-in-Ok-emit-clause-device
returns-in-Ok-emit-clause-device g c =
    let device = c.in-Ok.ensures.device in
    acts-ok _ _ _ _ _ _ _ device.sizes device.size device.later

pub returns-in-Err-emit-clause-device : goal.returns-in-Err-emit-clause-device
returns-in-Err-emit-clause-device g c = acts-other _ _ c.in-Ok.taken _ _ served.Sink _ _ _ _ (λ is. absurd (cc (is))) (λ b is. absurd (cc (is))) c.in-Ok.ensures.device

pub returns-in-Err-clause-device : goal.returns-in-Err-clause-device
returns-in-Err-clause-device g c =
    acts-as _ _ _ _ c.in-Err.fault _ _ _ _ served_of _ _ by-device by-damaged refl c.served_of.ensures c.in-Err.ensures.device

pub returns-in-Ok-emit-clause-sink : goal.returns-in-Ok-emit-clause-sink
returns-in-Ok-emit-clause-sink g c =
    gives-still _ _ (record { shown = _; gained = c.in-Ok-emit.ensures.all.gained }) c.emit.ensures.cause.later (λ is. absurd (cc (is)))

pub returns-in-Err-emit-clause-sink : goal.returns-in-Err-emit-clause-sink
returns-in-Err-emit-clause-sink g c = record {
  gains = record { shown = _; gained = c.in-Err-emit.ensures.front.1.gained };
  later = c.emit.ensures.cause.later;
  cause = λ is. c.in-Err-emit.ensures.cause.failed;
}
