use Rattle.std.proofs.Common.{◌≡◌, ap, ◌∙◌}
use Rattle.lt_line.specs.Waiting.{all_settled, nothing_waits}
use Rattle.lt_serve.specs.Ends.{with_end}
use Rattle.lt_serve.specs.View.{kept_in}
use Rattle.lt_serve.proofs.CallLaws.{gives-still}
use Rattle.lt_serve.proofs.TurnLaws.{finished-told, finished-untold}
use Rattle.lt_serve.proofs.turns.finish.Goals as goal
use Rattle.std.proofs.Common.{length, take, arith}
use Rattle.std.proofs.lemmas.List.{drop_all}
use Rattle.lt_serve.specs.declared.served.Served.TheVariants as served
use Rattle.lt_serve.specs.View.{store_in}
use Rattle.lt_serve.proofs.SightLaws.{finish-ends}

pub returns-in-Ok-clause-over : goal.returns-in-Ok-clause-over
returns-in-Ok-clause-over g c = λ e before input output start now r.
    let settled : c.settle.new.self ≡ all_settled (with_end (kept_in c.args.session.now) nothing_waits) = c.settle.ensures ∙ ap all_settled (c.end.ensures.end ∙ ap (with_end (kept_in c.args.session.now)) c.requires.none) in
    finished-told e before input output _ _ start now r c.settle.new.self c.emit.new.out _ _ _ _ settled c.in-Ok.ensures.all

pub returns-in-Err-clause-over : goal.returns-in-Err-clause-over
returns-in-Err-clause-over g c = λ e before input output start now r.
    let settled : c.settle.new.self ≡ all_settled (with_end (kept_in c.args.session.now) nothing_waits) = c.settle.ensures ∙ ap all_settled (c.end.ensures.end ∙ ap (with_end (kept_in c.args.session.now)) c.requires.none) in
    finished-untold e before input output _ _ start now r c.settle.new.self c.emit.new.out c.in-Err.ensures.front.0 _ _ _ _ settled c.in-Err.ensures.front.1

pub returns-in-Ok-clause-sink : goal.returns-in-Ok-clause-sink
returns-in-Ok-clause-sink g c = gives-still _ _ (record { shown = _; gained = c.in-Ok.ensures.all.gained }) c.emit.ensures.cause.later (λ is. absurd (cc (is)))

pub returns-in-Err-clause-sink : goal.returns-in-Err-clause-sink
returns-in-Err-clause-sink g c = record {
  gains = record { shown = _; gained = c.in-Err.ensures.front.1.gained };
  later = c.emit.ensures.cause.later;
  cause = λ is. c.in-Err.ensures.cause.failed;
}

pub returns-in-Ok-clause-ends : goal.returns-in-Ok-clause-ends
returns-in-Ok-clause-ends g c = λ v image input output start now s.
    let settled : c.settle.new.self ≡ all_settled (with_end (kept_in c.args.session.now) nothing_waits) = c.settle.ensures ∙ ap all_settled (c.end.ensures.end ∙ ap (with_end (kept_in c.args.session.now)) c.requires.none) in
    let said = c.settle.new.self.settled_text in
    record {
      added = take (length said) said;
      gained = c.in-Ok.ensures.all.gained;
      answers = finish-ends v (store_in c.args.session.now) image input output (kept_in c.args.session.now) start now s served.Done (length said) c.settle.new.self settled (λ done. drop_all (length said) said (omega arith)) (λ b is. absurd (cc (is)));
    }

pub returns-in-Err-clause-ends : goal.returns-in-Err-clause-ends
returns-in-Err-clause-ends g c = λ v image input output start now s.
    let settled : c.settle.new.self ≡ all_settled (with_end (kept_in c.args.session.now) nothing_waits) = c.settle.ensures ∙ ap all_settled (c.end.ensures.end ∙ ap (with_end (kept_in c.args.session.now)) c.requires.none) in
    let front = c.in-Err.ensures.front in
    record {
      added = take front.0 c.settle.new.self.settled_text;
      gained = front.1.gained;
      answers = finish-ends v (store_in c.args.session.now) image input output (kept_in c.args.session.now) start now s served.Sink front.0 c.settle.new.self settled (λ done. absurd (cc (done))) (λ b is. absurd (cc (is)));
    }
