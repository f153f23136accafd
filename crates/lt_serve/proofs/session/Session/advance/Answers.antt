use Rattle.std.proofs.Common.{◌≡◌, ℕ, List, [], ◌∷◌, ◌++◌, take, drop, take-append-drop, refl, sym, ap, subst, ◌∙◌, arith}
use Rattle.std.proofs.lemmas.List.{take_all}
use Rattle.lt_image.specs.Standing.{after_writes}
use Rattle.lt_language.specs.Commands.{line_feed}
use Rattle.lt_line.specs.Held.{HeldLine}
use Rattle.lt_line.specs.Waiting.{Waiting}
use Rattle.lt_store.specs.Open.{extents_of}
use Rattle.lt_serve.specs.Rounds.{RoundFailed, LinesActed}
use Rattle.lt_serve.specs.Promise.{moment_of}
use Rattle.lt_serve.specs.View.{kept_in, store_in}
use Rattle.lt_serve.proofs.CallLaws.{acts-ok, acts-fail}
use Rattle.lt_serve.proofs.SizeLaws.{sizes-same}
use Rattle.lt_serve.proofs.RoundLaws.{went-on, kept-line, went-line, stopped-line}
use Rattle.lt_serve.proofs.session.Session.advance.Goals as goal
use Rattle.std.proofs.Common.{Err}
use Rattle.lt_language.specs.Commands.{rest_of}
use Rattle.lt_store.specs.Getting.{seen_of}
use Rattle.lt_serve.specs.Seeing.{FailsSeen, Sees}
use Rattle.lt_serve.proofs.PieceLaws.{at-exit}
use Rattle.lt_serve.proofs.SeeingLaws.{fails-line, sees-kept, sees-line, sees-on}

pub returns-in_err-answer-clause-err : goal.returns-in_err-answer-clause-err
returns-in_err-answer-clause-err g c =
    let s = c.args.self.now in
    let piece = c.args.piece.now in
    let device = moment_of g.D.Device c.args.device.now in
    let after = moment_of g.D.Device c.answer.new.device in
    let held = c.answer.new.self.lines in
    let out : List ℕ = c.answer.new.out.settled_text in
    let n = c.feed-taken.result in
    let ready = sym c.ready.ensures ∙ c.if-ready.true in
    let ends = c.feed-taken.ensures.ends ready in
    let same_line = c.in_err-answer.ensures.untold.1 in
    let whole : (ends.chunk ++ line_feed ∷ []) ++ drop n piece ≡ piece = ap (λ xs. xs ++ drop n piece) (sym ends.taken_is) ∙ take-append-drop n piece in
    at-exit c.from_residual.result c.in_err-answer.field-0.0 _ c.from_residual.ensures.1 (
      (λ v durable bytes waiting0 start opened same nothing went. (subst (λ (more : List ℕ). RoundFailed (extents_of v) durable (bytes ++ more) held c.in_err-answer.field-0.0 waiting0 out start after) whole
          (stopped-line v durable bytes (kept_in s) s.wrote waiting0 c.args.out.now (store_in s) start device went nothing ends.chunk (drop n piece) out held c.in_err-answer.field-0.0 after
          (c.in_err-answer.ensures.err (after_writes durable (take went.goes.sure (v.log.pending ++ went.writes))) went.goes.opened) (ap (λ (w : Waiting). w.settled_text) c.in_err-answer.ensures.untold.0)
          ends.unbroken (ap (λ (h : HeldLine). h.is_ended) same_line ∙ ready) (ap (λ (h : HeldLine). h.kept) same_line ∙ ends.kept_is)))),
      (λ v image before waiting0 start shown s.
          let self = c.args.self.now in
          let device = g.D.Device.state c.args.device.now in
          let piece = c.args.piece.now in
          let n = c.feed-taken.result in
          let ends = c.feed-taken.ensures.ends (sym c.ready.ensures ∙ c.if-ready.true) in
          let whole : (ends.chunk ++ line_feed ∷ []) ++ drop n piece ≡ piece = ap (λ xs. xs ++ drop n piece) (sym ends.taken_is) ∙ take-append-drop n piece in
          let held = sees-kept v image before ends.chunk (kept_in self) c.feed-taken.new.self.kept self.wrote waiting0 c.args.out.now (store_in self) start device s ends.kept_is in
          subst (λ (more : List ℕ). FailsSeen (seen_of v image) (before ++ more) c.in_err-answer.field-0.0 waiting0.settled_text c.answer.new.out.settled_text) whole
          (fails-line v image before ends.chunk (drop n piece) (kept_in self) self.wrote waiting0 c.args.out.now (store_in self) start device s shown c.in_err-answer.field-0.0 c.answer.new.out.settled_text ends.unbroken
          (λ b is. c.answer.ensures.stops b (c.in_err-answer.was ∙ ap Err is) (rest_of before ++ ends.chunk) held) (ap (λ (w : Waiting). w.settled_text) c.in_err-answer.ensures.untold.0))),
    )

pub returns-in_ok-answer-clause-ok : goal.returns-in_ok-answer-clause-ok
returns-in_ok-answer-clause-ok g c = (
  (λ v durable bytes waiting0 start opened same went.
      let s = c.args.self.now in
      let device = moment_of g.D.Device c.args.device.now in
      let after = moment_of g.D.Device c.answer.new.device in
      let ends = c.feed-taken.ensures.ends (sym c.ready.ensures ∙ c.if-ready.true) in
      let now = after_writes durable (take went.goes.sure (v.log.pending ++ went.writes)) in
      let answered = c.in_ok-answer.ensures.ok _ now (kept-line v durable bytes ends.chunk (kept_in s) c.feed-taken.new.self.kept s.wrote waiting0 c.args.out.now (store_in s) start device went ends.kept_is) went.goes.opened in
      let line : [] ≡ kept_in c.answer.new.self = sym c.in_ok-answer.ensures.next in
      subst (λ (kept : List ℕ). LinesActed v durable (bytes ++ take c.feed-taken.result c.args.piece.now) kept c.answer.new.self.wrote waiting0 c.answer.new.out (store_in c.answer.new.self) start after) line
      (subst (λ (taken : List ℕ). LinesActed v durable (bytes ++ taken) [] c.answer.new.self.wrote waiting0 c.answer.new.out (store_in c.answer.new.self) start after) (sym ends.taken_is)
      (went-line v durable bytes ends.chunk (kept_in s) s.wrote waiting0 c.args.out.now (store_in s) start device went opened ends.unbroken c.answer.new.out (store_in c.answer.new.self) after c.answer.new.self.wrote answered same))),
  (λ v image before waiting0 start shown s.
      let self = c.args.self.now in
      let device = g.D.Device.state c.args.device.now in
      let after = g.D.Device.state c.answer.new.device in
      let ends = c.feed-taken.ensures.ends (sym c.ready.ensures ∙ c.if-ready.true) in
      let told = c.in_ok-answer.ensures.tells (rest_of before ++ ends.chunk) (sees-kept v image before ends.chunk (kept_in self) c.feed-taken.new.self.kept self.wrote waiting0 c.args.out.now (store_in self) start device s ends.kept_is) in
      let line : [] ≡ kept_in c.answer.new.self = sym c.in_ok-answer.ensures.next in
      subst (λ (kept : List ℕ). Sees v image (before ++ take c.feed-taken.result c.args.piece.now) kept c.answer.new.self.wrote waiting0 c.answer.new.out (store_in c.answer.new.self) start after) line
      (subst (λ (taken : List ℕ). Sees v image (before ++ taken) [] c.answer.new.self.wrote waiting0 c.answer.new.out (store_in c.answer.new.self) start after) (sym ends.taken_is)
      (sees-line v image before ends.chunk (kept_in self) waiting0 c.args.out.now (store_in self) start device ends.unbroken c.answer.new.out (store_in c.answer.new.self) after shown self.wrote told.taken c.answer.new.self.wrote told.unsettled s told.tells told.wrote_is told.settled))),
)

pub returns-else-ready-clause-ok : goal.returns-else-ready-clause-ok
returns-else-ready-clause-ok g c = (
  (λ v durable bytes waiting0 start opened same went.
      let s = c.args.self.now in
      let device = moment_of g.D.Device c.args.device.now in
      let piece = c.args.piece.now in
      let all = c.feed-taken.ensures.goes_on (sym c.ready.ensures ∙ c.if-ready.false) in
      let whole : piece ≡ take c.feed-taken.result piece = sym (take_all c.feed-taken.result piece (omega (arith, all.0))) in
      subst (λ (taken : List ℕ). LinesActed v durable (bytes ++ taken) c.feed-taken.new.self.kept s.wrote waiting0 c.args.out.now (store_in s) start device) whole
      (went-on v durable bytes piece (kept_in s) c.feed-taken.new.self.kept s.wrote waiting0 c.args.out.now (store_in s) start device went all.1.unbroken all.1.kept_is)),
  (λ v image before waiting0 start shown s.
      let self = c.args.self.now in
      let device = g.D.Device.state c.args.device.now in
      let piece = c.args.piece.now in
      let all = c.feed-taken.ensures.goes_on (sym c.ready.ensures ∙ c.if-ready.false) in
      let whole : piece ≡ take c.feed-taken.result piece = sym (take_all c.feed-taken.result piece (omega (arith, all.0))) in
      subst (λ (taken : List ℕ). Sees v image (before ++ taken) c.feed-taken.new.self.kept self.wrote waiting0 c.args.out.now (store_in self) start device) whole
      (sees-on v image before piece (kept_in self) c.feed-taken.new.self.kept self.wrote waiting0 c.args.out.now (store_in self) start device s all.1.unbroken all.1.kept_is)),
)

pub returns-in_err-answer-clause-device : goal.returns-in_err-answer-clause-device
returns-in_err-answer-clause-device g c =
    acts-fail _ _ _ c.answer.result c.from_residual.result c.in_err-answer.field-0.0 _ _ _ _ _ c.in_err-answer.was c.from_residual.ensures.1 (sizes-same _) refl (omega arith) c.answer.ensures.device

pub returns-in_ok-answer-clause-device : goal.returns-in_ok-answer-clause-device
returns-in_ok-answer-clause-device g c =
    let a = c.in_ok-answer.ensures.device in
    acts-ok _ _ _ _ _ _ _ a.sizes a.size a.later

pub returns-else-ready-clause-device : goal.returns-else-ready-clause-device
returns-else-ready-clause-device g c = acts-ok _ _ _ _ _ _ _ (sizes-same _) refl (omega arith)
