use Rattle.std.proofs.Common.{◌≤◌, ◌<◌, ℕ, List, ◌++◌, take, drop, length, subst, sym, ◌∙◌, append-nil, length-drop, refl, arith, Bool}
use Rattle.std.proofs.lemmas.List.{take_rest}
use Rattle.lt_store.specs.Open.{extents_of}
use Rattle.lt_serve.specs.Rounds.{RoundFailed, LinesActed}
use Rattle.lt_serve.specs.Promise.{moment_of}
use Rattle.lt_serve.specs.View.{kept_in, store_in}
use Rattle.lt_serve.proofs.LineLaws.{taken-and-slice, taken-and-more}
use Rattle.lt_serve.proofs.RoundLaws.{went-none}
use Rattle.lt_serve.proofs.CallLaws.{acts-ok, acts-fail}
use Rattle.lt_serve.proofs.SizeLaws.{sizes-same, sizes-more}
use Rattle.lt_serve.proofs.session.Session.act_all.Goals as goal
use Rattle.lt_store.specs.Getting.{seen_of}
use Rattle.lt_serve.specs.Seeing.{FailsSeen, Sees}
use Rattle.lt_serve.proofs.PieceLaws.{at-exit}
use Rattle.lt_serve.proofs.SeeingLaws.{sees-none}

pub loop-at-init : goal.loop-at-init
loop-at-init g c =
    let s = c.args.self.now in
    let device = g.D.Device.state c.args.device.now in
    let now = moment_of g.D.Device c.args.device.now in
    record {
      within = omega arith;
      acting = c.requires.begun.acting;
      begun = λ zero. c.requires.room;
      sizes = sizes-same _;
      size = refl;
      later = omega arith;
      sees = λ image line shown free held.
          subst (λ (bytes : List ℕ). Sees (store_in s) image bytes (kept_in s) s.wrote c.args.out.now c.args.out.now (store_in s) device device) (sym (append-nil line))
          (sees-none (store_in s) image line (kept_in s) s.wrote c.args.out.now device free held c.requires.begun.durable c.requires.begun.none c.requires.begun.settled);
      went = λ durable line opened free held.
          subst (λ (bytes : List ℕ). LinesActed (store_in s) durable bytes (kept_in s) s.wrote c.args.out.now c.args.out.now (store_in s) now now) (sym (append-nil line))
          (subst (λ (wrote : Bool). LinesActed (store_in s) durable line (kept_in s) wrote c.args.out.now c.args.out.now (store_in s) now now) (sym c.requires.begun.none)
          (went-none (store_in s) durable line (kept_in s) c.args.out.now now opened free held c.requires.begun.settled));
    }

pub loop-at-preserved : goal.loop-at-preserved
loop-at-preserved g c =
    let s = c.args.self.now in
    let kept = c.loop-at.invariant in
    let more = c.in_ok-at.ensures in
    let n : c.in_ok-at.field-0 ≤ length (drop c.loop-at.at c.args.piece.now) = rw (take_rest c.args.piece.now c.loop-at.at) at more.within in
    let some : 0 < c.in_ok-at.field-0 = more.some in
    record {
      within = omega (arith, n, length-drop c.loop-at.at c.args.piece.now, kept.within);
      acting = more.acting;
      begun = λ zero. absurd (omega (arith, some, zero));
      sizes = sizes-more _ _ _ kept.sizes more.device.sizes;
      size = more.device.size ∙ kept.size;
      later = omega (arith, more.device.later, kept.later);
      sees = λ image line shown free held.
          subst (λ (bytes : List ℕ). Sees (store_in s) image bytes (kept_in c.advance.new.self) c.advance.new.self.wrote c.args.out.now c.advance.new.out (store_in c.advance.new.self) (g.D.Device.state c.args.device.now) (g.D.Device.state c.advance.new.device)) (taken-and-more line c.args.piece.now c.loop-at.at c.in_ok-at.field-0)
          (more.ok.1 (store_in s) image (line ++ take c.loop-at.at c.args.piece.now) c.args.out.now (g.D.Device.state c.args.device.now) shown (kept.sees image line shown free held));
      went = λ durable line opened free held.
          subst (λ (bytes : List ℕ). LinesActed (store_in s) durable bytes (kept_in c.advance.new.self) c.advance.new.self.wrote c.args.out.now c.advance.new.out (store_in c.advance.new.self) (moment_of g.D.Device c.args.device.now) (moment_of g.D.Device c.advance.new.device)) (taken-and-more line c.args.piece.now c.loop-at.at c.in_ok-at.field-0)
          (more.ok.0 (store_in s) durable (line ++ take c.loop-at.at c.args.piece.now) c.args.out.now (moment_of g.D.Device c.args.device.now) opened kept.sizes.extents (kept.went durable line opened free held));
    }

pub returns-in_err-at-clause-err : goal.returns-in_err-at-clause-err
returns-in_err-at-clause-err g c =
    let s = c.args.self.now in
    let device = moment_of g.D.Device c.args.device.now in
    let after = moment_of g.D.Device c.advance.new.device in
    let held = c.advance.new.self.lines in
    let out : List ℕ = c.advance.new.out.settled_text in
    at-exit c.from_residual.result c.in_err-at.field-0.0 _ c.from_residual.ensures.1 (
      (λ durable line opened free was. (subst (λ (bytes : List ℕ). RoundFailed (extents_of (store_in s)) durable bytes held c.in_err-at.field-0.0 c.args.out.now out device after) (taken-and-slice line c.args.piece.now c.loop-at.at)
          (c.in_err-at.ensures.err.0 (store_in s) durable (line ++ take c.loop-at.at c.args.piece.now) c.args.out.now device opened c.loop-at.invariant.sizes.extents c.requires.begun.durable (c.loop-at.invariant.went durable line opened free was)))),
      (λ image line shown free held.
          let s = c.args.self.now in
          subst (λ (bytes : List ℕ). FailsSeen (seen_of (store_in s) image) bytes c.in_err-at.field-0.0 c.args.out.now.settled_text c.advance.new.out.settled_text) (taken-and-slice line c.args.piece.now c.loop-at.at)
          (c.in_err-at.ensures.err.1 (store_in s) image (line ++ take c.loop-at.at c.args.piece.now) c.args.out.now (g.D.Device.state c.args.device.now) shown (c.loop-at.invariant.sees image line shown free held))),
    )

pub returns-in_err-at-clause-device : goal.returns-in_err-at-clause-device
returns-in_err-at-clause-device g c =
    let kept = c.loop-at.invariant in
    acts-fail _ _ _ c.advance.result c.from_residual.result c.in_err-at.field-0.0 _ _ _ _ _ c.in_err-at.was c.from_residual.ensures.1 kept.sizes kept.size kept.later c.advance.ensures.device

pub returns-after-loop-at-clause-device : goal.returns-after-loop-at-clause-device
returns-after-loop-at-clause-device g c =
    let kept = c.loop-at.invariant in
    acts-ok _ _ _ _ _ _ _ kept.sizes kept.size kept.later

pub returns-else-room-ge-REPLY_ROOM-clause-device : goal.returns-else-room-ge-REPLY_ROOM-clause-device
returns-else-room-ge-REPLY_ROOM-clause-device g c =
    let kept = c.loop-at.invariant in
    acts-ok _ _ _ _ _ _ _ kept.sizes kept.size kept.later
