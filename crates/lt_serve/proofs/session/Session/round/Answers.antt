use Rattle.std.proofs.Common.{◌≡◌, ℕ, List, ◌++◌, take, drop, refl, subst, sym, ap, ◌∙◌, arith}
use Rattle.lt_image.specs.Standing.{after_writes}
use Rattle.lt_line.specs.Waiting.{Waiting}
use Rattle.lt_store.specs.Open.{StoreView, extents_of}
use Rattle.lt_store.specs.View.{view_of}
use Rattle.lt_serve.specs.declared.faults.RoundFault.TheVariants.{Device}
use Rattle.lt_serve.specs.Promise.{moment_of}
use Rattle.lt_serve.specs.Rounds.{RoundFailed, all_text}
use Rattle.lt_serve.specs.Sizes.{SameSizes}
use Rattle.lt_serve.specs.View.{kept_in, store_in}
use Rattle.lt_serve.proofs.CallLaws.{acts-ok, acts-device}
use Rattle.lt_serve.proofs.LineLaws.{taken-and-rest, some-left}
use Rattle.lt_serve.proofs.RoundLaws.{round-after, stopped-commit, lost-commit}
use Rattle.lt_serve.proofs.session.Session.round.Goals as goal
use Rattle.lt_store.specs.Getting.{seen_of}
use Rattle.lt_serve.specs.Seeing.{FailsSeen}
use Rattle.lt_serve.proofs.SeeingLaws.{fails-commit, round-sees}

pub returns-in-Err-clause-err : goal.returns-in-Err-clause-err
returns-in-Err-clause-err g c = λ durable line opened free held.
    let e = extents_of (store_in c.args.self.now) in
    let device = moment_of g.D.Device c.args.device.now in
    let after = moment_of g.D.Device c.act_all.new.device in
    subst (λ (waiting0 : Waiting). RoundFailed e durable (line ++ c.args.piece.now) c.act_all.new.self.lines c.in-Err.fault waiting0 c.drop_unsettled.new.self.settled_text device after) c.settle.ensures
    (subst (λ (settled : List ℕ). RoundFailed e durable (line ++ c.args.piece.now) c.act_all.new.self.lines c.in-Err.fault c.settle.new.self settled device after) (sym (ap (λ (w : Waiting). w.settled_text) c.drop_unsettled.ensures))
    (c.in-Err.ensures.err.0 durable line opened free held))

pub returns-in-Err-committed-clause-err : goal.returns-in-Err-committed-clause-err
returns-in-Err-committed-clause-err g c = λ durable line opened free held.
    let s = c.args.self.now in
    let w = c.act_all.new.self in
    let piece = c.args.piece.now in
    let device = moment_of g.D.Device c.args.device.now in
    let mid = moment_of g.D.Device c.act_all.new.device in
    let after = moment_of g.D.Device c.commit-committed.new.device in
    let n = c.in-Ok.taken in
    let nothing = (s.idle c.requires.up).durable in
    let went = c.in-Ok.ensures.ok.0 durable line opened free held in
    let now = after_writes durable (take went.goes.sure ((store_in s).log.pending ++ went.writes)) in
    let settled : c.drop_unsettled-in-Err-committed.new.self.settled_text ≡ c.act_all.new.out.settled_text = ap (λ (x : Waiting). x.settled_text) c.drop_unsettled-in-Err-committed.ensures in
    subst (λ (waiting0 : Waiting). RoundFailed (extents_of (store_in s)) durable (line ++ piece) w.lines Device waiting0 c.drop_unsettled-in-Err-committed.new.self.settled_text device after) c.settle.ensures
    (subst (λ (bytes : List ℕ). RoundFailed (extents_of (store_in s)) durable bytes w.lines Device c.settle.new.self c.drop_unsettled-in-Err-committed.new.self.settled_text device after) (taken-and-rest line piece n)
    (stopped-commit (store_in s) durable (line ++ take n piece) (kept_in w) w.wrote c.settle.new.self c.act_all.new.out (store_in w) device mid went nothing (drop n piece) c.drop_unsettled-in-Err-committed.new.self.settled_text w.lines Device after
    (lost-commit (store_in w) now mid after went.goes.opened (omega (arith, c.in-Err-committed.ensures.calls.count)) (c.in-Err-committed.ensures.broken now went.goes.opened)) settled c.in-Ok.ensures.acting.open_line refl (λ some. c.in-Ok.ensures.taken.enough (some-left piece n some))))

pub returns-clause-ok : goal.returns-clause-ok
returns-clause-ok g c = λ durable line opened free held.
    let s = c.args.self.now in
    let w = c.act_all.new.self in
    let device = moment_of g.D.Device c.args.device.now in
    let mid = moment_of g.D.Device c.act_all.new.device in
    let after = moment_of g.D.Device c.commit-committed.new.device in
    let nothing = (s.idle c.requires.up).durable in
    let went = c.in-Ok.ensures.ok.0 durable line opened free held in
    let now = after_writes durable (take went.goes.sure ((store_in s).log.pending ++ went.writes)) in
    round-after (store_in s) durable (line ++ take c.in-Ok.taken c.args.piece.now) (kept_in w) w.wrote c.settle.new.self c.act_all.new.out (store_in w) device mid went nothing
    (view_of c.commit-committed.new.self) after (c.in-Ok-committed.ensures.opened now went.goes.opened) (λ idle. ap g.D.Device.state (c.commit-committed.ensures.idle idle).1) (omega (arith, c.in-Ok-committed.ensures.calls.count)) (ap (λ (v : StoreView). v.log.pending) c.in-Ok-committed.ensures.ok)
    c.args.out.now c.settle-2.new.self c.settle.ensures c.settle-2.ensures

pub returns-in-Err-committed-clause-device : goal.returns-in-Err-committed-clause-device
returns-in-Err-committed-clause-device g c =
    let calls = c.in-Err-committed.ensures.calls in
    acts-device _ _ _ c.in-Ok.taken _ _ _ _ _ (λ b is. absurd (cc (is))) c.in-Ok.ensures.device calls.size calls.later (calls.cause refl)

pub returns-clause-device : goal.returns-clause-device
returns-clause-device g c =
    let first = c.in-Ok.ensures.device in
    let calls = c.in-Ok-committed.ensures.calls in
    acts-ok _ _ _ _ _ _ _
    (subst (λ (x : StoreView). SameSizes (store_in c.args.self.now) x) (sym c.in-Ok-committed.ensures.ok) (record { geometry = first.sizes.geometry; extents = first.sizes.extents; blocks = first.sizes.blocks }))
    (calls.size ∙ first.size) (omega (arith, calls.later, first.later))

pub returns-clause-sees : goal.returns-clause-sees
returns-clause-sees g c = λ image line shown free held.
    let s = c.args.self.now in
    let w = c.act_all.new.self in
    let state = g.D.Device.state in
    round-sees (store_in s) image (line ++ take c.in-Ok.taken c.args.piece.now) (kept_in w) w.wrote c.settle.new.self c.act_all.new.out (store_in w) (state c.args.device.now) (state c.act_all.new.device) (c.in-Ok.ensures.ok.1 image line shown free held)
    (view_of c.commit-committed.new.self) (state c.commit-committed.new.device) c.in-Ok-committed.ensures.ok (λ idle. ap state (c.commit-committed.ensures.idle idle).1) c.args.out.now c.settle-2.new.self c.settle.ensures c.settle-2.ensures

pub returns-in-Err-clause-fails : goal.returns-in-Err-clause-fails
returns-in-Err-clause-fails g c = λ image line shown free held.
    let sight = seen_of (store_in c.args.self.now) image in
    let settled : c.drop_unsettled.new.self.settled_text ≡ c.act_all.new.out.settled_text = ap (λ (x : Waiting). x.settled_text) c.drop_unsettled.ensures in
    let first : c.settle.new.self.settled_text ≡ all_text c.args.out.now = ap (λ (x : Waiting). x.settled_text) c.settle.ensures in
    subst (λ (t : List ℕ). FailsSeen sight (line ++ c.args.piece.now) c.in-Err.fault (all_text c.args.out.now) t) (sym settled)
    (subst (λ (t : List ℕ). FailsSeen sight (line ++ c.args.piece.now) c.in-Err.fault t c.act_all.new.out.settled_text) first (c.in-Err.ensures.err.1 image line shown free held))

pub returns-in-Err-committed-clause-fails : goal.returns-in-Err-committed-clause-fails
returns-in-Err-committed-clause-fails g c = λ image line shown free held.
    let s = c.args.self.now in
    let w = c.act_all.new.self in
    let n = c.in-Ok.taken in
    let state = g.D.Device.state in
    let sight = seen_of (store_in s) image in
    let settled : c.drop_unsettled-in-Err-committed.new.self.settled_text ≡ c.act_all.new.out.settled_text = ap (λ (x : Waiting). x.settled_text) c.drop_unsettled-in-Err-committed.ensures in
    let first : c.settle.new.self.settled_text ≡ all_text c.args.out.now = ap (λ (x : Waiting). x.settled_text) c.settle.ensures in
    subst (λ (t : List ℕ). FailsSeen sight (line ++ c.args.piece.now) Device t c.drop_unsettled-in-Err-committed.new.self.settled_text) first
    (subst (λ (bytes : List ℕ). FailsSeen sight bytes Device c.settle.new.self.settled_text c.drop_unsettled-in-Err-committed.new.self.settled_text) (taken-and-rest line c.args.piece.now n)
    (fails-commit (store_in s) image (line ++ take n c.args.piece.now) (drop n c.args.piece.now) (kept_in w) w.wrote c.settle.new.self c.act_all.new.out (store_in w) (state c.args.device.now) (state c.act_all.new.device) (c.in-Ok.ensures.ok.1 image line shown free held) c.drop_unsettled-in-Err-committed.new.self.settled_text settled))
