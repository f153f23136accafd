use Rattle.std.proofs.Common.{ap, sym, subst, []}
use Rattle.lt_redo.specs.LogState.{LogState}
use Rattle.lt_store.specs.Going.{Goes}
use Rattle.lt_store.specs.Open.{StoreView}
use Rattle.lt_store.specs.View.{view_of}
use Rattle.lt_store.proofs.CommitLaws.{commit-any, commit-breaks, commit-whole}
use Rattle.lt_store.proofs.store.Store.commit.Goals as goal

pub returns-in-Ok-clause-opened : goal.returns-in-Ok-clause-opened
returns-in-Ok-clause-opened g c = λ d o.
    let v : StoreView = view_of c.args.self.now in
    let kept = c.args.self.now.kept c.requires.up in
    subst (λ (log : LogState). Goes v [] (record v { log = log }) d (g.D.Device.state c.args.device.now) (g.D.Device.state c.commit.new.device)) (sym c.in-Ok.ensures.ok)
    (commit-any v d _ _ _ kept o c.in-Ok.ensures.any_moment c.in-Ok.ensures.touches.confined c.in-Ok.ensures.touches.others c.in-Ok.ensures.committed c.in-Ok.ensures.sure (λ idle. ap g.D.Device.state (c.in-Ok.ensures.idle idle).1))

pub returns-in-Err-clause-broken : goal.returns-in-Err-clause-broken
returns-in-Err-clause-broken g c = λ d o.
    commit-breaks (view_of c.args.self.now) d _ _ _ (c.args.self.now.kept c.requires.up) o c.in-Err.ensures.any_moment c.in-Err.ensures.touches.confined (λ idle. ap g.D.Device.state (c.in-Err.ensures.idle idle).1)

pub returns-in-Ok-clause-whole : goal.returns-in-Ok-clause-whole
returns-in-Ok-clause-whole g c = λ d o. commit-whole (view_of c.args.self.now) d _ _ _ (c.args.self.now.kept c.requires.up) o c.in-Ok.ensures.any_moment c.in-Ok.ensures.touches.confined (λ idle. ap g.D.Device.state (c.in-Ok.ensures.idle idle).1)

pub returns-in-Err-clause-whole : goal.returns-in-Err-clause-whole
returns-in-Err-clause-whole g c = λ d o. commit-whole (view_of c.args.self.now) d _ _ _ (c.args.self.now.kept c.requires.up) o c.in-Err.ensures.any_moment c.in-Err.ensures.touches.confined (λ idle. ap g.D.Device.state (c.in-Err.ensures.idle idle).1)
