use Rattle.std.proofs.Common.{ℕ, List, ◌∙◌, refl, ap, subst}
use Rattle.std.proofs.lemmas.Result.{on_ok_weaker}
use Rattle.lt_device.specs.State.{IsFit, synced, written}
use Rattle.lt_device.proofs.Runs.{confined_begins, confined_writes, syncs}
use Rattle.lt_store.proofs.making.write_superblock.Goals as goal

pub returns-in_err-write-clause-confined : goal.returns-in_err-write-clause-confined
returns-in_err-write-clause-confined g c = confined_writes c.write.ensures.wrote (confined_begins _) refl

pub returns-clause-confined : goal.returns-clause-confined
returns-clause-confined g c = syncs c.sync.ensures.ended (confined_writes c.write.ensures.wrote (confined_begins _) refl)

pub returns-clause-written : goal.returns-clause-written
returns-clause-written g c =
    let page = c.in_ok-write.ensures.ok ∙ ap (λ (p : List ℕ). written (g.D.Device.state c.args.device.now) 0 p) c.write_super.ensures in
    on_ok_weaker c.sync.result (λ made. made ∙ ap synced page) c.sync.ensures.ok

pub returns-clause-fit : goal.returns-clause-fit
returns-clause-fit g c =
    let page = c.in_ok-write.ensures.ok ∙ ap (λ (p : List ℕ). written (g.D.Device.state c.args.device.now) 0 p) c.write_super.ensures in
    on_ok_weaker c.sync.result (λ made. subst (IsFit (g.D.Device.blocks c.args.device.now)) page (subst (λ n. IsFit n (g.D.Device.state c.write.new.self)) c.write.ensures.size c.sync.ensures.ended.fit)) c.sync.ensures.ok
