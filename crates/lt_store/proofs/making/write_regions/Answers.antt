use Rattle.lt_device.proofs.Runs.{confined_widens, confined_within, syncs}
use Rattle.lt_store.proofs.MakingLaws.{manifest-inside, HasRegions-of}
use Rattle.lt_store.proofs.making.write_regions.Goals as goal

pub returns-in_err-close_gates-clause-confined : goal.returns-in_err-close_gates-clause-confined
returns-in_err-close_gates-clause-confined g c = confined_widens c.close_gates.ensures.touches.confined (λ k inside. inside.1)

pub returns-in_err-format-clause-confined : goal.returns-in_err-format-clause-confined
returns-in_err-format-clause-confined g c = confined_within c.format.ensures.confined (confined_widens c.close_gates.ensures.touches.confined (λ k inside. inside.1)) (manifest-inside c.args.geometry.now)

pub returns-in_err-sync-clause-confined : goal.returns-in_err-sync-clause-confined
returns-in_err-sync-clause-confined g c = syncs c.sync.ensures.ended (confined_within c.format.ensures.confined (confined_widens c.close_gates.ensures.touches.confined (λ k inside. inside.1)) (manifest-inside c.args.geometry.now))

pub returns-clause-confined : goal.returns-clause-confined
returns-clause-confined g c = syncs c.sync.ensures.ended (confined_within c.format.ensures.confined (confined_widens c.close_gates.ensures.touches.confined (λ k inside. inside.1)) (manifest-inside c.args.geometry.now))

pub returns-clause-regions : goal.returns-clause-regions
returns-clause-regions g c = λ flags told.
    HasRegions-of c.args.geometry.now c.args.extents _ _ _ _ c.in_ok-close_gates.ensures.closed c.format.ensures.confined c.format.ensures.others c.in_ok-format.ensures.named c.sync.ensures.ended.fit c.in_ok-sync.ensures.ok flags told
