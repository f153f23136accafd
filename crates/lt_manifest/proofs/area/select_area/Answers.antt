use Rattle.std.proofs.Common.{refl, arith}
use Rattle.std.proofs.lemmas.Result.{on_ok_weaker}
use Rattle.lt_device.proofs.Fits.{wrote_fit}
use Rattle.lt_device.proofs.Rest.{unsynced_none}
use Rattle.lt_manifest.proofs.CommitLaws.{selector-sure}
use Rattle.lt_device.proofs.TouchLaws.{touches-none, touches-writes, touches-syncs}
use Rattle.lt_manifest.proofs.area.select_area.Goals as goal

pub returns-in_err-write-clause-touches : goal.returns-in_err-write-clause-touches
returns-in_err-write-clause-touches g c = touches-writes (touches-none _) c.write.ensures.wrote refl

pub returns-clause-touches : goal.returns-clause-touches
returns-clause-touches g c = touches-syncs (touches-writes (touches-none _) c.write.ensures.wrote refl) c.sync.ensures.ended

pub returns-clause-written : goal.returns-clause-written
returns-clause-written g c = on_ok_weaker c.sync.result (λ made. λ left may.
    selector-sure c.args.area _ _ _ _ _ left (omega (arith, c.requires.within)) c.write.ensures.wrote.fit c.in_ok-write.ensures.ok c.fill_selector.ensures (wrote_fit _ _ _ _ c.write.ensures.wrote) made may) c.sync.ensures.ok

pub returns-clause-sure : goal.returns-clause-sure
returns-clause-sure g c = on_ok_weaker c.sync.result (λ made. unsynced_none _ made) c.sync.ensures.ok
