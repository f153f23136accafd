use Rattle.std.proofs.Common.{subst, sym}
use Rattle.std.proofs.lemmas.Result.{on_ok_weaker}
use Rattle.lt_device.specs.State.{IsFit}
use Rattle.lt_device.proofs.Fits.{ended_fit}
use Rattle.lt_manifest.specs.Written.{InArea}
use Rattle.lt_manifest.proofs.AreaLaws.{sure-shown, sure-others}
use Rattle.lt_device.proofs.TouchLaws.{touches-syncs}
use Rattle.lt_manifest.proofs.area.write_area.Goals as goal

pub returns-clause-written : goal.returns-clause-written
returns-clause-written g c = on_ok_weaker c.sync.result (λ made. λ left may. c.in_ok-fill_area.ensures.written left (sure-shown _ _ _ left c.sync.ensures.ended.fit made may)) c.sync.ensures.ok

pub returns-clause-others_sure : goal.returns-clause-others_sure
returns-clause-others_sure g c = on_ok_weaker c.sync.result (λ made. λ shown told left may. sure-others _ (InArea c.args.area) (g.D.Device.state c.args.device.now) (g.D.Device.state c.fill_area.new.device) (g.D.Device.state c.sync.new.self) shown left c.sync.ensures.ended.fit made c.fill_area.ensures.fills.touches.others told may) c.sync.ensures.ok

pub returns-clause-touches : goal.returns-clause-touches
returns-clause-touches g c = touches-syncs c.fill_area.ensures.fills.touches c.sync.ensures.ended

pub returns-clause-fit : goal.returns-clause-fit
returns-clause-fit g c = on_ok_weaker c.sync.result (λ made. subst (λ n. IsFit n (g.D.Device.state c.sync.new.self)) (sym c.sync.ensures.size) (ended_fit _ _ _ c.sync.ensures.ended)) c.sync.ensures.ok
