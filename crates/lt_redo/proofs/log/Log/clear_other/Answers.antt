use Rattle.std.proofs.Common.{ℕ, ◌-◌, [], subst}
use Rattle.lt_terms.specs.Bytes.{Image}
use Rattle.lt_device.specs.Calls.{TouchesOnly}
use Rattle.lt_device.specs.Moments.{MayLeave}
use Rattle.lt_device.proofs.Rest.{unsynced_none}
use Rattle.lt_device.proofs.TouchLaws.{touches-syncs}
use Rattle.lt_redo.specs.LogState.{LogState, other_area}
use Rattle.lt_redo.specs.Slots.{HasLog, HasZeroGates, InLogArea}
use Rattle.lt_redo.proofs.ClearLaws.{zeros_sure, zeros_cleared, has_log-cleared}
use Rattle.lt_redo.proofs.log.Log.clear_other.Goals as goal

pub returns-in_err-close_gates-clause-touches : goal.returns-in_err-close_gates-clause-touches
returns-in_err-close_gates-clause-touches g c =
    subst (λ (s : LogState). TouchesOnly g.D.Device (InLogArea s.geometry (other_area s.area)) c.args.device.now c.close_gates.new.device) c.self.view_is c.close_gates.ensures.touches

pub returns-in_err-sync-clause-touches : goal.returns-in_err-sync-clause-touches
returns-in_err-sync-clause-touches g c =
    subst (λ (s : LogState). TouchesOnly g.D.Device (InLogArea s.geometry (other_area s.area)) c.args.device.now c.sync.new.self) c.self.view_is (touches-syncs c.close_gates.ensures.touches c.sync.ensures.ended)

pub returns-clause-touches : goal.returns-clause-touches
returns-clause-touches g c =
    subst (λ (s : LogState). TouchesOnly g.D.Device (InLogArea s.geometry (other_area s.area)) c.args.device.now c.sync.new.self) c.self.view_is (touches-syncs c.close_gates.ensures.touches c.sync.ensures.ended)

pub returns-clause-zeros : goal.returns-clause-zeros
returns-clause-zeros g c =
    let i = c.self.inside in
    subst (λ (s : LogState). (left : Image) → MayLeave (g.D.Device.state c.sync.new.self) left → HasZeroGates s.geometry (other_area s.area) left) c.self.view_is
    (zeros_sure i.geometry (1 - i.area) _ _ _ c.sync.ensures.ended.fit c.in_ok-sync.ensures.ok c.in_ok-close_gates.ensures.zeros)

pub returns-clause-empty : goal.returns-clause-empty
returns-clause-empty g c =
    let i = c.self.inside in
    subst (λ (s : LogState). (writes : ℕ) (left : Image) → MayLeave (g.D.Device.state c.sync.new.self) left → HasLog s.geometry (other_area s.area) writes [] left) c.self.view_is
    (λ writes left may. has_log-cleared i.geometry (1 - i.area) writes left (zeros_cleared i.geometry (1 - i.area) left (zeros_sure i.geometry (1 - i.area) _ _ _ c.sync.ensures.ended.fit c.in_ok-sync.ensures.ok c.in_ok-close_gates.ensures.zeros left may)))

pub returns-clause-sure : goal.returns-clause-sure
returns-clause-sure g c = unsynced_none _ c.in_ok-sync.ensures.ok
