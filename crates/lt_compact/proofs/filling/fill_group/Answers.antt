use Rattle.std.proofs.Common.{◌≡◌, ℕ, ◌∙◌, Option, ap, subst, arith}
use Rattle.lt_terms.specs.Bytes.{Image}
use Rattle.lt_container.specs.Columns.{InColumns}
use Rattle.lt_device.specs.Moments.{ConfinedTo, ShowsSameOutside}
use Rattle.lt_device.specs.State.{State}
use Rattle.lt_device.proofs.Runs.{confined_widens}
use Rattle.lt_device.proofs.Shows.{shows-widens}
use Rattle.lt_htable.specs.Building.{InExtent}
use Rattle.lt_compact.proofs.SpreadLaws.{group-after}
use Rattle.lt_compact.proofs.filling.fill_group.Goals as goal

wider : (first k : ℕ) → InColumns first k → InExtent first k
wider first k inside = (inside.0, omega (arith, inside.1))

pub returns-in-Ok-clause-grouped : goal.returns-in-Ok-clause-grouped
returns-in-Ok-clause-grouped g c =
    let shown : (g.D.Device.state c.filters_of.new.device).shown ≡ (g.D.Device.state c.args.device.now).shown = ap (λ (s : State). s.shown) c.filters_of.ensures.calls.state in
    group-after c.args.geometry.now c.args.first c.args.tables.now c.deref.result.now (g.D.Device.state c.args.device.now).shown (g.D.Device.state c.write_group.new.device).shown
    (λ image was. c.deref.ensures.value ∙ c.in_ok-pages.ensures.filters image was)
    c.in-Ok.ensures.grouped
    (subst (λ (o : Option Image). ShowsSameOutside (InColumns c.args.first) o (g.D.Device.state c.write_group.new.device).shown) shown c.write_group.ensures.fills.touches.others)
    c.requires.apart

pub returns-in-Ok-clause-touches : goal.returns-in-Ok-clause-touches
returns-in-Ok-clause-touches g c = record {
  confined =
      subst (λ (s : State). ConfinedTo (InExtent c.args.first) s (g.D.Device.state c.write_group.new.device)) c.filters_of.ensures.calls.state
      (confined_widens c.write_group.ensures.fills.touches.confined (wider c.args.first));
  others =
      subst (λ (s : State). ShowsSameOutside (InExtent c.args.first) s.shown (g.D.Device.state c.write_group.new.device).shown) c.filters_of.ensures.calls.state
      (shows-widens (InColumns c.args.first) (InExtent c.args.first) _ _ (wider c.args.first) c.write_group.ensures.fills.touches.others);
  no_sync = c.write_group.ensures.fills.no_sync ∙ ap (λ (s : State). s.past) c.filters_of.ensures.calls.state;
}

pub returns-in-Err-Device-clause-touches : goal.returns-in-Err-Device-clause-touches
returns-in-Err-Device-clause-touches g c = record {
  confined =
      subst (λ (s : State). ConfinedTo (InExtent c.args.first) s (g.D.Device.state c.write_group.new.device)) c.filters_of.ensures.calls.state
      (confined_widens c.write_group.ensures.fills.touches.confined (wider c.args.first));
  others =
      subst (λ (s : State). ShowsSameOutside (InExtent c.args.first) s.shown (g.D.Device.state c.write_group.new.device).shown) c.filters_of.ensures.calls.state
      (shows-widens (InColumns c.args.first) (InExtent c.args.first) _ _ (wider c.args.first) c.write_group.ensures.fills.touches.others);
  no_sync = c.write_group.ensures.fills.no_sync ∙ ap (λ (s : State). s.past) c.filters_of.ensures.calls.state;
}
