use Rattle.std.proofs.Common.{rules, ◌≡◌, ℕ, ◌+◌, ◌-◌, ◌≤◌, vec_capacity, ◌∙◌, ap, sym, subst, inl, inr, length, arith}
use Rattle.lt_device.proofs.Runs.{confined_widens}
use Rattle.lt_format.specs.declared.header.Header.{Header}
use Rattle.lt_format.specs.Snapshot.{Manifest, nodes_bytes, snapshot_bytes, Named}
use Rattle.lt_format.specs.Trie.{Trie}
use Rattle.lt_node.specs.Changing.{change_of}
use Rattle.lt_device.specs.Calls.{TouchesOnly}
use Rattle.lt_manifest.specs.Written.{InSelected}
use Rattle.lt_manifest.proofs.ManifestLaws.{ready-from, ready-stands, ready-held, bytes-fit, nodes-fit, moment-written, moment-selected, selected-committed, selected-written}
use Rattle.lt_device.proofs.TouchLaws.{touches-joins, touches-widens}
use Rattle.lt_manifest.proofs.WriteLaws.{selected-manifest}
use Rattle.lt_manifest.proofs.manifest.Manifest.commit.Goals as goal

pub spell-requires-clause-few : goal.spell-requires-clause-few
spell-requires-clause-few g c =
    let i = c.self.inside in
    let blocks : ℕ = g.D.Device.blocks c.args.device.now in
    let ready = ready-from i.geometry i.area blocks i.header i.trie (change_of c.args.change.now) c.args.header.now c.kept-self-inside.result c.apply.new.self _ c.self.view_is c.self.invariant c.requires.stands c.requires.may c.kept-self-inside.ensures.same c.kept-self-inside.ensures.writes c.in_ok-apply.ensures.ok in
    subst (λ (t : Trie). length (snapshot_bytes (record { header = c.kept-self-inside.result; trie = t })) ≤ 1249280) (sym c.nodes.ensures.nodes) (bytes-fit i.geometry blocks _ (ready-stands i.geometry i.area blocks i.header i.trie (change_of c.args.change.now) c.kept-self-inside.result c.apply.new.self ready))

pub spell-requires-clause-room : goal.spell-requires-clause-room
spell-requires-clause-room g c =
    let i = c.self.inside in
    let blocks : ℕ = g.D.Device.blocks c.args.device.now in
    let ready = ready-from i.geometry i.area blocks i.header i.trie (change_of c.args.change.now) c.args.header.now c.kept-self-inside.result c.apply.new.self _ c.self.view_is c.self.invariant c.requires.stands c.requires.may c.kept-self-inside.ensures.same c.kept-self-inside.ensures.writes c.in_ok-apply.ensures.ok in
    let few = nodes-fit i.geometry blocks _ (ready-stands i.geometry i.area blocks i.header i.trie (change_of c.args.change.now) c.kept-self-inside.result c.apply.new.self ready) in
    subst (λ (t : Trie). 40 + length (nodes_bytes t) ≤ vec_capacity c.in_ok-bytes.bytes) (sym c.nodes.ensures.nodes) (omega (arith, few, ap (λ (h : Header). h.extents) c.kept-self-inside.ensures.same, c.in_ok-bytes.ensures.room))

pub write_area-requires : goal.write_area-requires
write_area-requires g c =
    let i = c.self.inside in
    let blocks : ℕ = g.D.Device.blocks c.args.device.now in
    let ready = ready-from i.geometry i.area blocks i.header i.trie (change_of c.args.change.now) c.args.header.now c.kept-self-inside.result c.apply.new.self _ c.self.view_is c.self.invariant c.requires.stands c.requires.may c.kept-self-inside.ensures.same c.kept-self-inside.ensures.writes c.in_ok-apply.ensures.ok in
    let m : Manifest = record { header = c.kept-self-inside.result; trie = c.apply.new.self.nodes } in
    let spelled : c.deref.result.now ≡ snapshot_bytes m = c.deref.ensures.value ∙ c.spell.ensures ∙ ap (λ (t : Trie). snapshot_bytes (record { header = c.kept-self-inside.result; trie = t })) c.nodes.ensures.nodes in
    let fits = bytes-fit i.geometry blocks m (ready-stands i.geometry i.area blocks i.header i.trie (change_of c.args.change.now) c.kept-self-inside.result c.apply.new.self ready) in
    record { area_is = search rules; within = search rules; room = omega (arith, ap length spelled, fits) }

pub invariant_of-self-in_err-write_area : goal.invariant_of-self-in_err-write_area
invariant_of-self-in_err-write_area g c =
    let i = c.self.inside in
    let blocks : ℕ = g.D.Device.blocks c.args.device.now in
    let ready = ready-from i.geometry i.area blocks i.header i.trie (change_of c.args.change.now) c.args.header.now c.kept-self-inside.result c.apply.new.self _ c.self.view_is c.self.invariant c.requires.stands c.requires.may c.kept-self-inside.ensures.same c.kept-self-inside.ensures.writes c.in_ok-apply.ensures.ok in
    ready-held i.geometry i.area blocks i.header i.trie (change_of c.args.change.now) c.kept-self-inside.result c.apply.new.self ready i.area c.self.invariant.kept.area

pub invariant_of-self-in_err-select_area : goal.invariant_of-self-in_err-select_area
invariant_of-self-in_err-select_area g c =
    let i = c.self.inside in
    let blocks : ℕ = g.D.Device.blocks c.args.device.now in
    let ready = ready-from i.geometry i.area blocks i.header i.trie (change_of c.args.change.now) c.args.header.now c.kept-self-inside.result c.apply.new.self _ c.self.view_is c.self.invariant c.requires.stands c.requires.may c.kept-self-inside.ensures.same c.kept-self-inside.ensures.writes c.in_ok-apply.ensures.ok in
    ready-held i.geometry i.area blocks i.header i.trie (change_of c.args.change.now) c.kept-self-inside.result c.apply.new.self ready i.area c.self.invariant.kept.area

pub invariant_of-self-2 : goal.invariant_of-self-2
invariant_of-self-2 g c =
    let i = c.self.inside in
    let blocks : ℕ = g.D.Device.blocks c.args.device.now in
    let ready = ready-from i.geometry i.area blocks i.header i.trie (change_of c.args.change.now) c.args.header.now c.kept-self-inside.result c.apply.new.self _ c.self.view_is c.self.invariant c.requires.stands c.requires.may c.kept-self-inside.ensures.same c.kept-self-inside.ensures.writes c.in_ok-apply.ensures.ok in
    ready-held i.geometry i.area blocks i.header i.trie (change_of c.args.change.now) c.kept-self-inside.result c.apply.new.self ready (1 - i.area) (omega (arith, c.self.invariant.kept.area))

pub returns-in_err-write_area-clause-any_moment : goal.returns-in_err-write_area-clause-any_moment
returns-in_err-write_area-clause-any_moment g c =
    let i = c.self.inside in
    let blocks : ℕ = g.D.Device.blocks c.args.device.now in
    let ready = ready-from i.geometry i.area blocks i.header i.trie (change_of c.args.change.now) c.args.header.now c.kept-self-inside.result c.apply.new.self _ c.self.view_is c.self.invariant c.requires.stands c.requires.may c.kept-self-inside.ensures.same c.kept-self-inside.ensures.writes c.in_ok-apply.ensures.ok in
    let m : Manifest = record { header = c.kept-self-inside.result; trie = c.apply.new.self.nodes } in
    let spelled : c.deref.result.now ≡ snapshot_bytes m = c.deref.ensures.value ∙ c.spell.ensures ∙ ap (λ (t : Trie). snapshot_bytes (record { header = c.kept-self-inside.result; trie = t })) c.nodes.ensures.nodes in
    moment-written i.geometry i.area blocks i.header i.trie (change_of c.args.change.now) c.kept-self-inside.result c.apply.new.self ready c.deref.result.now spelled c.args.header.now c.kept-self-inside.ensures.same _ c.self.view_is c.write_area.ensures.touches.confined

pub returns-in_err-select_area-clause-any_moment : goal.returns-in_err-select_area-clause-any_moment
returns-in_err-select_area-clause-any_moment g c =
    let i = c.self.inside in
    let blocks : ℕ = g.D.Device.blocks c.args.device.now in
    let ready = ready-from i.geometry i.area blocks i.header i.trie (change_of c.args.change.now) c.args.header.now c.kept-self-inside.result c.apply.new.self _ c.self.view_is c.self.invariant c.requires.stands c.requires.may c.kept-self-inside.ensures.same c.kept-self-inside.ensures.writes c.in_ok-apply.ensures.ok in
    let m : Manifest = record { header = c.kept-self-inside.result; trie = c.apply.new.self.nodes } in
    let spelled : c.deref.result.now ≡ snapshot_bytes m = c.deref.ensures.value ∙ c.spell.ensures ∙ ap (λ (t : Trie). snapshot_bytes (record { header = c.kept-self-inside.result; trie = t })) c.nodes.ensures.nodes in
    moment-selected i.geometry i.area blocks i.header i.trie (change_of c.args.change.now) c.kept-self-inside.result c.apply.new.self ready c.deref.result.now spelled c.args.header.now c.kept-self-inside.ensures.same _ c.self.view_is _ c.write_area.ensures.touches.confined c.in_ok-write_area.ensures.fit c.write_area.ensures.calls.size c.in_ok-write_area.ensures.written c.in_ok-write_area.ensures.others_sure c.select_area.ensures.touches.confined

pub returns-clause-any_moment : goal.returns-clause-any_moment
returns-clause-any_moment g c =
    let i = c.self.inside in
    let blocks : ℕ = g.D.Device.blocks c.args.device.now in
    let ready = ready-from i.geometry i.area blocks i.header i.trie (change_of c.args.change.now) c.args.header.now c.kept-self-inside.result c.apply.new.self _ c.self.view_is c.self.invariant c.requires.stands c.requires.may c.kept-self-inside.ensures.same c.kept-self-inside.ensures.writes c.in_ok-apply.ensures.ok in
    let m : Manifest = record { header = c.kept-self-inside.result; trie = c.apply.new.self.nodes } in
    let spelled : c.deref.result.now ≡ snapshot_bytes m = c.deref.ensures.value ∙ c.spell.ensures ∙ ap (λ (t : Trie). snapshot_bytes (record { header = c.kept-self-inside.result; trie = t })) c.nodes.ensures.nodes in
    moment-selected i.geometry i.area blocks i.header i.trie (change_of c.args.change.now) c.kept-self-inside.result c.apply.new.self ready c.deref.result.now spelled c.args.header.now c.kept-self-inside.ensures.same _ c.self.view_is _ c.write_area.ensures.touches.confined c.in_ok-write_area.ensures.fit c.write_area.ensures.calls.size c.in_ok-write_area.ensures.written c.in_ok-write_area.ensures.others_sure c.select_area.ensures.touches.confined

pub returns-clause-committed : goal.returns-clause-committed
returns-clause-committed g c =
    let i = c.self.inside in
    let blocks : ℕ = g.D.Device.blocks c.args.device.now in
    let ready = ready-from i.geometry i.area blocks i.header i.trie (change_of c.args.change.now) c.args.header.now c.kept-self-inside.result c.apply.new.self _ c.self.view_is c.self.invariant c.requires.stands c.requires.may c.kept-self-inside.ensures.same c.kept-self-inside.ensures.writes c.in_ok-apply.ensures.ok in
    let m : Manifest = record { header = c.kept-self-inside.result; trie = c.apply.new.self.nodes } in
    let spelled : c.deref.result.now ≡ snapshot_bytes m = c.deref.ensures.value ∙ c.spell.ensures ∙ ap (λ (t : Trie). snapshot_bytes (record { header = c.kept-self-inside.result; trie = t })) c.nodes.ensures.nodes in
    selected-committed i.geometry i.area blocks i.header i.trie (change_of c.args.change.now) c.kept-self-inside.result c.apply.new.self ready c.deref.result.now spelled c.args.header.now c.kept-self-inside.ensures.same _ c.self.view_is _ c.write_area.ensures.touches.confined c.in_ok-write_area.ensures.fit c.write_area.ensures.calls.size c.in_ok-write_area.ensures.written c.in_ok-write_area.ensures.others_sure c.select_area.ensures.touches.confined c.in_ok-select_area.ensures.written

pub returns-clause-written : goal.returns-clause-written
returns-clause-written g c =
    let i = c.self.inside in
    let blocks : ℕ = g.D.Device.blocks c.args.device.now in
    let ready = ready-from i.geometry i.area blocks i.header i.trie (change_of c.args.change.now) c.args.header.now c.kept-self-inside.result c.apply.new.self _ c.self.view_is c.self.invariant c.requires.stands c.requires.may c.kept-self-inside.ensures.same c.kept-self-inside.ensures.writes c.in_ok-apply.ensures.ok in
    let m : Manifest = record { header = c.kept-self-inside.result; trie = c.apply.new.self.nodes } in
    let spelled : c.deref.result.now ≡ snapshot_bytes m = c.deref.ensures.value ∙ c.spell.ensures ∙ ap (λ (t : Trie). snapshot_bytes (record { header = c.kept-self-inside.result; trie = t })) c.nodes.ensures.nodes in
    selected-written i.geometry i.area blocks i.header i.trie (change_of c.args.change.now) c.kept-self-inside.result c.apply.new.self ready c.deref.result.now spelled c.args.header.now c.kept-self-inside.ensures.same _ c.self.view_is c.in_ok-write_area.ensures.written c.select_area.ensures.touches.confined c.in_ok-select_area.ensures.written

pub returns-in_err-write_area-clause-confined : goal.returns-in_err-write_area-clause-confined
returns-in_err-write_area-clause-confined g c =
    let area : ℕ = 1 - c.self.inside.area in
    confined_widens (touches-widens {inside = InSelected area} c.write_area.ensures.touches (λ k inside. inr inside)).confined (selected-manifest area (omega (arith, c.self.invariant.kept.area)))

pub returns-in_err-write_area-clause-touches : goal.returns-in_err-write_area-clause-touches
returns-in_err-write_area-clause-touches g c =
    let area : ℕ = 1 - c.self.inside.area in
    subst (λ (n : Named). TouchesOnly g.D.Device (InSelected (1 - n.area)) c.args.device.now c.write_area.new.device) c.self.view_is (touches-widens {inside = InSelected area} c.write_area.ensures.touches (λ k inside. inr inside))

pub returns-in_err-select_area-clause-confined : goal.returns-in_err-select_area-clause-confined
returns-in_err-select_area-clause-confined g c =
    let area : ℕ = 1 - c.self.inside.area in
    confined_widens (touches-joins {inside = InSelected area} c.write_area.ensures.touches c.select_area.ensures.touches (λ k inside. inr inside) (λ k at. inl at)).confined (selected-manifest area (omega (arith, c.self.invariant.kept.area)))

pub returns-in_err-select_area-clause-touches : goal.returns-in_err-select_area-clause-touches
returns-in_err-select_area-clause-touches g c =
    let area : ℕ = 1 - c.self.inside.area in
    subst (λ (n : Named). TouchesOnly g.D.Device (InSelected (1 - n.area)) c.args.device.now c.select_area.new.device) c.self.view_is (touches-joins {inside = InSelected area} c.write_area.ensures.touches c.select_area.ensures.touches (λ k inside. inr inside) (λ k at. inl at))

pub returns-clause-confined : goal.returns-clause-confined
returns-clause-confined g c =
    let area : ℕ = 1 - c.self.inside.area in
    confined_widens (touches-joins {inside = InSelected area} c.write_area.ensures.touches c.select_area.ensures.touches (λ k inside. inr inside) (λ k at. inl at)).confined (selected-manifest area (omega (arith, c.self.invariant.kept.area)))

pub returns-clause-touches : goal.returns-clause-touches
returns-clause-touches g c =
    let area : ℕ = 1 - c.self.inside.area in
    subst (λ (n : Named). TouchesOnly g.D.Device (InSelected (1 - n.area)) c.args.device.now c.select_area.new.device) c.self.view_is (touches-joins {inside = InSelected area} c.write_area.ensures.touches c.select_area.ensures.touches (λ k inside. inr inside) (λ k at. inl at))
