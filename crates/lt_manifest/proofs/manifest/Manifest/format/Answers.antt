use Rattle.std.proofs.Common.{rules, ℕ, List, ◌∙◌, refl, inl, inr, ap, sym, subst, length, IsTrue, arith}
use Rattle.lt_format.specs.Snapshot.{extents_stand, InManifest}
use Rattle.lt_format.specs.Snapshot.{fresh}
use Rattle.lt_manifest.proofs.ManifestLaws.{bytes-fit, roomy-below, fresh-stands, fresh-written, fresh-named}
use Rattle.lt_device.proofs.TouchLaws.{touches-widens, touches-writes}
use Rattle.lt_manifest.specs.Written.{HasSelected, InSelected}
use Rattle.lt_manifest.proofs.manifest.Manifest.format.Goals as goal

pub spell-requires-clause-few : goal.spell-requires-clause-few
spell-requires-clause-few g c = bytes-fit c.args.geometry.now (g.D.Device.blocks c.args.device.now) (fresh c.args.geometry.now c.args.extents).manifest (fresh-stands c.args.geometry.now (g.D.Device.blocks c.args.device.now) c.args.extents c.requires.stands)

pub fill_area-requires : goal.fill_area-requires
fill_area-requires g c = record {
  area_is = search rules;
  within = search rules;
  room = omega (arith, ap length (c.deref.ensures.value ∙ c.spell.ensures), bytes-fit c.args.geometry.now (g.D.Device.blocks c.args.device.now) (fresh c.args.geometry.now c.args.extents).manifest (fresh-stands c.args.geometry.now (g.D.Device.blocks c.args.device.now) c.args.extents c.requires.stands));
}

pub returns-in_err-fill_area-clause-confined : goal.returns-in_err-fill_area-clause-confined
returns-in_err-fill_area-clause-confined g c = (touches-widens {inside = InManifest} c.fill_area.ensures.fills.touches (λ k inside. (omega (arith, inside.0), omega (arith, inside.1)))).confined

pub returns-in_err-fill_area-clause-others : goal.returns-in_err-fill_area-clause-others
returns-in_err-fill_area-clause-others g c = (touches-widens {inside = InManifest} c.fill_area.ensures.fills.touches (λ k inside. (omega (arith, inside.0), omega (arith, inside.1)))).others

pub returns-in_err-write-clause-confined : goal.returns-in_err-write-clause-confined
returns-in_err-write-clause-confined g c = (touches-writes (touches-widens {inside = InManifest} c.fill_area.ensures.fills.touches (λ k inside. (omega (arith, inside.0), omega (arith, inside.1)))) c.write.ensures.wrote (omega arith, omega arith)).confined

pub returns-in_err-write-clause-others : goal.returns-in_err-write-clause-others
returns-in_err-write-clause-others g c = (touches-writes (touches-widens {inside = InManifest} c.fill_area.ensures.fills.touches (λ k inside. (omega (arith, inside.0), omega (arith, inside.1)))) c.write.ensures.wrote (omega arith, omega arith)).others

pub returns-clause-confined : goal.returns-clause-confined
returns-clause-confined g c = (touches-writes (touches-widens {inside = InManifest} c.fill_area.ensures.fills.touches (λ k inside. (omega (arith, inside.0), omega (arith, inside.1)))) c.write.ensures.wrote (omega arith, omega arith)).confined

pub returns-clause-others : goal.returns-clause-others
returns-clause-others g c = (touches-writes (touches-widens {inside = InManifest} c.fill_area.ensures.fills.touches (λ k inside. (omega (arith, inside.0), omega (arith, inside.1)))) c.write.ensures.wrote (omega arith, omega arith)).others

pub returns-clause-named : goal.returns-clause-named
returns-clause-named g c = λ image told.
    let stands = subst (λ n. IsTrue (extents_stand c.args.geometry.now n c.args.extents)) (sym c.fill_area.ensures.fills.calls.size) c.requires.stands in
    fresh-named (g.D.Device.blocks c.fill_area.new.device) (g.D.Device.state c.fill_area.new.device) (g.D.Device.state c.write.new.self) _ c.deref.result.now c.write.ensures.wrote c.in_ok-write.ensures.ok c.fill_selector.ensures (roomy-below c.args.geometry.now (g.D.Device.blocks c.args.device.now) (g.D.Device.blocks c.fill_area.new.device) c.args.extents c.requires.stands c.fill_area.ensures.fills.calls.size) c.in_ok-fill_area.ensures.written image told
    c.args.geometry.now c.args.extents c.requires.valid stands (c.deref.ensures.value ∙ c.spell.ensures)

pub returns-clause-written : goal.returns-clause-written
returns-clause-written g c = λ image told.
    subst (λ (bytes : List ℕ). HasSelected 0 bytes image) (c.deref.ensures.value ∙ c.spell.ensures)
    (fresh-written (g.D.Device.blocks c.fill_area.new.device) (g.D.Device.state c.fill_area.new.device) (g.D.Device.state c.write.new.self) _ c.deref.result.now c.write.ensures.wrote c.in_ok-write.ensures.ok c.fill_selector.ensures (roomy-below c.args.geometry.now (g.D.Device.blocks c.args.device.now) (g.D.Device.blocks c.fill_area.new.device) c.args.extents c.requires.stands c.fill_area.ensures.fills.calls.size) c.in_ok-fill_area.ensures.written image told)

pub returns-in_err-fill_area-clause-fills : goal.returns-in_err-fill_area-clause-fills
returns-in_err-fill_area-clause-fills g c = record { touches = touches-widens c.fill_area.ensures.fills.touches (λ k inside. inr inside); no_sync = search rules; calls = search rules }

pub returns-in_err-write-clause-fills : goal.returns-in_err-write-clause-fills
returns-in_err-write-clause-fills g c = record { touches = touches-writes (touches-widens {inside = InSelected 0} c.fill_area.ensures.fills.touches (λ k inside. inr inside)) c.write.ensures.wrote (inl refl); no_sync = search rules; calls = search rules }

pub returns-clause-fills : goal.returns-clause-fills
returns-clause-fills g c = record { touches = touches-writes (touches-widens {inside = InSelected 0} c.fill_area.ensures.fills.touches (λ k inside. inr inside)) c.write.ensures.wrote (inl refl); no_sync = search rules; calls = search rules }
