use Rattle.std.proofs.Common.{◌∙◌, ap}
use Rattle.std.proofs.lemmas.Result.{err_from_is_err_and}
use Rattle.lt_device.specs.State.{State}
use Rattle.lt_redo.proofs.OpeningLaws.{handed_on}
use Rattle.lt_store.proofs.OpenLaws.{no_geometry, geometry-manifest, snapshot-below}
use Rattle.lt_store.proofs.opening.read_manifest.Goals as goal

pub returns-in_err-geometry-clause-damaged : goal.returns-in_err-geometry-clause-damaged
returns-in_err-geometry-clause-damaged g c = λ b is image told.
    let fault = err_from_is_err_and c.from_residual.result c.from_residual.ensures.1 in
    no_geometry image b (c.read_geometry.ensures.damaged b (handed_on _ _ _ _ _ c.in_err-geometry.was fault.1 fault.2 is) image told)

pub returns-in_err-manifest-clause-damaged : goal.returns-in_err-manifest-clause-damaged
returns-in_err-manifest-clause-damaged g c = λ b is image told.
    let fault = err_from_is_err_and c.from_residual-in_err-manifest.result c.from_residual-in_err-manifest.ensures.1 in
    let here = ap (λ (s : State). s.shown) c.read_geometry.ensures.calls.state ∙ told in
    geometry-manifest image c.in_ok-geometry.geometry _ (c.in_ok-geometry.ensures.read image told) (c.open.ensures.damaged b (handed_on _ _ _ _ _ c.in_err-manifest.was fault.1 fault.2 is) image here)

pub returns-in_err-manifest-clause-damaged_block : goal.returns-in_err-manifest-clause-damaged_block
returns-in_err-manifest-clause-damaged_block g c = λ b is.
    let fault = err_from_is_err_and c.from_residual-in_err-manifest.result c.from_residual-in_err-manifest.ensures.1 in
    snapshot-below b (c.open.ensures.damaged_block b (handed_on _ _ _ _ _ c.in_err-manifest.was fault.1 fault.2 is))

pub returns-clause-read : goal.returns-clause-read
returns-clause-read g c = λ image told.
    let here = ap (λ (s : State). s.shown) c.read_geometry.ensures.calls.state ∙ told in
    geometry-manifest image c.in_ok-geometry.geometry _ (c.in_ok-geometry.ensures.read image told) (c.in_ok-manifest.ensures.read image here)
