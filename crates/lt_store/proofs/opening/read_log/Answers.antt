use Rattle.std.proofs.Common.{◌<◌, ap, subst, arith}
use Rattle.lt_redo.specs.Slots.{InLogArea}
use Rattle.lt_store.proofs.OpenLaws.{log-below}
use Rattle.lt_store.proofs.opening.read_log.Goals as goal

pub returns-clause-damaged_block : goal.returns-clause-damaged_block
returns-clause-damaged_block g c = λ b is.
    let area : c.header-header.result.log_area < 2 = omega (arith, ap (λ h. h.log_area) c.header-header.ensures.header, c.header-header.ensures.kept.log_area) in
    record {
      geometry = c.args.manifest.now.geometry;
      valid = c.header-header.ensures.kept.geometry;
      below = log-below c.args.manifest.now.geometry c.header-header.result.log_area b area (subst (λ q. InLogArea q c.header-header.result.log_area b) c.geometry.ensures.geometry (c.open.ensures.damaged_block b is));
    }
