use Rattle.std.proofs.Common.{sym, ◌∙◌}
use Rattle.lt_manifest.proofs.GeometryLaws.{geometry_of-valid}
use Rattle.lt_manifest.proofs.superblock.roomy.Goals as goal

pub returns-then-needed-blocks-clause-valid : goal.returns-then-needed-blocks-clause-valid
returns-then-needed-blocks-clause-valid c = geometry_of-valid c.args.page.now _ (sym c.read_super.ensures ∙ c.in_ok-geometry.was)
