use Rattle.lt_manifest.proofs.ShapeLaws.{eight_fits}
use Rattle.lt_manifest.proofs.snapshot.node.is_next.Goals as goal

pub pow-requires : goal.pow-requires
pow-requires c = eight_fits c.args.level c.requires
