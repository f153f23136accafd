use Rattle.std.proofs.Common.{refl}
use Rattle.lt_manifest.proofs.PageLaws.{page-filled}
use Rattle.lt_manifest.proofs.area.fill_page.Goals as goal

pub returns : goal.returns
returns c = page-filled c.args.bytes.now c.clear.new.self _ _ c.args.block _ c.clear.ensures.zeros c.min-end.ensures refl c.fill_from.ensures.filled
