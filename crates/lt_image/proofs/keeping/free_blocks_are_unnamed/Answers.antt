use Rattle.lt_image.proofs.LocalLaws.{unnamed-free, free-unnamed}
use Rattle.lt_image.proofs.keeping.free_blocks_are_unnamed.Goals as goal

pub returns-clause-free : goal.returns-clause-free
returns-clause-free c = unnamed-free

pub returns-clause-unnamed : goal.returns-clause-unnamed
returns-clause-unnamed c = free-unnamed
