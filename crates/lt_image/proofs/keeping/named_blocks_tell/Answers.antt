use Rattle.lt_image.proofs.LocalLaws.{open-same, local-stands, not_free-manifest, not_free-named}
use Rattle.lt_image.proofs.keeping.named_blocks_tell.Goals as goal

pub returns-clause-opens : goal.returns-clause-opens
returns-clause-opens c = open-same

pub returns-clause-stands : goal.returns-clause-stands
returns-clause-stands c = local-stands

pub returns-clause-manifest : goal.returns-clause-manifest
returns-clause-manifest c = not_free-manifest

pub returns-clause-not_free : goal.returns-clause-not_free
returns-clause-not_free c = not_free-named
