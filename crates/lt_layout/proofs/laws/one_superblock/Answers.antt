use Rattle.lt_layout.proofs.SuperLaws.{geometry_of-superblock, superblock_from_geometry_of}
use Rattle.lt_layout.proofs.laws.one_superblock.Goals as goal

pub returns-clause-read : goal.returns-clause-read
returns-clause-read c = geometry_of-superblock

pub returns-clause-only : goal.returns-clause-only
returns-clause-only c = superblock_from_geometry_of
