use Rattle.std.proofs.Common.{arith}
use Rattle.lt_manifest.proofs.GeometryLaws.{geometry_in-read, read-ok, read-damaged, none-damaged}
use Rattle.lt_manifest.proofs.superblock.read_geometry.Goals as goal

pub returns-then-blocks-eq0-clause-damaged : goal.returns-then-blocks-eq0-clause-damaged
returns-then-blocks-eq0-clause-damaged g c = λ b is. none-damaged _ _ c.blocks-2.ensures.fit (omega (arith, c.blocks-2.ensures.value, c.if-blocks-eq0.true)) b cc

pub returns-clause-read : goal.returns-clause-read
returns-clause-read g c = read-ok _ _ _ c.ok_or.ensures.value (geometry_in-read _ _ _ _ _ _ c.blocks-3.ensures.fit c.read.ensures.state c.blocks-3.ensures.value c.in_ok-read.ensures.content c.roomy.ensures.read)

pub returns-clause-damaged : goal.returns-clause-damaged
returns-clause-damaged g c = read-damaged _ _ _ c.ok_or.ensures.value (geometry_in-read _ _ _ _ _ _ c.blocks-3.ensures.fit c.read.ensures.state c.blocks-3.ensures.value c.in_ok-read.ensures.content c.roomy.ensures.read)
