use Rattle.std.proofs.Common.{ap, ◌%◌}
use Rattle.lt_item.specs.declared.hash.Parts.{Parts}
use Rattle.lt_item.specs.Parts.{parts_of}
use Rattle.lt_mem.proofs.table.bucket_of.Goals as goal

pub returns-clause-bucket : goal.returns-clause-bucket
unfolding parts_of
returns-clause-bucket c = λ key is. ap (λ (parts : Parts). parts.suffix % 65536) is
