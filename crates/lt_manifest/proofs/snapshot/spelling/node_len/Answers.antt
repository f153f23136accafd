use Rattle.std.proofs.Common.{ap, length, arith}
use Rattle.lt_manifest.proofs.SpellingLaws.{length-entry}
use Rattle.lt_manifest.proofs.snapshot.spelling.node_len.Goals as goal

pub overflow_cast-result : goal.overflow_cast-result
overflow_cast-result c = omega (arith, length-entry c.args.entry.now, ap length c.tables.ensures, ap length c.groups.ensures, c.requires)

pub overflow_mul-result : goal.overflow_mul-result
overflow_mul-result c = omega (arith, length-entry c.args.entry.now, ap length c.tables.ensures, ap length c.groups.ensures, c.requires)

pub overflow_add-result : goal.overflow_add-result
overflow_add-result c = omega (arith, length-entry c.args.entry.now, ap length c.tables.ensures, ap length c.groups.ensures, c.requires)

pub returns : goal.returns
returns c = omega (arith, length-entry c.args.entry.now, ap length c.tables.ensures, ap length c.groups.ensures)
