use Rattle.std.proofs.Common.{◌∙◌}
use Rattle.lt_node.proofs.OctalLaws.{parts_path}
use Rattle.lt_node.proofs.key_path.path.Goals as goal

pub returns : goal.returns
returns c = λ key same i. record { level = c.args.level; number = (c.octal.ensures ∙ parts_path c.args.parts.now key c.args.level c.requires.level same) i }
