use Rattle.lt_node.proofs.OctalLaws.{HasRead}
use Rattle.lt_node.proofs.key_path.octal.Given as goal

abbrev pub invariant-loop-digit : goal.invariant-loop-digit
invariant-loop-digit l = HasRead l.digits l.number l.digit-index
