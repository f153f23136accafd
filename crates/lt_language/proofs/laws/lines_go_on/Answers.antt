use Rattle.lt_language.proofs.LineLaws.{split_lines-append, split_lines-unbroken, split_lines-ended}
use Rattle.lt_language.proofs.laws.lines_go_on.Goals as goal

pub returns-clause-append : goal.returns-clause-append
returns-clause-append c = split_lines-append

pub returns-clause-unbroken : goal.returns-clause-unbroken
returns-clause-unbroken c = split_lines-unbroken

pub returns-clause-ended : goal.returns-clause-ended
returns-clause-ended c = split_lines-ended
