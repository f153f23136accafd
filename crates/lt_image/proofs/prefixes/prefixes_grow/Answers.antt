use Rattle.lt_image.proofs.PrefixLaws.{prefix-whole, prefix-none, prefix-fewer, prefix-longer, prefix-later}
use Rattle.lt_image.proofs.prefixes.prefixes_grow.Goals as goal

pub returns-clause-whole : goal.returns-clause-whole
returns-clause-whole c = prefix-whole

pub returns-clause-none : goal.returns-clause-none
returns-clause-none c = prefix-none

pub returns-clause-fewer : goal.returns-clause-fewer
returns-clause-fewer c = prefix-fewer

pub returns-clause-longer : goal.returns-clause-longer
returns-clause-longer c = prefix-longer

pub returns-clause-earlier : goal.returns-clause-earlier
returns-clause-earlier c = prefix-later
