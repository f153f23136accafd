use Rattle.lt_compact.proofs.CommitLaws.{job-fits}
use Rattle.lt_compact.proofs.laws.jobs_fit.Goals as goal

pub returns-clause-fits : goal.returns-clause-fits
returns-clause-fits c = λ levels extents trie j change ready. (job-fits levels extents trie j change ready.trie_is ready.shaped ready.change_is ready.new).fit

pub returns-clause-names : goal.returns-clause-names
returns-clause-names c = λ levels extents trie j change ready. (job-fits levels extents trie j change ready.trie_is ready.shaped ready.change_is ready.new).names
