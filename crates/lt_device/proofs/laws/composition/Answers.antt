use Rattle.lt_device.proofs.Runs.{begins, goes_on, writes, syncs, stays, joins, weakens, both, some_since}
use Rattle.lt_device.proofs.laws.composition.Goals as goal

pub returns-clause-begins : goal.returns-clause-begins
returns-clause-begins g c = begins

pub returns-clause-goes_on : goal.returns-clause-goes_on
returns-clause-goes_on g c = λ n b old mid new wrote so_far has. goes_on wrote so_far has

pub returns-clause-writes : goal.returns-clause-writes
returns-clause-writes g c = λ n b old mid new wrote so_far keeps. writes wrote so_far keeps

pub returns-clause-syncs : goal.returns-clause-syncs
returns-clause-syncs g c = λ n old mid new sync so_far. syncs sync so_far

pub returns-clause-stays : goal.returns-clause-stays
returns-clause-stays g c = λ old mid new same so_far. stays same so_far

pub returns-clause-joins : goal.returns-clause-joins
returns-clause-joins g c = λ old mid new then first has. joins then first has

pub returns-clause-weakens : goal.returns-clause-weakens
returns-clause-weakens g c = λ old new run has. weakens run has

pub returns-clause-both : goal.returns-clause-both
returns-clause-both g c = λ old new first second. both first second

pub returns-clause-some_since : goal.returns-clause-some_since
returns-clause-some_since g c = λ n s t epochs fit told has. some_since t epochs fit told has
