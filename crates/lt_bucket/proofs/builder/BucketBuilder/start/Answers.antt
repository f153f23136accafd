use Rattle.lt_bucket.proofs.Finished.{none_spelled, none_used}
use Rattle.lt_bucket.proofs.builder.BucketBuilder.start.Goals as goal

pub invariant_of-result : goal.invariant_of-result
invariant_of-result c = record { spelled = none_spelled c.args.page.now }

pub returns-clause-empty : goal.returns-clause-empty
returns-clause-empty c = none_used c.args.page.now
