use Rattle.lt_image.proofs.ExampleLaws.{second-bound, first-bound, pending-bound}
use Rattle.lt_image.proofs.examples.bound_by_example.Goals as goal

pub returns-clause-second : goal.returns-clause-second
returns-clause-second c = second-bound

pub returns-clause-first : goal.returns-clause-first
returns-clause-first c = first-bound

pub returns-clause-pending : goal.returns-clause-pending
returns-clause-pending c = pending-bound
