use Rattle.lt_compact.proofs.FillLaws.{filled-keeps}
use Rattle.lt_compact.proofs.StepLaws.{scanned, planned-keeps, planned-shaped}
use Rattle.lt_compact.proofs.laws.steps_keep.Goals as goal

pub returns-clause-scanned : goal.returns-clause-scanned
returns-clause-scanned c = scanned

pub returns-clause-planned : goal.returns-clause-planned
returns-clause-planned c = planned-keeps

pub returns-clause-shaped : goal.returns-clause-shaped
returns-clause-shaped c = planned-shaped

pub returns-clause-filled : goal.returns-clause-filled
returns-clause-filled c = filled-keeps
