use Rattle.std.proofs.Common.{length, refl}
use Rattle.lt_compact.proofs.LocalLaws.{plan-waits, plan-slack, short-waits}
use Rattle.lt_compact.proofs.laws.plans_tell.Goals as goal

pub returns-clause-waiting : goal.returns-clause-waiting
returns-clause-waiting c = λ m image j kept loose scanned.
    plan-waits m image j (length j.sources) kept loose scanned.holds.shaped scanned.stage refl scanned.whole scanned.holds.keeps

pub returns-clause-slack : goal.returns-clause-slack
returns-clause-slack c = λ m image j kept loose scanned.
    plan-slack m image j (length j.sources) kept loose scanned.holds.shaped scanned.stage refl scanned.whole scanned.holds.keeps

pub returns-clause-short : goal.returns-clause-short
returns-clause-short c = λ m image j shares holds planned whole. short-waits m image j shares holds.shaped planned whole holds.keeps
