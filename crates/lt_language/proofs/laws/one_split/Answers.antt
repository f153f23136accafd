use Rattle.std.proofs.Common.{ap, List, ℕ}
use Rattle.lt_language.proofs.LineLaws.{lines_split, lines_unique}
use Rattle.lt_language.proofs.laws.one_split.Goals as goal

pub returns-clause-is_one : goal.returns-clause-is_one
returns-clause-is_one c = lines_split

pub returns-clause-only : goal.returns-clause-only
returns-clause-only c = λ bytes lines rest s. let one = lines_unique bytes lines rest s in (ap (λ (p : List (List ℕ) × List ℕ). p.0) one, ap (λ (p : List (List ℕ) × List ℕ). p.1) one)
