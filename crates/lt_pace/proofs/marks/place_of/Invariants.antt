use Rattle.std.specs.Prelude.{◌≡◌}
use Rattle.lt_pace.specs.Marks.{first_place}
use Rattle.lt_pace.proofs.marks.place_of.Given as goal

abbrev pub invariant-loop : goal.invariant-loop
invariant-loop l = l.first ≡ first_place l.counter
