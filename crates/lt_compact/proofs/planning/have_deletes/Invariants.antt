use Rattle.std.proofs.Common.{◌≡◌, false, take}
use Rattle.std.specs.List.{flat_map}
use Rattle.lt_compact.proofs.StepLaws.{has_delete}
use Rattle.lt_compact.proofs.planning.have_deletes.Given as goal

-- the lists so far have no delete
abbrev pub invariant-loop-list : goal.invariant-loop-list
invariant-loop-list l = has_delete (flat_map (λ list. list.items) (take l.list-index l.lists)) ≡ false
