use Rattle.std.proofs.Common.{◌≡◌, take}
use Rattle.lt_store.proofs.opening.memory_of.Given as goal

-- the items so far are in the table
abbrev pub invariant-loop-item : goal.invariant-loop-item
invariant-loop-item l = l.memory ≡ take l.item-index l.items
