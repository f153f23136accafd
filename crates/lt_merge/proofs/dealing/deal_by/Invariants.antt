use Rattle.std.proofs.Common.{map, vec_capacity}
use Rattle.lt_merge.proofs.DealLaws.{IsDealing}
use Rattle.lt_merge.proofs.dealing.deal_by.Given as goal

-- the items so far were dealt
abbrev pub invariant-loop-item : goal.invariant-loop-item
invariant-loop-item l = IsDealing l.level l.fn.items.items l.item-iterator.rest.items (map (λ list. list.items) l.lists.items) (map (λ list. vec_capacity list) l.lists.items)
