use Rattle.std.proofs.Common.{map, vec_capacity}
use Rattle.lt_merge.proofs.DealLaws.{AreRooms}
use Rattle.lt_merge.proofs.dealing.rooms.Given as goal

-- the lists of the digits so far
abbrev pub invariant-loop-digit : goal.invariant-loop-digit
invariant-loop-digit l = AreRooms l.level l.items l.digit (map (λ list. list.items) l.lists.items) (map (λ list. vec_capacity list) l.lists.items)
