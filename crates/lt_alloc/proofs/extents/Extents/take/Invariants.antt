use Rattle.std.proofs.Common.{◌≡◌, ◌+◌, vec_len, vec_capacity}
use Rattle.lt_alloc.proofs.StackLaws.{IsReserving}
use Rattle.lt_alloc.proofs.extents.Extents.take.Given as goal

abbrev pub invariant-loop : goal.invariant-loop
invariant-loop l = IsReserving l.counter l.initial.self l.self l.initial.into.items l.into.items × (vec_len l.into ≡ vec_len l.initial.into + l.counter) × (vec_capacity l.into ≡ vec_capacity l.initial.into)
