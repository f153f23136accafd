use Rattle.std.proofs.Common.{◌≤◌, length, vec_capacity}
use Rattle.lt_alloc.proofs.StackLaws.{IsStackFrom}
use Rattle.lt_alloc.proofs.extents.free_numbers.Given as goal

abbrev pub invariant-loop-number : goal.invariant-loop-number
invariant-loop-number l = IsStackFrom l.taken l.number l.free.items × (length l.taken ≤ vec_capacity l.free)
