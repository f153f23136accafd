use Rattle.std.proofs.Common.{◌≡◌, subst, arith}
use Rattle.lt_alloc.proofs.StackLaws.{IsStackFrom, IsStackFrom-whole}
use Rattle.lt_alloc.proofs.extents.free_numbers.Goals as goal

pub returns : goal.returns
returns c = IsStackFrom-whole c.args.taken.now c.loop-number.free.items _ (subst (λ n. IsStackFrom c.args.taken.now n c.loop-number.free.items) (let done : c.loop-number.number ≡ 0 = omega arith in done) c.loop-number.invariant.0) c.loop-number.invariant.1 c.requires
