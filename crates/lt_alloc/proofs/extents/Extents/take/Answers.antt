use Rattle.std.proofs.Common.{arith}
use Rattle.lt_alloc.proofs.StackLaws.{IsReserving-none, IsReserving-more}
use Rattle.lt_alloc.proofs.extents.Extents.take.Goals as goal

pub loop-init : goal.loop-init
loop-init c = (IsReserving-none _ _, omega arith, omega arith)

pub loop-preserved : goal.loop-preserved
loop-preserved c =
    let items = c.push_reserved.ensures.items in
    let len = c.push_reserved.ensures.len in
    let capacity = c.push_reserved.ensures.capacity in
    (IsReserving-more c.loop.counter _ c.loop.self _ _ c.loop.into.items _ c.take_one-number.result c.loop.invariant.0 c.take_one-number.ensures.free c.take_one-number.ensures.taken items, omega arith, omega arith)
