use Rattle.std.proofs.Common.{ℕ, ◌<◌, ◌∙◌, arith}
use Rattle.lt_device.proofs.CallLaws.{writes_block}
use Rattle.lt_device.proofs.Runs.{confined_writes}
use Rattle.lt_htable.specs.Building.{InExtent}
use Rattle.lt_htable.proofs.WriteLaws.{buckets-more, same_past}
use Rattle.lt_htable.proofs.building.write_buckets.Goals as goal
use Rattle.lt_device.proofs.Shows.{shows-writes}

pub returns-in_err-write-clause-confined : goal.returns-in_err-write-clause-confined
returns-in_err-write-clause-confined g c =
    let inside : InExtent c.args.first c.block_in.result = (omega (arith, c.block_in.ensures), omega (arith, c.block_in.ensures, c.loop-column-test.true, c.loop-column.auto.column-end)) in
    confined_writes c.write.ensures.wrote c.loop-column.invariant.confined inside

pub loop-column-preserved : goal.loop-column-preserved
loop-column-preserved g c =
    let before = c.loop-column.invariant in
    let blocks : ℕ = g.D.Device.blocks c.loop-column.device in
    let inside : InExtent c.args.first c.block_in.result = (omega (arith, c.block_in.ensures), omega (arith, c.block_in.ensures, c.loop-column-test.true, c.loop-column.auto.column-end)) in
    let below : c.block_in.result < blocks = omega (arith, c.block_in.ensures, c.loop-column-test.true, c.loop-column.auto.column-end, before.calls.size, c.requires.within) in
    record {
      buckets = buckets-more c.args.placement.now c.args.items.now c.args.first c.loop-column.column blocks c.block_in.result (g.D.Device.state c.loop-column.device) (g.D.Device.state c.write.new.self) c.fill_bucket.new.page c.block_in.ensures below c.write.ensures.wrote.fit c.in_ok-write.ensures.ok c.fill_bucket.ensures.bucket before.buckets;
      confined = confined_writes c.write.ensures.wrote before.confined inside;
      others = shows-writes _ _ _ _ _ _ c.write.ensures.wrote inside before.others;
      no_sync = same_past c.write.ensures.wrote ∙ before.no_sync;
      calls = writes_block before.calls c.write.ensures.size c.write.ensures.count c.write.ensures.cause;
    }
