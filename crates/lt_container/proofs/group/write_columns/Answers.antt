use Rattle.std.proofs.Common.{rules, ℕ, ◌<◌, arith}
use Rattle.lt_device.proofs.TouchLaws.{fills-writes, touches-writes}
use Rattle.lt_container.specs.Columns.{InColumns}
use Rattle.lt_container.proofs.GroupLaws.{columns-more}
use Rattle.lt_container.proofs.group.write_columns.Goals as goal

pub returns-in_err-write-clause-fills : goal.returns-in_err-write-clause-fills
returns-in_err-write-clause-fills g c =
    let inside : InColumns c.args.first c.block_of.result = (omega (arith, c.block_of.ensures), omega (arith, c.block_of.ensures, c.loop-column-test.true, c.loop-column.auto.column-end)) in
    record { touches = touches-writes c.loop-column.invariant.fills.touches c.write.ensures.wrote inside; no_sync = search rules; calls = search rules }

pub loop-column-preserved : goal.loop-column-preserved
loop-column-preserved g c =
    let before = c.loop-column.invariant in
    let write = c.write.ensures in
    let blocks : ℕ = g.D.Device.blocks c.loop-column.device in
    let inside : InColumns c.args.first c.block_of.result = (omega (arith, c.block_of.ensures), omega (arith, c.block_of.ensures, c.loop-column-test.true, c.loop-column.auto.column-end)) in
    let below : c.block_of.result < blocks = omega (arith, c.block_of.ensures, c.loop-column-test.true, c.loop-column.auto.column-end, before.fills.calls.size, c.requires.within) in
    record {
      columns = columns-more c.args.filters.now c.args.first c.loop-column.column blocks c.block_of.result (g.D.Device.state c.loop-column.device) (g.D.Device.state c.write.new.self) c.fill_column.new.page c.block_of.ensures below write.wrote.fit c.in_ok-write.ensures.ok c.fill_column.ensures.block before.columns;
      fills = fills-writes before.fills write.wrote inside write.size write.count write.cause;
    }
