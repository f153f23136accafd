use Rattle.std.proofs.Common.{rules, ◌≡◌, ◌+◌, ◌<◌, arith}
use Rattle.lt_format.specs.Layout.{area_block}
use Rattle.lt_manifest.specs.Written.{InArea, page_of}
use Rattle.lt_device.proofs.TouchLaws.{fills-writes, touches-writes}
use Rattle.lt_manifest.proofs.WriteLaws.{written-more}
use Rattle.lt_manifest.proofs.area.write_pages.Goals as goal

pub returns-in_err-write-clause-fills : goal.returns-in_err-write-clause-fills
returns-in_err-write-clause-fills g c =
    let low : c.loop-block.block < 305 = omega (arith, c.loop-block-test.true, c.div_ceil-block-end.ensures, c.requires.room) in
    let inside : InArea c.args.area (c.area-first.result + c.loop-block.block) = (omega (arith, c.area-first.ensures), omega (arith, c.area-first.ensures, low)) in
    record { touches = touches-writes c.loop-block.invariant.fills.touches c.write.ensures.wrote inside; no_sync = search rules; calls = search rules }

pub loop-block-preserved : goal.loop-block-preserved
loop-block-preserved g c =
    let so_far = c.loop-block.invariant in
    let write = c.write.ensures in
    let low : c.loop-block.block < 305 = omega (arith, c.loop-block-test.true, c.div_ceil-block-end.ensures, c.requires.room) in
    let inside : InArea c.args.area (c.area-first.result + c.loop-block.block) = (omega (arith, c.area-first.ensures), omega (arith, c.area-first.ensures, low)) in
    let at : c.area-first.result + c.loop-block.block ≡ area_block c.args.area + c.loop-block.block = omega (arith, c.area-first.ensures) in
    let in_range : c.area-first.result + c.loop-block.block < g.D.Device.blocks c.loop-block.device = omega (arith, c.area-first.ensures, low, so_far.fills.calls.size, c.requires.within, c.requires.area_is) in
    record {
      written = written-more (λ k. area_block c.args.area + k) (page_of c.args.bytes.now) c.loop-block.block _ _ _ _ _ at (λ k earlier e. omega arith) in_range write.wrote.fit c.in_ok-write.ensures.ok c.fill_page.ensures so_far.written;
      fills = fills-writes so_far.fills write.wrote inside write.size write.count write.cause;
    }
