use Rattle.std.proofs.Common.{◌+◌}
use Rattle.lt_device.specs.Calls.{FillsOnly}
use Rattle.lt_format.specs.Layout.{area_block}
use Rattle.lt_manifest.specs.Written.{AreWritten, InArea, page_of}
use Rattle.lt_manifest.proofs.area.write_pages.Given as goal

-- the blocks so far are written
abbrev pub invariant-loop-block : goal.invariant-loop-block
invariant-loop-block g l = record {
  written : AreWritten (λ k. area_block l.area + k) (page_of l.bytes) l.block (g.D.Device.state l.device).shown;
  fills : FillsOnly g.D.Device (InArea l.area) ⊥ l.fn.device l.device;
}
