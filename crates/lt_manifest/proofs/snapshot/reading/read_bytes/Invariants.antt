use Rattle.std.proofs.Common.{◌≡◌, ◌-◌, ◌*◌, length}
use Rattle.std.specs.Option.{ForSome}
use Rattle.lt_terms.specs.Bytes.{block_at}
use Rattle.lt_device.specs.Calls.{OnlyReads}
use Rattle.lt_manifest.specs.Area.{AreBytesFrom}
use Rattle.lt_manifest.proofs.snapshot.reading.read_bytes.Given as goal

-- the bytes of the blocks so far were read
abbrev pub invariant-loop-block : goal.invariant-loop-block
invariant-loop-block g l = record {
  length_is : length l.bytes.items ≡ 4096 * l.block;
  read : ForSome (g.D.Device.state l.fn.device).shown (λ image. l.fn.page ≡ block_at image l.first → AreBytesFrom image l.first l.bytes.items);
  calls : OnlyReads g.D.Device (l.block - 1) ⊥ l.fn.device l.device;
}
