use Rattle.std.proofs.Common.{◌≡◌, ◌∙◌, ap, List, ◌++◌, length, ℕ, arith, length-append}
use Rattle.std.proofs.lemmas.List.{length-take}
use Rattle.lt_device.specs.State.{State}
use Rattle.lt_device.proofs.CallLaws.{reads_block}
use Rattle.lt_manifest.proofs.ReadingLaws.{bytes-more, bytes-front}
use Rattle.lt_manifest.proofs.snapshot.reading.read_bytes.Goals as goal

pub loop-block-preserved : goal.loop-block-preserved
loop-block-preserved g c =
    let so_far = c.loop-block.invariant in
    let read = c.read.ensures in
    let len : length c.read.new.into ≡ 4096 = c.bytes-in-loop-block.ensures.block.len in
    let items : c.extend_from_slice.new.self.items ≡ c.loop-block.bytes.items ++ c.read.new.into = c.in-Ok-extend_from_slice.ensures.items ∙ ap (λ (xs : List ℕ). c.loop-block.bytes.items ++ xs) c.bytes-in-loop-block.ensures.bytes in
    record {
      length_is = ap length items ∙ omega (arith, length-append c.loop-block.bytes.items c.read.new.into, len, so_far.length_is);
      read = λ image told page.
          let now = c.in_ok-read.ensures.content image (ap (λ (s : State). s.shown) so_far.calls.state ∙ told) in
          rw items (bytes-more image c.args.first c.loop-block.block c.read.new.into c.loop-block.bytes.items len so_far.length_is now (so_far.read image told page));
      calls = reads_block (omega (arith, c.loop-block.auto.block)) so_far.calls read.state read.size read.count read.cause;
    }

pub returns-clause-count : goal.returns-clause-count
returns-clause-count g c =
    let all = c.loop-block.invariant.length_is in
    ap length c.truncate.ensures.items ∙ omega (arith, length-take c.args.count c.loop-block.bytes.items, all, c.loop-block-test.false, c.div_ceil-block-end.ensures)

pub returns-clause-read : goal.returns-clause-read
returns-clause-read g c = λ image told page. bytes-front image c.args.first c.args.count _ _ c.truncate.ensures.items (c.loop-block.invariant.read image told page)
