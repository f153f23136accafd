use Rattle.std.proofs.Common.{ℕ, ◌+◌, ◌∙◌, sym, ap, List, ◌++◌, drop, arith}
use Rattle.lt_format.specs.Snapshot.{numbers}
use Rattle.lt_manifest.proofs.SpellingLaws.{numbers-next, spelled-more, spelled-fits}
use Rattle.lt_manifest.proofs.snapshot.spelling.spell_numbers.Goals as goal

pub add-requires : goal.add-requires
add-requires c =
    let so_far = c.loop-number.invariant in
    let next = numbers-next c.args.list.now c.loop-number.number-index 0 c.loop-number-test.true ∙ ap (λ (xs : List ℕ). xs ++ numbers (drop (c.loop-number.number-index + 1) c.args.list.now)) (sym c.to_be_bytes.ensures) in
    spelled-fits c.loop-number.bytes.items c.to_be_bytes.result (numbers (drop (c.loop-number.number-index + 1) c.args.list.now)) c.args.bytes.now.items (numbers c.args.list.now) (numbers (drop c.loop-number.number-index c.args.list.now)) _ _ so_far.bytes next c.requires so_far.capacity

pub loop-number-preserved : goal.loop-number-preserved
loop-number-preserved c =
    let so_far = c.loop-number.invariant in
    let next = numbers-next c.args.list.now c.loop-number.number-index 0 c.loop-number-test.true ∙ ap (λ (xs : List ℕ). xs ++ numbers (drop (c.loop-number.number-index + 1) c.args.list.now)) (sym c.to_be_bytes.ensures) in
    record {
      bytes = spelled-more c.loop-number.bytes.items c.add.new.bytes.items c.to_be_bytes.result (numbers (drop (c.loop-number.number-index + 1) c.args.list.now)) _ (numbers (drop c.loop-number.number-index c.args.list.now)) so_far.bytes next c.add.ensures.bytes;
      capacity = omega (arith, so_far.capacity, c.add.ensures.capacity);
    }
