use Rattle.std.proofs.Common.{◌-◌, ◌*◌, ◌/◌, ◌%◌, ◌^◌, set, ap, ◌∙◌}
use Rattle.std.specs.Prelude.{bit_or}
use Rattle.lt_bloom.proofs.FilterLaws.{is_set-set}
use Rattle.lt_bloom.proofs.bits.set.Goals as goal

pub returns-clause-set : goal.returns-clause-set
returns-clause-set c =
    is_set-set c.args.page.now c.set.new.self c.args.bit c.requires c.byte-byte.ensures.block.len
    (c.set.ensures.set ∙ ap (λ byte. set c.args.page.now (c.args.bit / 8) (bit_or byte (1 * 2 ^ (7 - c.args.bit % 8) % 256))) c.byte-byte.ensures.byte)
