use Rattle.std.proofs.Common.{◌<◌, arith}
use Rattle.lt_node.proofs.OctalLaws.{few_digits, reads_none, reads_more, reads_end}
use Rattle.lt_node.proofs.key_path.octal.Goals as goal

pub overflow_mul-number : goal.overflow_mul-number
overflow_mul-number c =
    let i = c.loop-digit.digit-index in
    let few : c.loop-digit.number < 512 = few_digits c.loop-digit.number i c.loop-digit.invariant.below (omega arith) in
    omega arith

pub loop-digit-init : goal.loop-digit-init
loop-digit-init c = reads_none _

pub loop-digit-preserved : goal.loop-digit-preserved
loop-digit-preserved c = reads_more c.args.digits.now c.loop-digit.number c.loop-digit.digit-index c.loop-digit.invariant c.loop-digit-test.true (c.requires.digits c.loop-digit.digit-index 0 c.loop-digit-test.true)

pub returns : goal.returns
returns c = reads_end c.args.digits.now c.loop-digit.number c.loop-digit.digit-index c.loop-digit.invariant c.loop-digit-test.false
