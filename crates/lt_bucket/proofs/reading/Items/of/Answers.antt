use Rattle.std.proofs.Common.{◌∙◌, sym, ◌+◌, ◌-◌, arith}
use Rattle.lt_bucket.proofs.ItemsOf.{is_some-none, is_some-one, is_some-whole, is_some-part, unwrapped, nothing}
use Rattle.lt_bucket.proofs.reading.Items.of.Goals as goal

pub returns-in_err-at : goal.returns-in_err-at
returns-in_err-at c =
    let stops = is_some-none _ (c.args.count - (c.loop.counter + 1)) _ (omega arith) (sym c.in_err-at.ensures.item) in
    c.from_residual.ensures ∙ sym (nothing _ (c.loop.invariant.left ∙ stops))

pub loop-preserved : goal.loop-preserved
loop-preserved c = record {
  within = c.in_ok-at.ensures.within;
  left = c.loop.invariant.left ∙ is_some-one _ (c.args.count - (c.loop.counter + 1)) _ _ (omega arith) (sym c.in_ok-at.ensures.item);
}

pub invariant_of-result : goal.invariant_of-result
invariant_of-result c = c.loop.invariant.left ∙ is_some-whole (c.args.count - c.loop.counter) _ _ (omega arith) c.if-at-bytes.true

pub returns-then-at-bytes : goal.returns-then-at-bytes
returns-then-at-bytes c = sym (unwrapped _ (c.loop.invariant.left ∙ is_some-whole (c.args.count - c.loop.counter) _ _ (omega arith) c.if-at-bytes.true))

pub returns-else-at-bytes : goal.returns-else-at-bytes
returns-else-at-bytes c = sym (nothing _ (c.loop.invariant.left ∙ is_some-part (c.args.count - c.loop.counter) _ _ (omega arith) c.loop.invariant.within c.if-at-bytes.false))
