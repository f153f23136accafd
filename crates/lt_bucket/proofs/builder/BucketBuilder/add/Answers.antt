use Rattle.std.proofs.Common.{◌≡◌, ◌≤◌, ◌+◌, ◌-◌, length, arith}
use Rattle.lt_terms.specs.Items.{item_cost}
use Rattle.lt_item.specs.Views.{item_of}
use Rattle.lt_bucket.proofs.Growing.{more_spelled, count_fits}
use Rattle.lt_bucket.proofs.builder.BucketBuilder.add.Goals as goal

pub overflow_add-self-2 : goal.overflow_add-self-2
overflow_add-self-2 c =
    let few = count_fits _ _ _ c.args.self.now.spelled in
    let room = c.args.self.now.spelled.fits in
    omega arith

pub invariant_of-self : goal.invariant_of-self
invariant_of-self c =
    let after : c.put_item-end.result - 16 ≡ c.args.self.now.used + item_cost (item_of c.args.item.now) = let e = c.put_item-end.ensures.after in omega arith in
    let long : 16 + c.args.self.now.used ≤ length c.args.self.now.page.now = let l = c.put_item-end.ensures.was_block.len in let f = c.args.self.now.spelled.fits in omega arith in
    record { spelled = (more_spelled _ _ _ _ _ _ c.args.self.now.spelled c.requires.valid c.requires.fits long c.put_item-end.ensures.written after).spelled }

pub returns-clause-added : goal.returns-clause-added
returns-clause-added c =
    let after : c.put_item-end.result - 16 ≡ c.args.self.now.used + item_cost (item_of c.args.item.now) = let e = c.put_item-end.ensures.after in omega arith in
    let long : 16 + c.args.self.now.used ≤ length c.args.self.now.page.now = let l = c.put_item-end.ensures.was_block.len in let f = c.args.self.now.spelled.fits in omega arith in
    (more_spelled _ _ _ _ _ _ c.args.self.now.spelled c.requires.valid c.requires.fits long c.put_item-end.ensures.written after).items
