use Rattle.std.proofs.Common.{◌≡◌, ◌+◌, ◌-◌, arith}
use Rattle.lt_terms.specs.Items.{item_cost}
use Rattle.lt_item.specs.Views.{item_of}
use Rattle.lt_redo.proofs.GroupLaws.{IsGathered-push}
use Rattle.lt_redo.proofs.group.gather.Goals as goal

pub returns-clause-gathered : goal.returns-clause-gathered
returns-clause-gathered c = λ count items before.
    let item = item_of c.args.item.now in
    let used : c.put_item.result - 4 ≡ c.args.used + item_cost item = omega (arith, c.put_item.ensures.after) in
    rw (c.put_item.ensures.written, used) (IsGathered-push c.args.page.now count c.args.used items item c.put_item.ensures.was_block.len before c.requires.valid c.requires.room)
