use Rattle.std.proofs.Common.{sym, ap, ◌∙◌, Global, Vec}
use Rattle.lt_bucket.specs.declared.owned.Item.{Item}
use Rattle.lt_compact.proofs.LooseLaws.{deletes-here}
use Rattle.lt_compact.proofs.StepLaws.{has_delete}
use Rattle.lt_compact.proofs.planning.have_deletes.Goals as goal

pub returns-then-has_delete : goal.returns-then-has_delete
returns-then-has_delete c =
    sym (deletes-here (λ (list : Vec Item Global). list.items) c.args.lists.now c.loop-list.list-index c.list-item.result c.loop-list-test.true c.list-item.is
    (ap has_delete (sym c.deref.ensures.value) ∙ sym c.has_delete.ensures ∙ c.if-has_delete.true))
