use Rattle.lt_htable.proofs.SoughtLaws.{column-small}
use Rattle.lt_htable.proofs.filling.place_of.Goals as goal

pub plan-plan-requires : goal.plan-plan-requires
plan-plan-requires c = column-small c.parts-parts.result.now c.args.item.now.key c.parts-parts.ensures
