use Rattle.std.proofs.Common.{◌∙◌, sym}
use Rattle.lt_balance.proofs.TableLaws.{has_placement-kept, has_placement-is}
use Rattle.lt_balance.proofs.tables.fit.Goals as goal

pub returns-then-not-sends : goal.returns-then-not-sends
returns-then-not-sends c = λ es entries are. sym (has_placement-kept es c.args.columns.now entries are (c.requires c.if-not-sends.true))

pub returns : goal.returns
returns c = λ es entries are. c.is_some.ensures ∙ sym (has_placement-is (λ made. made.items) es c.sendings_of.result (c.sendings_of.ensures es are))
