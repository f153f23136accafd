use Rattle.std.proofs.Common.{◌∙◌}
use Rattle.lt_item.proofs.Readings.{behind_item, cut-front}
use Rattle.lt_item.proofs.spelling.front.Goals as goal

pub returns-clause-item : goal.returns-clause-item
returns-clause-item c =
    behind_item _ _ _ _ _ c.in_ok-header.ensures.cases.1 c.cut.ensures.key_len c.cut.ensures.value_len
    ∙ c.cut.ensures.item
    ∙ cut-front _ _ _ _ _ c.in_ok-header.ensures.cases c.kind_of.ensures c.from_be_bytes-value_len.ensures
