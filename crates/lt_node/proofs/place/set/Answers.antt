use Rattle.std.proofs.Common.{◌∙◌, ap, is_ok, cond}
use Rattle.std.specs.List.{insert}
use Rattle.lt_node.proofs.PlaceLaws.{taken_out, replaced, left_out, put_in}
use Rattle.lt_node.proofs.place.set.Goals as goal

pub returns-in-Ok-true-clause-nodes : goal.returns-in-Ok-true-clause-nodes
returns-in-Ok-true-clause-nodes c = c.remove.ensures.items ∙ taken_out c.args.nodes.now.items c.deref.result.now c.args.entry c.node.result c.tables.result.now c.deref.ensures.value c.node.ensures c.tables.ensures c.in-Ok-true.index c.in-Ok-true.ensures c.in-Ok-true.ensures'

pub returns-in-Ok-false-clause-nodes : goal.returns-in-Ok-false-clause-nodes
returns-in-Ok-false-clause-nodes c = replaced c.args.nodes.now.items c.deref.result.now c.args.entry c.node.result c.tables.result.now c.deref.ensures.value c.node.ensures c.tables.ensures c.in-Ok-false.index c.in-Ok-false.ensures c.in-Ok-false.ensures'

pub returns-in-Err-true-clause-nodes : goal.returns-in-Err-true-clause-nodes
returns-in-Err-true-clause-nodes c = left_out c.args.nodes.now.items c.deref.result.now c.args.entry c.node.result c.tables.result.now c.deref.ensures.value c.node.ensures c.tables.ensures c.in-Err-true.field-0-0 c.in-Err-true.ensures c.in-Err-true.ensures'

pub returns-in-Err-false-clause-nodes : goal.returns-in-Err-false-clause-nodes
returns-in-Err-false-clause-nodes c =
    c.insert.ensures.items ∙ ap (λ r. cond (is_ok r) (insert c.args.nodes.now.items c.in-Err-false.index c.args.entry) c.args.nodes.now.items) c.unwrap.ensures
    ∙ put_in c.args.nodes.now.items c.deref.result.now c.args.entry c.node.result c.tables.result.now c.deref.ensures.value c.node.ensures c.tables.ensures c.in-Err-false.index c.in-Err-false.ensures c.in-Err-false.ensures'
