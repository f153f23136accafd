use Rattle.std.proofs.Common.{◌≡◌, subst, sym, length, take, ◌+◌, ◌++◌, true, get_or}
use Rattle.std.proofs.lemmas.List.{take_all}
use Rattle.lt_format.specs.Trie.{named, node_extents, all_below}
use Rattle.lt_node.proofs.MarkLaws.{MarksMore, marks_start, marks_next, below_node, named_more}
use Rattle.lt_node.proofs.fitting.mark_nodes.Goals as goal

pub loop-entry-init : goal.loop-entry-init
loop-entry-init c = marks_start c.args.marks.now

pub loop-entry-preserved : goal.loop-entry-preserved
loop-entry-preserved c =
    let i = c.loop-entry.entry-index in
    let es = c.args.nodes.now in
    let item = c.entry-item.result in
    marks_next c.args.marks.now c.loop-entry.marks c.mark_node.new.marks (named (take i es)) (node_extents item.1) (named (take (i + 1) es)) c.loop-entry.invariant c.mark_node.ensures
    (subst (λ e. named (take (i + 1) es) ≡ named (take i es) ++ node_extents e.1) (sym c.entry-item.is) (named_more es i item c.loop-entry-test.true))

pub mark_node-requires : goal.mark_node-requires
mark_node-requires c =
    let i = c.loop-entry.entry-index in
    let item = c.entry-item.result in
    subst (λ e. all_below (length c.loop-entry.marks) (node_extents e.1) ≡ true) (sym c.entry-item.is)
    (subst (λ n. all_below n (node_extents (get_or c.args.nodes.now i item).1) ≡ true) (sym c.loop-entry.auto.marks) (below_node _ c.args.nodes.now i item c.requires c.loop-entry-test.true))

pub returns : goal.returns
returns c = subst (λ es. MarksMore c.args.marks.now (named es) c.loop-entry.marks) (take_all _ c.args.nodes.now c.loop-entry-test.false) c.loop-entry.invariant
