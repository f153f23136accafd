use Rattle.std.proofs.Common.{subst, ap, length, ◌∙◌, ◌++◌, refl}
use Rattle.lt_format.specs.Trie.{all_below}
use Rattle.lt_node.proofs.MarkLaws.{MarksMore, marks_next, below_parts}
use Rattle.lt_node.proofs.fitting.mark_node.Goals as goal

pub mark-requires : goal.mark-requires
mark-requires c =
    let n = c.args.entry.now.1 in
    ap (all_below (length c.args.marks.now)) c.tables.ensures ∙ (below_parts (length c.args.marks.now) n.tables n.groups c.requires).0

pub mark-requires-2 : goal.mark-requires-2
mark-requires-2 c =
    let n = c.args.entry.now.1 in
    ap (λ l. all_below l c.groups.result.now) c.mark.auto.marks ∙ ap (all_below (length c.args.marks.now)) c.groups.ensures ∙ (below_parts (length c.args.marks.now) n.tables n.groups c.requires).1

pub returns : goal.returns
returns c =
    let n = c.args.entry.now.1 in
    let tables = subst (λ xs. MarksMore c.args.marks.now xs c.mark.new.marks) c.tables.ensures c.mark.ensures in
    let groups = subst (λ xs. MarksMore c.mark.new.marks xs c.mark-2.new.marks) c.groups.ensures c.mark-2.ensures in
    marks_next c.args.marks.now c.mark.new.marks c.mark-2.new.marks n.tables n.groups (n.tables ++ n.groups) tables groups refl
