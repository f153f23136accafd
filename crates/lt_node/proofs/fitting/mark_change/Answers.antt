use Rattle.std.proofs.Common.{subst, sym, map, ◌++◌}
use Rattle.lt_format.specs.Changes.{given_extents, new_extents}
use Rattle.lt_node.specs.Changing.{change_of, child_of}
use Rattle.lt_node.specs.Marks.{MarksNew}
use Rattle.lt_node.proofs.fitting.mark_change.Goals as goal

pub returns-in-Flush : goal.returns-in-Flush
returns-in-Flush c =
    subst (λ v. MarksNew c.args.marks.now (new_extents (change_of v)) c.mark_new.result c.mark_new.new.marks) (sym c.in-Flush.is)
    (subst (λ xs. MarksNew c.args.marks.now xs c.mark_new.result c.mark_new.new.marks) c.list.ensures c.mark_new.ensures)

pub returns-in-Deal : goal.returns-in-Deal
returns-in-Deal c =
    subst (λ v. MarksNew c.args.marks.now (new_extents (change_of v)) c.mark_children.result c.mark_children.new.marks) (sym c.in-Deal.is)
    (subst (λ cs. MarksNew c.args.marks.now (given_extents (map child_of cs)) c.mark_children.result c.mark_children.new.marks) c.list-in-Deal.ensures c.mark_children.ensures)

pub returns-in-Rewrite : goal.returns-in-Rewrite
returns-in-Rewrite c =
    subst (λ v. MarksNew c.args.marks.now (new_extents (change_of v)) c.mark_both.result c.mark_both.new.marks) (sym c.in-Rewrite.is)
    (subst (λ ts. MarksNew c.args.marks.now (ts ++ c.in-Rewrite.groups) c.mark_both.result c.mark_both.new.marks) c.list-in-Rewrite.ensures
    (subst (λ gs. MarksNew c.args.marks.now (c.list-in-Rewrite.result.now ++ gs) c.mark_both.result c.mark_both.new.marks) c.list-in-Rewrite-2.ensures c.mark_both.ensures))
