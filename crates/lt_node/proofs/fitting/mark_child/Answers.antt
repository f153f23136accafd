use Rattle.std.proofs.Common.{subst, ◌++◌}
use Rattle.lt_node.specs.Marks.{MarksNew}
use Rattle.lt_node.proofs.fitting.mark_child.Goals as goal

pub returns : goal.returns
returns c =
    subst (λ ts. MarksNew c.args.marks.now (ts ++ c.args.child.now.groups) c.mark_both.result c.mark_both.new.marks) c.list.ensures
    (subst (λ gs. MarksNew c.args.marks.now (c.list.result.now ++ gs) c.mark_both.result c.mark_both.new.marks) c.list-2.ensures c.mark_both.ensures)
