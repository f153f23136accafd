use Rattle.std.proofs.Common.{length, ◌++◌, refl}
use Rattle.lt_node.proofs.MarkLaws.{tells_next, tells_stop}
use Rattle.lt_node.proofs.fitting.mark_both.Goals as goal

pub returns-then-not-mark_new : goal.returns-then-not-mark_new
returns-then-not-mark_new c = tells_stop (length c.args.marks.now) c.args.marks.now c.mark_new.new.marks c.args.first.now c.args.second.now (c.args.first.now ++ c.args.second.now) c.if-not-mark_new.ensures refl

pub returns : goal.returns
returns c = tells_next (length c.args.marks.now) c.args.marks.now c.mark_new.new.marks c.mark_new-2.new.marks c.args.first.now c.args.second.now (c.args.first.now ++ c.args.second.now) c.mark_new-2.result c.if-not-mark_new.ensures c.mark_new.auto.marks c.mark_new-2.ensures refl
