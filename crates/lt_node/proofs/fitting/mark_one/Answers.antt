use Rattle.lt_node.proofs.MarkLaws.{tells_marked}
use Rattle.lt_node.proofs.fitting.mark_one.Goals as goal

pub returns : goal.returns
returns c = tells_marked c.args.marks.now c.args.number c.if-index-marks.false c.if-marks-index.false
