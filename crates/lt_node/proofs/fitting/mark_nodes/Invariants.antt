use Rattle.std.specs.Prelude.{take}
use Rattle.lt_format.specs.Trie.{named}
use Rattle.lt_node.proofs.MarkLaws.{MarksMore}
use Rattle.lt_node.proofs.fitting.mark_nodes.Given as goal

abbrev pub invariant-loop-entry : goal.invariant-loop-entry
invariant-loop-entry l = MarksMore l.fn.marks (named (take l.entry-index l.nodes)) l.marks
