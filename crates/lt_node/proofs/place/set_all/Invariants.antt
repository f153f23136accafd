use Rattle.std.specs.Prelude.{vec_len, vec_capacity}
use Rattle.std.specs.List.{fold}
use Rattle.lt_node.specs.Changing.{with_entry}
use Rattle.lt_node.proofs.PlaceLaws.{Sets}
use Rattle.lt_node.proofs.place.set_all.Given as goal

abbrev pub invariant-loop-entry : goal.invariant-loop-entry
invariant-loop-entry l = Sets (fold with_entry l.fn.nodes.items l.fn.entries.items) l.nodes.items l.entry-iterator.rest.items (vec_len l.nodes) (vec_capacity l.nodes)
