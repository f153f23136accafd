use Rattle.std.proofs.Common.{length, ◌≡◌, false, ◌∙◌, subst, []}
use Rattle.std.proofs.lemmas.List.{length-replicate}
use Rattle.lt_format.specs.Trie.{named}
use Rattle.lt_format.specs.Changes.{new_extents}
use Rattle.lt_node.specs.Changing.{change_of}
use Rattle.lt_node.specs.Marks.{TellsNew}
use Rattle.lt_node.proofs.MarkLaws.{no_marks, tells_are_new}
use Rattle.lt_node.proofs.fitting.are_new.Goals as goal

pub returns : goal.returns
returns g c =
    let limit = g.row.LIMIT in
    let es = c.args.nodes.now in
    let xs = new_extents (change_of c.args.change.now) in
    let all : length c.mark_nodes.new.marks ≡ limit = c.mark_nodes.auto.marks ∙ length-replicate limit false in
    let told = c.mark_change.ensures (named es) (c.mark_nodes.ensures [] (no_marks limit)) in
    tells_are_new limit es xs c.mark_change.result c.mark_change.new.marks (subst (λ n. TellsNew n (named es) xs c.mark_change.result c.mark_change.new.marks) all told)
