use Rattle.std.proofs.Common.{◌≡◌, ◌≤◌, arith, ap, subst, true, length}
use Rattle.lt_format.specs.Changes.{are_new, new_extents}
use Rattle.lt_node.specs.Changing.{change_of}
use Rattle.lt_node.proofs.ApplyLaws.{fits_below}
use Rattle.lt_node.proofs.TotalLaws.{new_few}
use Rattle.lt_node.proofs.trie.Trie.changed.Goals as goal

pub rewritten-requires : goal.rewritten-requires
rewritten-requires c =
    let t = c.args.self.now in
    let new = fits_below t.levels t.nodes (change_of c.args.change.now) c.requires in
    let named = subst (λ v. are_new 65536 t.nodes (new_extents (change_of v)) ≡ true) c.in-Rewrite.is new in
    let few : length c.in-Rewrite.tables ≤ 65536 = new_few t.nodes c.in-Rewrite.tables c.in-Rewrite.groups named in
    let same : length c.list-in-Rewrite.result.now ≡ length c.in-Rewrite.tables = ap length c.list-in-Rewrite.ensures in
    omega arith
