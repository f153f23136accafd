use Rattle.std.proofs.Common.{◌++◌, ◌∙◌, ap, append_assoc}
use Rattle.lt_node.proofs.trie.name.Goals as goal

pub returns : goal.returns
returns c =
    let old = c.args.extents.now.items in
    let n = c.args.entry.now.1 in
    c.in_ok-extend_from_slice-2.ensures.items ∙ ap (λ xs. xs ++ c.groups.result.now) c.in_ok-extend_from_slice.ensures.items
    ∙ ap (λ ts. (old ++ ts) ++ c.groups.result.now) c.tables.ensures ∙ ap (λ gs. (old ++ n.tables) ++ gs) c.groups.ensures
    ∙ append_assoc old n.tables n.groups
