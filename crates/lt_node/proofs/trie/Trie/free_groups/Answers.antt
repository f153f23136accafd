use Rattle.std.proofs.Common.{◌≡◌, ◌+◌, ◌++◌, ◌∙◌, ap, sym, subst, take, map, append_assoc}
use Rattle.std.specs.List.{flat_map}
use Rattle.std.proofs.lemmas.List.{take_all}
use Rattle.lt_node.specs.Changing.{child_of, freed_groups}
use Rattle.lt_node.proofs.MarkLaws.{freed_more}
use Rattle.lt_node.proofs.trie.Trie.free_groups.Goals as goal

pub loop-child-preserved : goal.loop-child-preserved
loop-child-preserved c =
    let i = c.loop-child.child-index in
    let cs = c.args.children.now in
    let trie = c.args.self.now.nodes in
    let so_far = flat_map (freed_groups trie) (map child_of (take i cs)) in
    let more = subst (λ e. flat_map (freed_groups trie) (map child_of (take (i + 1) cs)) ≡ so_far ++ freed_groups trie (child_of e)) (sym c.child-item.is) (freed_more trie cs i c.child-item.result c.loop-child-test.true) in
    c.in_ok-extend_from_slice.ensures.items ∙ ap (λ xs. xs ++ c.behind-groups.result.now) c.loop-child.invariant
    ∙ ap (λ gs. (c.args.extents.now.items ++ so_far) ++ gs) (c.behind-groups.ensures ∙ cc (c.groups.ensures))
    ∙ append_assoc c.args.extents.now.items so_far (freed_groups trie (child_of c.child-item.result)) ∙ ap (λ xs. c.args.extents.now.items ++ xs) (sym more)

pub returns : goal.returns
returns c = c.loop-child.invariant ∙ ap (λ cs. c.args.extents.now.items ++ flat_map (freed_groups c.args.self.now.nodes) (map child_of cs)) (take_all _ c.args.children.now c.loop-child-test.false)
