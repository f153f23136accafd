use Rattle.std.proofs.Common.{◌≡◌, ◌+◌, ◌++◌, ◌∙◌, ap, sym, subst, take}
use Rattle.std.proofs.lemmas.List.{take_all}
use Rattle.lt_format.specs.Trie.{named, node_extents}
use Rattle.lt_node.proofs.MarkLaws.{named_more}
use Rattle.lt_node.proofs.trie.named.Goals as goal

pub loop-entry-preserved : goal.loop-entry-preserved
loop-entry-preserved c =
    let i = c.loop-entry.entry-index in
    let es = c.args.nodes.now in
    let item = c.entry-item.result in
    c.in_ok-name.ensures ∙ ap (λ xs. xs ++ node_extents item.1) c.loop-entry.invariant
    ∙ sym (subst (λ e. named (take (i + 1) es) ≡ named (take i es) ++ node_extents e.1) (sym c.entry-item.is) (named_more es i item c.loop-entry-test.true))

pub returns : goal.returns
returns c = c.loop-entry.invariant ∙ ap named (take_all _ c.args.nodes.now c.loop-entry-test.false)
