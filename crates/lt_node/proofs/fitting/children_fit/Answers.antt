use Rattle.std.proofs.Common.{sym, ap, ◌∙◌, map}
use Rattle.std.proofs.lemmas.List.{drop_all}
use Rattle.lt_format.specs.Changes.{children_fit}
use Rattle.lt_node.specs.Changing.{child_of}
use Rattle.lt_node.proofs.FitLaws.{fit_step, fit_stop}
use Rattle.lt_node.proofs.fitting.children_fit.Goals as goal

pub loop-child-preserved : goal.loop-child-preserved
loop-child-preserved c = c.loop-child.invariant ∙ fit_step c.args.trie.now.levels c.args.trie.now.nodes c.args.node c.loop-child.from c.args.children.now c.loop-child.child-index c.child-item.result c.child-item.is c.loop-child-test.true (sym c.if-not-child_fits.ensures)

pub returns-then-not-child_fits : goal.returns-then-not-child_fits
returns-then-not-child_fits c = sym (c.loop-child.invariant ∙ fit_stop c.args.trie.now.levels c.args.trie.now.nodes c.args.node c.loop-child.from c.args.children.now c.loop-child.child-index c.child-item.result c.child-item.is c.loop-child-test.true (sym c.if-not-child_fits.ensures))

pub returns : goal.returns
returns c = sym (c.loop-child.invariant ∙ ap (λ cs. children_fit c.args.trie.now.levels c.args.trie.now.nodes c.args.node c.loop-child.from (map child_of cs)) (drop_all _ c.args.children.now c.loop-child-test.false))
