use Rattle.std.proofs.Common.{arith, ◌≤◌, ◌+◌, length}
use Rattle.lt_node.proofs.TotalLaws.{counts_start, counts_next, counts_few, counts_end}
use Rattle.lt_node.proofs.trie.count_tables.Goals as goal

pub loop-entry-init : goal.loop-entry-init
loop-entry-init c = counts_start c.args.nodes.now

pub overflow_add-count : goal.overflow_add-count
overflow_add-count c =
    let few : c.loop-entry.count + length c.tables.result.now ≤ 65536 = counts_few c.args.nodes.now c.loop-entry.entry-index c.loop-entry.count c.entry-item.result c.tables.result.now c.loop-entry.invariant c.entry-item.is c.loop-entry-test.true c.tables.ensures c.requires in
    omega arith

pub loop-entry-preserved : goal.loop-entry-preserved
loop-entry-preserved c = counts_next c.args.nodes.now c.loop-entry.entry-index c.loop-entry.count c.entry-item.result c.tables.result.now c.loop-entry.invariant c.entry-item.is c.loop-entry-test.true c.tables.ensures

pub overflow_cast-result : goal.overflow_cast-result
overflow_cast-result c = let is = counts_end c.args.nodes.now c.loop-entry.entry-index c.loop-entry.count c.loop-entry.invariant c.loop-entry-test.false in omega (arith, is, c.requires)

pub returns : goal.returns
returns c = counts_end c.args.nodes.now c.loop-entry.entry-index c.loop-entry.count c.loop-entry.invariant c.loop-entry-test.false
