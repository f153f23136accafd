use Rattle.std.proofs.Common.{ℕ, ◌+◌, ◌≤◌, ◌∙◌, sym, ap, List, ◌++◌, length, drop, arith}
use Rattle.lt_format.specs.declared.node_id.NodeId.{NodeId}
use Rattle.lt_format.specs.Trie.{Node}
use Rattle.lt_format.specs.Snapshot.{node_bytes, nodes_bytes}
use Rattle.std.proofs.lemmas.List.Folds.{length-flat_map-take}
use Rattle.lt_manifest.proofs.SpellingLaws.{nodes-next, spelled-more, spelled-fits}
use Rattle.lt_manifest.proofs.snapshot.spelling.spell_nodes.Goals as goal

pub spell_node-requires-clause-few : goal.spell_node-requires-clause-few
spell_node-requires-clause-few c =
    let here = length-flat_map-take node_bytes c.args.nodes.now c.loop-entry.entry-index c.entry-item.result c.loop-entry-test.true in
    let same = ap (λ (e : NodeId × Node). length (node_bytes e)) c.entry-item.is in
    let few : length (nodes_bytes c.args.nodes.now) ≤ 1249280 = c.requires.few in
    let size : length (node_bytes c.entry-item.result) ≤ 1249280 = omega (arith, here, same, few) in
    size

pub spell_node-requires-clause-room : goal.spell_node-requires-clause-room
spell_node-requires-clause-room c =
    let so_far = c.loop-entry.invariant in
    let rest : List ℕ = nodes_bytes (drop (c.loop-entry.entry-index + 1) c.args.nodes.now) in
    let next = nodes-next c.args.nodes.now c.loop-entry.entry-index c.entry-item.result c.loop-entry-test.true ∙ ap (λ (e : NodeId × Node). node_bytes e ++ rest) (sym c.entry-item.is) in
    spelled-fits c.loop-entry.bytes.items (node_bytes c.entry-item.result) rest c.args.bytes.now.items (nodes_bytes c.args.nodes.now) (nodes_bytes (drop c.loop-entry.entry-index c.args.nodes.now)) _ _ so_far.bytes next c.requires.room so_far.capacity

pub loop-entry-preserved : goal.loop-entry-preserved
loop-entry-preserved c =
    let so_far = c.loop-entry.invariant in
    let rest : List ℕ = nodes_bytes (drop (c.loop-entry.entry-index + 1) c.args.nodes.now) in
    let next = nodes-next c.args.nodes.now c.loop-entry.entry-index c.entry-item.result c.loop-entry-test.true ∙ ap (λ (e : NodeId × Node). node_bytes e ++ rest) (sym c.entry-item.is) in
    record {
      bytes = spelled-more c.loop-entry.bytes.items c.spell_node.new.bytes.items (node_bytes c.entry-item.result) rest _ (nodes_bytes (drop c.loop-entry.entry-index c.args.nodes.now)) so_far.bytes next c.spell_node.ensures.bytes;
      capacity = omega (arith, so_far.capacity, c.spell_node.ensures.capacity);
    }
