use Rattle.std.proofs.Common.{◌≡◌, ℕ, ◌∙◌, sym, ap, subst, List, [], None, Ok, Err, IsTrue, arith}
use Rattle.std.specs.Prelude.{slice_index}
use Rattle.std.proofs.lemmas.Result.{err_from_is_err_and}
use Rattle.lt_format.specs.Trie.{Trie, is_node, named, with_node}
use Rattle.lt_format.specs.Snapshot.{nodes_read}
use Rattle.lt_node.specs.View.{TrieView}
use Rattle.lt_manifest.proofs.FaultLaws.{read-ok, read-part}
use Rattle.lt_manifest.proofs.FreshLaws.{are_new-from}
use Rattle.lt_manifest.proofs.NodeLaws.{node_read-next, nodes-more, nodes-fault, nodes-all, shaped-wider}
use Rattle.lt_manifest.proofs.ReadingLaws.{after_front-ok, after_front-short, after_front-fault}
use Rattle.lt_manifest.proofs.snapshot.node.read_trie.Goals as goal

pub set_node-requires-clause-node : goal.set_node-requires-clause-node
set_node-requires-clause-node c =
    let so_far = c.loop.invariant.part in
    let nodes : Trie = c.loop.trie.nodes in
    let read = read-ok _ _ _ _ (c.read_node.ensures.read (named nodes) so_far.marks_are) c.in_ok-node.was in
    let next = node_read-next _ _ _ _ _ _ _ _ read in
    subst (λ l. IsTrue (is_node l c.in_ok-node.node.id)) (sym c.loop.invariant.levels) next.there

pub set_node-requires-clause-shaped : goal.set_node-requires-clause-shaped
set_node-requires-clause-shaped c =
    let so_far = c.loop.invariant.part in
    let nodes : Trie = c.loop.trie.nodes in
    let read = read-ok _ _ _ _ (c.read_node.ensures.read (named nodes) so_far.marks_are) c.in_ok-node.was in
    let next = node_read-next _ _ _ _ _ _ _ _ read in
    rw (c.loop.invariant.levels, c.of.ensures, c.of-in-loop.ensures) (shaped-wider c.args.geometry.now.levels c.args.front.now.header.extents 65536 c.in_ok-node.node.id (record { base = c.in_ok-node.node.base; tables = c.in_ok-node.node.tables.items; groups = c.in_ok-node.node.groups.items }) c.requires.extents next.shaped)

pub set_node-requires-clause-new : goal.set_node-requires-clause-new
set_node-requires-clause-new c =
    let so_far = c.loop.invariant.part in
    let nodes : Trie = c.loop.trie.nodes in
    let read = read-ok _ _ _ _ (c.read_node.ensures.read (named nodes) so_far.marks_are) c.in_ok-node.was in
    let next = node_read-next _ _ _ _ _ _ _ _ read in
    rw (c.of.ensures, c.of-in-loop.ensures) (are_new-from 65536 _ nodes _ c.requires.extents next.fresh)

pub loop-preserved : goal.loop-preserved
loop-preserved c =
    let so_far = c.loop.invariant in
    let nodes : Trie = c.loop.trie.nodes in
    let read = read-ok _ _ _ _ (c.read_node.ensures.read (named nodes) so_far.part.marks_are) c.in_ok-node.was in
    let more = nodes-more _ _ _ _ _ _ _ _ _ _ nodes _ _ _ c.loop-test.true so_far.part read (c.in_ok-node.ensures.marked (named nodes) so_far.part.marks_are) in
    let set : c.set_node.new.self.nodes ≡ with_node nodes c.in_ok-node.node.id (record { base = c.in_ok-node.node.base; tables = c.of.result; groups = c.of-in-loop.result }) = ap (λ (v : TrieView). v.nodes) c.in_ok-set_node.ensures.ok in
    let tables = ap (λ (xs : List ℕ). with_node nodes c.in_ok-node.node.id (record { base = c.in_ok-node.node.base; tables = xs; groups = c.of-in-loop.result })) c.of.ensures in
    let groups = ap (λ (xs : List ℕ). with_node nodes c.in_ok-node.node.id (record { base = c.in_ok-node.node.base; tables = c.in_ok-node.node.tables.items; groups = xs })) c.of-in-loop.ensures in
    let now = set ∙ tables ∙ groups in
    record {
      levels = ap (λ (v : TrieView). v.levels) c.in_ok-set_node.ensures.ok ∙ so_far.levels;
      marks = omega (arith, so_far.marks);
      part = rw now more;
    }

pub returns-in_err-node-clause-read : goal.returns-in_err-node-clause-read
returns-in_err-node-clause-read c =
    let fault = err_from_is_err_and c.from_residual-in_err-node.result c.from_residual-in_err-node.ensures.1 in
    let so_far = c.loop.invariant.part in
    read-part _ _ _ fault.0 _ _ _ _ c.in_err-node.was fault.1 fault.2 (c.read_node.ensures.read (named c.loop.trie.nodes) so_far.marks_are)
    (λ e bad. after_front-fault c.args.geometry.now _ _ e (subst (λ n. nodes_read (slice_index c.args.bytes.now) n c.args.geometry.now.levels c.args.front.now.header.extents c.args.front.now.nodes None [] 40 ≡ Err e) c.requires.total (nodes-fault _ _ _ _ _ _ _ _ e _ _ c.loop-test.true so_far bad)))

pub returns-then-place-bytes-clause-read : goal.returns-then-place-bytes-clause-read
returns-then-place-bytes-clause-read c =
    after_front-ok c.args.geometry.now _ _ _ _ (subst (λ n. nodes_read (slice_index c.args.bytes.now) n c.args.geometry.now.levels c.args.front.now.header.extents c.args.front.now.nodes None [] 40 ≡ Ok (c.loop.trie.nodes, c.loop.place)) c.requires.total (nodes-all _ _ _ _ _ _ _ _ _ _ (omega (arith, c.loop-test.false)) c.loop.invariant.part)) (omega (arith, c.if-place-bytes.true, c.requires.total))

pub returns-clause-read : goal.returns-clause-read
returns-clause-read c =
    after_front-short c.args.geometry.now _ _ _ _ (subst (λ n. nodes_read (slice_index c.args.bytes.now) n c.args.geometry.now.levels c.args.front.now.header.extents c.args.front.now.nodes None [] 40 ≡ Ok (c.loop.trie.nodes, c.loop.place)) c.requires.total (nodes-all _ _ _ _ _ _ _ _ _ _ (omega (arith, c.loop-test.false)) c.loop.invariant.part)) (λ ends. c.if-place-bytes.false (omega (arith, ends, c.requires.total)))
