use Rattle.std.proofs.Common.{rules, ℕ, ◌+◌, ◌<◌, ◌≤◌, ◌∙◌, sym, ap, subst, List, ◌++◌, length, take, append-nil, arith}
use Rattle.std.specs.List.{AllByRecursion}
use Rattle.std.proofs.lemmas.List.{length-append}
use Rattle.lt_device.specs.State.{State}
use Rattle.lt_device.proofs.CallLaws.{reads_more}
use Rattle.lt_format.specs.declared.node_id.NodeId.{NodeId}
use Rattle.lt_format.specs.Layout.{extent_block}
use Rattle.lt_format.specs.Trie.{Trie, named}
use Rattle.lt_search.specs.Kept.{KeepsExactly, inner_tables}
use Rattle.lt_search.proofs.KeepLaws.{entry-tables, inner-is, inner-more, inner-part, last-is}
use Rattle.lt_search.proofs.kept.InnerFilters.load.Goals as goal
use Rattle.lt_search.proofs.kept.InnerFilters.load.Goals.{then-level-levels+in_ok-load_pile, else-level-levels}

pub load_pile-requires-clause-below : goal.load_pile-requires-clause-below
load_pile-requires-clause-below g c =
    let all = entry-tables (λ x. x < c.args.extents) c.nodes-entry-items.result.now c.loop-entry.entry-index c.entry-item.result (subst (λ (t : Trie). AllByRecursion (λ x. x < c.args.extents) (named t)) (sym c.nodes-entry-items.ensures.nodes) c.requires.below) c.loop-entry-test.true c.entry-item.is in
    subst (λ n. AllByRecursion (λ x. x < n) c.tables.result.now) (sym c.loop-entry.invariant.len) (subst (AllByRecursion (λ x. x < c.args.extents)) (sym c.tables.ensures) all)

pub load_pile-requires-clause-within : goal.load_pile-requires-clause-within
load_pile-requires-clause-within g c =
    let P = λ (x : ℕ). extent_block c.args.geometry.now x + 65 ≤ g.D.Device.blocks c.args.device.now in
    let all = entry-tables P c.nodes-entry-items.result.now c.loop-entry.entry-index c.entry-item.result (subst (λ (t : Trie). AllByRecursion P (named t)) (sym c.nodes-entry-items.ensures.nodes) c.requires.within) c.loop-entry-test.true c.entry-item.is in
    subst (λ n. AllByRecursion (λ x. extent_block c.args.geometry.now x + 65 ≤ n) c.tables.result.now) (sym c.loop-entry.invariant.calls.size) (subst (AllByRecursion P) (sym c.tables.ensures) all)

pub returns-in_err-load_pile-clause-calls : goal.returns-in_err-load_pile-clause-calls
returns-in_err-load_pile-clause-calls g c =
    let i : ℕ = c.loop-entry.entry-index in
    let nodes : Trie = c.nodes-entry-items.result.now in
    let levels : ℕ = c.args.geometry.now.levels in
    let done = c.load_pile.ensures.calls in
    let pile = inner-is levels c.levels-levels.result c.entry-item.result (c.levels-levels.ensures.count ∙ c.requires.levels) (omega (arith, c.levels-levels.ensures.trie.least, c.requires.levels)) (λ is. c.if-level-levels.true (ap (λ (id : NodeId). id.level) c.node-level.ensures ∙ is)) ∙ sym c.tables.ensures in
    let more = ap length (inner-more levels i nodes c.entry-item.result c.loop-entry-test.true c.entry-item.is) in
    let sum = length-append (inner_tables levels (take i nodes)) c.tables.result.now in
    let pile_len = ap (λ xs. length (inner_tables levels (take i nodes) ++ xs)) pile in
    let part = inner-part levels (i + 1) nodes in
    let all = ap (λ (t : Trie). length (inner_tables levels t)) c.nodes-entry-items.ensures.nodes in
    let both = reads_more {k = length (inner_tables levels c.args.trie.now.nodes)} (omega (arith, more, sum, pile_len, part, all)) c.loop-entry.invariant.calls done in
    record {
      state = both.state;
      size = both.size;
      count = both.count;
      later = both.later;
      cause = λ failed. let rose = done.cause (search rules) in omega (arith, c.loop-entry.invariant.calls.later, rose);
    }

pub loop-entry-preserved : goal.loop-entry-preserved
loop-entry-preserved g c =
    let so_far = c.loop-entry.invariant in
    let i : ℕ = c.loop-entry.entry-index in
    let nodes : Trie = c.nodes-entry-items.result.now in
    let levels : ℕ = c.args.geometry.now.levels in
    let before : List ℕ = inner_tables levels (take i nodes) in
    let top = c.levels-levels.ensures.count ∙ c.requires.levels in
    let some : 2 ≤ levels = omega (arith, c.levels-levels.ensures.trie.least, c.requires.levels) in
    let more = inner-more levels i nodes c.entry-item.result c.loop-entry-test.true c.entry-item.is in
    elim c.if-level-levels.branch [
      | then-level-levels+in_ok-load_pile w ↦
          let pile = inner-is levels c.levels-levels.result c.entry-item.result top some (λ is. w.if-level-levels.true (ap (λ (id : NodeId). id.level) c.node-level.ensures ∙ is)) ∙ sym w.tables.ensures in
          let here = more ∙ ap (λ xs. before ++ xs) pile in
          rw (w.filters-is, w.device-is) (record {
            len = w.load_pile.ensures.len ∙ so_far.len;
            filters = λ image told. subst (λ xs. KeepsExactly c.args.geometry.now w.load_pile.new.self xs image) (sym here) (w.in_ok-load_pile.ensures.filters image before (ap (λ (s : State). s.shown) so_far.calls.state ∙ told) (so_far.filters image told));
            calls = reads_more (let all = ap length here in let sum = length-append before w.tables.result.now in omega (arith, all, sum)) so_far.calls w.load_pile.ensures.calls;
          })
      | else-level-levels w ↦
          let none = last-is levels c.levels-levels.result c.entry-item.result top some (sym (ap (λ (id : NodeId). id.level) c.node-level.ensures) ∙ w.if-level-levels.false) in
          let here = more ∙ ap (λ xs. before ++ xs) none ∙ append-nil before in
          rw (w.filters-is, w.device-is) (record {
            len = so_far.len;
            filters = λ image told. subst (λ xs. KeepsExactly c.args.geometry.now c.loop-entry.filters xs image) (sym here) (so_far.filters image told);
            calls = record {
              state = so_far.calls.state;
              size = so_far.calls.size;
              count = record { later = so_far.calls.count.later; at_most = let all = ap length here in omega (arith, all, so_far.calls.count.later, so_far.calls.count.at_most) };
              later = so_far.calls.later;
              cause = λ never. absurd never;
            };
          })
    ]
