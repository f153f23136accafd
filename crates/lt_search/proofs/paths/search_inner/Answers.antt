use Rattle.std.proofs.Common.{rules, ◌≡◌, ℕ, ◌+◌, ◌-◌, ◌*◌, ◌≤◌, sym, ap, subst, ◌∙◌, None, Ok, Err, List, add-one, arith}
use Rattle.std.specs.Prelude.{IsErrOf, count_by}
use Rattle.std.specs.List.{AllByRecursion}
use Rattle.std.proofs.lemmas.Result.{err_from_is_err_and}
use Rattle.lt_device.specs.State.{State}
use Rattle.lt_device.proofs.CallLaws.{reads_more}
use Rattle.lt_format.specs.declared.node_id.NodeId.{NodeId}
use Rattle.lt_format.specs.Layout.{extent_block}
use Rattle.lt_format.specs.Trie.{node_at, path}
use Rattle.lt_htable.specs.declared.faults.LookFault.TheVariants.{Damaged}
use Rattle.lt_image.specs.Versions.{stops}
use Rattle.lt_image.proofs.MapLaws.{named-tables}
use Rattle.lt_search.specs.Asking.{asks_kept, inner_asked}
use Rattle.lt_search.specs.Kept.{may_hold}
use Rattle.lt_search.specs.Reads.{bucket_reads}
use Rattle.lt_search.specs.Searched.{Searched}
use Rattle.lt_search.specs.Seen.{IsBucketOf}
use Rattle.lt_search.proofs.PathLaws.{asked-grows, asked-more, level-exit, level-next}
use Rattle.lt_search.proofs.PileLaws.{same_page}
use Rattle.lt_search.proofs.SearchLaws.{SoFar, all, last-some}
use Rattle.lt_search.proofs.paths.search_inner.Goals as goal

pub search_tables-requires-clause-within : goal.search_tables-requires-clause-within
search_tables-requires-clause-within g c =
    let P = λ (x : ℕ). extent_block c.args.geometry.now x + 65 ≤ g.D.Device.blocks c.args.device.now in
    let tables_are = c.pile-tables.ensures ∙ ap (λ (id : NodeId). (node_at c.args.trie.now.nodes id).tables) (c.path.ensures c.args.key.now c.requires.parts) in
    subst (λ n. AllByRecursion (λ x. extent_block c.args.geometry.now x + 65 ≤ n) c.pile-tables.result.now) (sym c.loop-level.invariant.calls.size)
    (subst (AllByRecursion P) (sym tables_are) (named-tables P c.args.trie.now.nodes (path c.args.key.now c.loop-level.level) c.requires.within))

pub returns-in_err-version-clause-searched : goal.returns-in_err-version-clause-searched
returns-in_err-version-clause-searched g c = λ image told.
    let so_far = c.loop-level.invariant in
    let m : ℕ = c.loop-level.level in
    let key : List ℕ = c.args.key.now in
    let fault = err_from_is_err_and c.from_residual.result c.from_residual.ensures.1 in
    let here = ap (λ (s : State). s.shown) so_far.calls.state ∙ told in
    let tables_are = c.pile-tables.ensures ∙ ap (λ (id : NodeId). (node_at c.args.trie.now.nodes id).tables) (c.path.ensures key c.requires.parts) in
    rw (fault.1, fault.2) (level-exit c.args.geometry.now c.args.filters.now image c.args.trie.now.nodes key m c.pile-tables.result.now tables_are (c.args.geometry.now.levels - 1) (Err c.in_err-version.field-0.0) c.loop-level.out c.args.out.now c.search_tables.new.out _ _ _
    (omega (arith, c.loop-level-test.true, c.levels-levels.ensures.count, c.requires.levels)) (so_far.so_far image told) (c.in_err-version.ensures.searched image (path key m) 0 here) tt so_far.out)

pub returns-then-is_some-clause-searched : goal.returns-then-is_some-clause-searched
returns-then-is_some-clause-searched g c = λ image told.
    let so_far = c.loop-level.invariant in
    let m : ℕ = c.loop-level.level in
    let key : List ℕ = c.args.key.now in
    let here = ap (λ (s : State). s.shown) so_far.calls.state ∙ told in
    let tables_are = c.pile-tables.ensures ∙ ap (λ (id : NodeId). (node_at c.args.trie.now.nodes id).tables) (c.path.ensures key c.requires.parts) in
    level-exit c.args.geometry.now c.args.filters.now image c.args.trie.now.nodes key m c.pile-tables.result.now tables_are (c.args.geometry.now.levels - 1) (Ok c.in_ok-version.version) c.loop-level.out c.args.out.now c.search_tables.new.out _ _ _
    (omega (arith, c.loop-level-test.true, c.levels-levels.ensures.count, c.requires.levels)) (so_far.so_far image told) (c.in_ok-version.ensures.searched image (path key m) 0 here) (last-some c.in_ok-version.version (sym c.is_some.ensures ∙ c.if-is_some.true)) so_far.out

pub loop-level-preserved : goal.loop-level-preserved
loop-level-preserved g c =
    let so_far = c.loop-level.invariant in
    let m : ℕ = c.loop-level.level in
    let key : List ℕ = c.args.key.now in
    let none = sym c.is_some.ensures ∙ c.if-is_some.false in
    let tables_are = c.pile-tables.ensures ∙ ap (λ (id : NodeId). (node_at c.args.trie.now.nodes id).tables) (c.path.ensures key c.requires.parts) in
    record {
      so_far = λ image told.
          let here = ap (λ (s : State). s.shown) so_far.calls.state ∙ told in
          level-next c.args.geometry.now c.args.filters.now image c.args.trie.now.nodes key m c.pile-tables.result.now tables_are c.in_ok-version.version c.loop-level.out c.search_tables.new.out _ _ _ (so_far.so_far image told) (c.in_ok-version.ensures.searched image (path key m) 0 here) none;
      out = same_page c.in_ok-version.version c.loop-level.out c.search_tables.new.out none c.in_ok-version.ensures.ends.page ∙ so_far.out;
      calls = reads_more (let more = ap (inner_asked c.args.filters.now c.args.trie.now.nodes key) (add-one m) ∙ asked-more c.args.filters.now c.args.trie.now.nodes key m in let same = ap (λ (xs : List ℕ). count_by (may_hold c.args.filters.now key) xs) tables_are in omega (arith, more, same)) so_far.calls c.search_tables.ensures.calls;
    }

pub returns-clause-searched : goal.returns-clause-searched
returns-clause-searched g c = λ image told.
    let so_far = c.loop-level.invariant in
    let end : c.loop-level.level ≡ c.args.geometry.now.levels - 1 = omega (arith, c.loop-level-test.false, c.loop-level.auto.level-end, c.levels-levels.ensures.count, c.requires.levels) in
    let asks = asks_kept c.args.filters.now c.args.key.now in
    let at_end = subst (λ n. SoFar asks bucket_reads c.args.geometry.now image c.args.key.now (stops n c.args.trie.now.nodes c.args.key.now) (g.D.Device.reads c.args.device.now) (g.D.Device.reads c.loop-level.device)) end (so_far.so_far image told) in
    subst (λ (page : List ℕ). Searched asks bucket_reads c.args.geometry.now image c.args.key.now (stops (c.args.geometry.now.levels - 1) c.args.trie.now.nodes c.args.key.now) (Ok None) c.args.out.now page (g.D.Device.reads c.args.device.now) (g.D.Device.reads c.loop-level.device)) (sym so_far.out)
    (all asks c.args.geometry.now image c.args.key.now (stops (c.args.geometry.now.levels - 1) c.args.trie.now.nodes c.args.key.now) c.args.out.now _ _ at_end)

pub returns-in_err-version-clause-ends : goal.returns-in_err-version-clause-ends
returns-in_err-version-clause-ends g c = record {
  short = search rules;
  page = search rules;
  damaged = search rules;
  damaged_block = λ b is.
      let was : IsErrOf c.search_tables.result (Damaged b) = search rules in
      let tables_are = c.pile-tables.ensures ∙ ap (λ (id : NodeId). (node_at c.args.trie.now.nodes id).tables) (c.path.ensures c.args.key.now c.requires.parts) in
      record {
        level = c.loop-level.level;
        deep = omega (arith, c.loop-level-test.true, c.levels-levels.ensures.count, c.requires.levels);
        bucket = subst (λ xs. IsBucketOf c.args.geometry.now xs b) tables_are (c.search_tables.ensures.ends.damaged_block b was);
      };
}

pub returns-in_err-version-clause-calls : goal.returns-in_err-version-clause-calls
returns-in_err-version-clause-calls g c =
    let m : ℕ = c.loop-level.level in
    let top : ℕ = c.args.geometry.now.levels - 1 in
    let key : List ℕ = c.args.key.now in
    let done = c.search_tables.ensures.calls in
    let tables_are = c.pile-tables.ensures ∙ ap (λ (id : NodeId). (node_at c.args.trie.now.nodes id).tables) (c.path.ensures key c.requires.parts) in
    let more = ap (inner_asked c.args.filters.now c.args.trie.now.nodes key) (add-one m) ∙ asked-more c.args.filters.now c.args.trie.now.nodes key m in
    let same = ap (λ (xs : List ℕ). count_by (may_hold c.args.filters.now key) xs) tables_are in
    let grows = asked-grows c.args.filters.now c.args.trie.now.nodes key (m + 1) (top - (m + 1)) in
    let there : (top - (m + 1)) + (m + 1) ≡ top = omega (arith, c.loop-level-test.true, c.levels-levels.ensures.count, c.requires.levels) in
    let within = subst (λ n. inner_asked c.args.filters.now c.args.trie.now.nodes key (m + 1) ≤ inner_asked c.args.filters.now c.args.trie.now.nodes key n) there grows in
    let both = reads_more {k = 2 * inner_asked c.args.filters.now c.args.trie.now.nodes key top} (omega (arith, more, same, within)) c.loop-level.invariant.calls done in
    record {
      state = both.state;
      size = both.size;
      count = both.count;
      later = both.later;
      cause = λ failed. let rose = done.cause (search rules) in omega (arith, c.loop-level.invariant.calls.later, rose);
    }

pub returns-then-is_some-clause-calls : goal.returns-then-is_some-clause-calls
returns-then-is_some-clause-calls g c =
    let m : ℕ = c.loop-level.level in
    let top : ℕ = c.args.geometry.now.levels - 1 in
    let key : List ℕ = c.args.key.now in
    let done = c.search_tables.ensures.calls in
    let tables_are = c.pile-tables.ensures ∙ ap (λ (id : NodeId). (node_at c.args.trie.now.nodes id).tables) (c.path.ensures key c.requires.parts) in
    let more = ap (inner_asked c.args.filters.now c.args.trie.now.nodes key) (add-one m) ∙ asked-more c.args.filters.now c.args.trie.now.nodes key m in
    let same = ap (λ (xs : List ℕ). count_by (may_hold c.args.filters.now key) xs) tables_are in
    let grows = asked-grows c.args.filters.now c.args.trie.now.nodes key (m + 1) (top - (m + 1)) in
    let there : (top - (m + 1)) + (m + 1) ≡ top = omega (arith, c.loop-level-test.true, c.levels-levels.ensures.count, c.requires.levels) in
    let within = subst (λ n. inner_asked c.args.filters.now c.args.trie.now.nodes key (m + 1) ≤ inner_asked c.args.filters.now c.args.trie.now.nodes key n) there grows in
    let both = reads_more {k = 2 * inner_asked c.args.filters.now c.args.trie.now.nodes key top} (omega (arith, more, same, within)) c.loop-level.invariant.calls done in
    record {
      state = both.state;
      size = both.size;
      count = both.count;
      later = both.later;
      cause = λ failed. absurd (let at = failed in cc);
    }
