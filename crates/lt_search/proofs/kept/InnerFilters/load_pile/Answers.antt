use Rattle.std.proofs.Common.{ℕ, ◌+◌, ◌<◌, ◌∙◌, sym, ap, subst, List, ◌++◌, ◌∷◌, [], Option, Some, length, get_or, set, take, append_assoc, arith}
use Rattle.std.proofs.lemmas.List.{length-set, take_more}
use Rattle.lt_terms.specs.Bytes.{block_at}
use Rattle.lt_device.specs.State.{State}
use Rattle.lt_device.proofs.CallLaws.{reads_more}
use Rattle.lt_search.specs.Kept.{KeepsExactly}
use Rattle.lt_search.proofs.KeepLaws.{all_at, keeps-more}
use Rattle.lt_search.proofs.kept.InnerFilters.load_pile.Goals as goal

pub loop-extent-preserved : goal.loop-extent-preserved
loop-extent-preserved g c =
    let so_far = c.loop-extent.invariant in
    let i : ℕ = c.loop-extent.extent-index in
    let tables : List ℕ = c.args.tables.now in
    let x : ℕ = get_or tables i 0 in
    let kept : List (Option (List ℕ)) = c.loop-extent.self in
    let page : List ℕ = c.in_ok-filters.filters in
    record {
      len = ap length c.keep.ensures ∙ length-set kept x (Some page) ∙ so_far.len;
      filters = λ image before told keeps.
          let here = ap (λ (s : State). s.shown) so_far.calls.state ∙ told in
          let block = c.in_ok-filters.ensures.filters image here ∙ ap (λ n. block_at image (n + 64)) c.extent.ensures in
          let small = all_at (λ n. n < length c.args.self.now) tables i c.requires.below c.loop-extent-test.true in
          let more = keeps-more c.args.geometry.now kept (before ++ take i tables) x page image (so_far.filters image before told keeps) (omega (arith, small, so_far.len)) block in
          let tables_are = append_assoc before (take i tables) (x ∷ []) ∙ ap (λ xs. before ++ xs) (sym (take_more tables i 0 c.loop-extent-test.true)) in
          subst (λ (f : List (Option (List ℕ))). KeepsExactly c.args.geometry.now f (before ++ take (i + 1) tables) image) (sym c.keep.ensures)
          (subst (λ xs. KeepsExactly c.args.geometry.now (set kept x (Some page)) xs image) tables_are more);
      calls = reads_more (omega arith) so_far.calls c.read_filters.ensures.calls;
    }
