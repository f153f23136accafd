use Rattle.std.proofs.Common.{◌≡◌, ◌≤◌, ◌∙◌, ap, sym, subst, length, arith}
use Rattle.lt_compact.specs.Extents.{AllTaken, GoesWith}
use Rattle.lt_compact.proofs.BeginLaws.{all-taken, begun-goes}
use Rattle.lt_bench.proofs.jobs.Deal.begin.Goals as goal

pub invariant_of-result : goal.invariant_of-result
invariant_of-result c =
    let levels : c.in_ok-trie.trie.levels ≡ 2 = omega arith in
    let below : 1 ≤ length c.pile-tables.result.now = omega (arith, c.if-tables-lt1.false) in
    let some = subst (λ n. 1 ≤ n) (ap length c.pile-tables.ensures) below in
    let named = c.as_slice-named.ensures.value ∙ c.in_ok-named.ensures.named in
    let taken = all-taken 32 c.as_slice-named.result.now c.in_ok-extents.extents c.in_ok-extents.ensures (c.is_below-fits.ensures c.if-not-fits.false) in
    let all = subst (AllTaken c.in_ok-extents.extents) named taken in
    record {
      levels = levels;
      goes =
          subst (λ n. GoesWith n c.in_ok-trie.trie.nodes c.in_ok-extents.extents c.in_ok-job.job) levels
          (subst (GoesWith c.in_ok-trie.trie.levels c.in_ok-trie.trie.nodes c.in_ok-extents.extents) (sym c.in_ok-job.ensures)
          (begun-goes c.in_ok-trie.trie.levels c.in_ok-trie.trie.nodes c.in_ok-extents.extents _ some all c.levels-levels.ensures.trie.trie.distinct));
      extents = c.in_ok-extents.ensures.len;
    }
