use Rattle.std.specs.Prelude.{◌≡◌, not}
use Rattle.std.specs.List.{find}
use Rattle.lt_pace.specs.Candidates.{full_nodes}
use Rattle.lt_pace.specs.Marks.{is_marked}
use Rattle.lt_pace.proofs.candidates.first_full.Given as goal

-- no candidate lies at the levels that were asked
abbrev pub invariant-loop-level : goal.invariant-loop-level
invariant-loop-level l = record {
  below : find (λ e. not (is_marked l.passed_over e.0)) (full_nodes l.trie.levels l.trie.nodes l.trie.levels)
      ≡ find (λ e. not (is_marked l.passed_over e.0)) (full_nodes l.trie.levels l.trie.nodes l.level);
}
