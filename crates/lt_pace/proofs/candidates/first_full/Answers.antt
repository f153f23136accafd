use Rattle.std.proofs.Common.{◌≡◌, ◌∙◌, ◌-◌, ℕ, suc, sym, ap, arith}
use Rattle.lt_format.specs.Trie.{Trie}
use Rattle.lt_pace.specs.Candidates.{name_of}
use Rattle.lt_pace.proofs.CandidateLaws.{first_of, level-found, level-passed, no-levels}
use Rattle.lt_pace.proofs.candidates.first_full.Goals as goal

pub returns-then-is_some : goal.returns-then-is_some
returns-then-is_some c =
    let trie : Trie = c.args.trie.now.nodes in
    let levels : ℕ = c.args.trie.now.levels in
    let n : ℕ = c.loop-level.level - 1 in
    let next : suc n ≡ c.loop-level.level = omega (arith, c.loop-level-test.true) in
    level-found levels trie c.args.passed_over.now n c.full_on-node.result c.full_on-node.ensures (sym c.is_some.ensures ∙ c.if-is_some.true)
    ∙ ap name_of (ap (first_of levels trie c.args.passed_over.now) next ∙ sym c.loop-level.invariant.below)

pub loop-level-preserved : goal.loop-level-preserved
loop-level-preserved c =
    let trie : Trie = c.args.trie.now.nodes in
    let levels : ℕ = c.args.trie.now.levels in
    let n : ℕ = c.loop-level.level - 1 in
    let next : suc n ≡ c.loop-level.level = omega (arith, c.loop-level-test.true) in
    record {
      below = c.loop-level.invariant.below ∙ ap (first_of levels trie c.args.passed_over.now) (sym next)
          ∙ level-passed levels trie c.args.passed_over.now n c.full_on-node.result c.full_on-node.ensures (sym c.is_some.ensures ∙ c.if-is_some.false);
    }

pub returns : goal.returns
returns c =
    let trie : Trie = c.args.trie.now.nodes in
    let levels : ℕ = c.args.trie.now.levels in
    let none : c.loop-level.level ≡ 0 = omega (arith, c.loop-level-test.false) in
    sym (ap name_of (c.loop-level.invariant.below ∙ ap (first_of levels trie c.args.passed_over.now) none ∙ no-levels levels trie c.args.passed_over.now))
