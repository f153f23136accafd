use Rattle.std.proofs.Common.{◌∙◌, ℕ, ◌-◌, ap, sym, not, ◌||◌, ◌&&◌}
use Rattle.std.specs.Prelude.{◌==◌}
use Rattle.std.specs.List.{find}
use Rattle.lt_format.specs.declared.node_id.NodeId.{NodeId}
use Rattle.lt_format.specs.Trie.{Node}
use Rattle.lt_pace.specs.Candidates.{name_of}
use Rattle.lt_pace.specs.Marks.{is_marked}
use Rattle.lt_pace.proofs.CandidateLaws.{find-sifted}
use Rattle.lt_pace.proofs.candidates.first_slack.Goals as goal

pub returns : goal.returns
returns c =
    let sift = find-sifted (λ (e : NodeId × Node). not (is_marked c.args.passed_over.now e.0 || is_marked c.args.without_slack.now e.0)) (λ e. e.0.level == c.args.trie.now.levels - 1) c.args.trie.now.nodes in
    let found = λ (level : ℕ). name_of (find (λ e. (e.0.level == level) && not (is_marked c.args.passed_over.now e.0 || is_marked c.args.without_slack.now e.0)) c.args.trie.now.nodes) in
    c.unmarked_on.ensures ∙ ap (λ (levels : ℕ). found (levels - 1)) c.levels.ensures.count ∙ ap name_of (sym sift)
