use Rattle.std.proofs.Common.{◌∙◌, ap}
use Rattle.lt_format.specs.Trie.{is_node}
use Rattle.lt_compact.specs.Jobs.{JobView}
use Rattle.lt_compact.proofs.JobLaws.{shaped-node}
use Rattle.lt_compact.proofs.job.Job.plan_shares.Goals as goal

pub plan_lists-requires-clause-node : goal.plan_lists-requires-clause-node
plan_lists-requires-clause-node c =
    ap (λ (j : JobView). is_node c.args.trie.now.levels j.node) c.self.view_is ∙ shaped-node c.args.trie.now.levels c.args.trie.now.nodes c.args.self.now c.levels.ensures.trie.trie c.requires.shaped
