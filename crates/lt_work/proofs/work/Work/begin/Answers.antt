use Rattle.std.proofs.Common.{sym, subst, Some}
use Rattle.lt_compact.specs.Jobs.{JobView}
use Rattle.lt_work.specs.Work.{SuitsTrie, WorkView}
use Rattle.lt_work.proofs.CandidateLaws.{begun-suits, next-is}
use Rattle.lt_work.proofs.work.Work.begin.Goals as goal

pub job_at-requires : goal.job_at-requires
job_at-requires c = (next-is c.args.wanted c.args.trie.now.levels 65536 c.args.trie.now.nodes c.args.self.now c.in-Some.node c.levels.ensures.trie.trie (sym c.in-Some.ensures)).some

pub returns-clause-suits : goal.returns-clause-suits
returns-clause-suits c = λ taken are suits.
    subst (λ (w : WorkView). SuitsTrie c.args.trie.now.levels c.args.trie.now.nodes taken (record w { job = Some c.in_ok-job_at.field-0 })) (sym c.self.view_is)
    (subst (λ (q : JobView). SuitsTrie c.args.trie.now.levels c.args.trie.now.nodes taken (record c.args.self.now { job = Some q })) (sym c.in_ok-job_at.ensures)
    (begun-suits c.args.wanted c.args.trie.now.levels c.args.trie.now.nodes taken c.args.self.now c.in-Some.node c.levels.ensures.trie.trie (sym c.in-Some.ensures) are suits))
