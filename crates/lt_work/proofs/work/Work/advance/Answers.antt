use Rattle.std.proofs.Common.{sym, subst}
use Rattle.lt_work.specs.Work.{SuitsTrie}
use Rattle.lt_work.proofs.work.Work.advance.Goals as goal

pub returns-in_ok-begin-in-None-clause-suits : goal.returns-in_ok-begin-in-None-clause-suits
returns-in_ok-begin-in-None-clause-suits g c =
    subst (λ n. SuitsTrie n c.args.trie.now.nodes c.args.extents.now c.begin.new.self) c.requires.levels
    (c.begin.ensures.suits c.args.extents.now c.requires.taken (subst (λ n. SuitsTrie n c.args.trie.now.nodes c.args.extents.now c.args.self.now) (sym c.requires.levels) c.requires.suits))
