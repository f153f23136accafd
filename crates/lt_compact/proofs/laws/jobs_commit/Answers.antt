use Rattle.lt_compact.proofs.CommitLaws.{job-committed}
use Rattle.lt_compact.proofs.laws.jobs_commit.Goals as goal

pub returns : goal.returns
returns c = λ old new o p j change header s was is stands geometry ready manifest may groups spares holds.
    job-committed old new o p j change header s was is stands geometry ready manifest may groups spares.of_trie spares.of_job holds.shaped holds.keeps
