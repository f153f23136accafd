use Rattle.lt_compact.proofs.LocalLaws.{flush-shaped, same-keeps, flush-keeps_job}
use Rattle.lt_compact.proofs.laws.jobs_outlast.Goals as goal

pub returns-clause-shaped : goal.returns-clause-shaped
returns-clause-shaped c = flush-shaped

pub returns-clause-same : goal.returns-clause-same
returns-clause-same c = λ m old new j spares holds. same-keeps m old new j spares.of_trie spares.of_job holds.shaped holds.keeps

pub returns-clause-flushed : goal.returns-clause-flushed
returns-clause-flushed c = λ m n old new tables j least geometry flushed spares holds.
    flush-keeps_job m n old new tables j least geometry flushed spares.of_trie spares.of_job holds.shaped holds.keeps
