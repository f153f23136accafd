use Rattle.std.proofs.Common.{◌∙◌}
use Rattle.std.proofs.lemmas.List.{take-replicate}
use Rattle.lt_terms.specs.Bytes.{zeros}
use Rattle.lt_bucket.proofs.builder.zeros.Goals as goal

pub returns : goal.returns
unfolding zeros
returns c = c.split_at.ensures.front ∙ take-replicate c.args.len 4080 0 c.requires
