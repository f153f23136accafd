use Rattle.std.proofs.Common.{◌≡◌, subst, true}
use Rattle.lt_compact.specs.Extents.{filters_in}
use Rattle.lt_compact.specs.Inside.{job_in, stage_in}
use Rattle.lt_compact.specs.Jobs.{JobView, is_filled}
use Rattle.lt_compact.proofs.JobLaws.{filters-whole}
use Rattle.lt_compact.proofs.job.Job.into_filters.Goals as goal

pub returns : goal.returns
returns c =
    subst (λ (j : JobView). is_filled j.stage ≡ true → c.self.inside.filters.items ≡ filters_in j j.stage) c.self.view_is
    (λ filled. filters-whole (job_in c.self.inside) (stage_in c.self.inside.stage) c.self.inside.filters.items filled c.self.invariant.reserved c.self.invariant.filters) c.requires
