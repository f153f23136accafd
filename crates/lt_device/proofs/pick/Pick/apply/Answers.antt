use Rattle.std.proofs.Common.{◌∙◌}
use Rattle.lt_device.proofs.Picks.{filled_whole}
use Rattle.lt_device.proofs.pick.Pick.apply.Goals as goal

pub returns-in-Filled-clause-picked : goal.returns-in-Filled-clause-picked
returns-in-Filled-clause-picked c = rw c.in-Filled.is (c.fill_from.ensures.filled ∙ filled_whole _ c.in-Filled.byte c.requires.len)
