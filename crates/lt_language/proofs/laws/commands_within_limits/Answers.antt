use Rattle.lt_language.proofs.CommandLaws.{command_of-IsWithinLimits}
use Rattle.lt_language.proofs.laws.commands_within_limits.Goals as goal

pub returns : goal.returns
returns c = command_of-IsWithinLimits
