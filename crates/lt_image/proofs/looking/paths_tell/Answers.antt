use Rattle.lt_image.proofs.OpenLaws.{opens-well}
use Rattle.lt_image.proofs.SoundLaws.{sound-found, sound-value, sound-pending}
use Rattle.lt_image.proofs.looking.paths_tell.Goals as goal

pub returns-clause-newest : goal.returns-clause-newest
returns-clause-newest c = λ image o key opens sound. sound-found o image key (opens-well image o opens).rising sound

pub returns-clause-value : goal.returns-clause-value
returns-clause-value c = λ image o key opens sound. sound-value o image key (opens-well image o opens).rising sound

pub returns-clause-pending : goal.returns-clause-pending
returns-clause-pending c = λ image o items key opens sound. sound-pending o image items key (opens-well image o opens).rising sound
