use Rattle.lt_image.proofs.StandLaws.{opened-flush-sound, opened-flush-keeps, flush-stands}
use Rattle.lt_image.proofs.flushing.flushes_stand.Goals as goal

pub returns-clause-sound : goal.returns-clause-sound
returns-clause-sound c = opened-flush-sound

pub returns-clause-map : goal.returns-clause-map
returns-clause-map c = opened-flush-keeps

pub returns-clause-stands : goal.returns-clause-stands
returns-clause-stands c = flush-stands
