use Rattle.lt_image.proofs.KeptLaws.{stored-few}
use Rattle.lt_image.proofs.CountLaws.{flushed-few, flushes}
use Rattle.lt_image.proofs.flushing.few_items_are_stored.Goals as goal

pub returns-clause-before : goal.returns-clause-before
returns-clause-before c = λ image o sound. stored-few o image sound

pub returns-clause-after : goal.returns-clause-after
returns-clause-after c = flushed-few

pub returns-clause-flushes : goal.returns-clause-flushes
returns-clause-flushes c = flushes
