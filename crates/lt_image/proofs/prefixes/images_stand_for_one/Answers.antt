use Rattle.lt_image.proofs.PrefixLaws.{one-state}
use Rattle.lt_image.proofs.prefixes.images_stand_for_one.Goals as goal

pub returns : goal.returns
returns c = one-state
