use Rattle.lt_image.proofs.KeptLaws.{fresh-stands}
use Rattle.lt_image.proofs.keeping.fresh_images_stand.Goals as goal

pub returns : goal.returns
returns c = fresh-stands
