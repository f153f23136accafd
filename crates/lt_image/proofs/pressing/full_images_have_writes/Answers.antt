use Rattle.lt_image.proofs.FewLaws.{full-few}
use Rattle.lt_image.proofs.pressing.full_images_have_writes.Goals as goal

pub returns : goal.returns
returns c = full-few
