use Rattle.lt_image.proofs.SpellsLaws.{spells-reads, spells-is}
use Rattle.lt_image.proofs.judging.pages_spell_what_is_read.Goals as goal

pub returns : goal.returns
returns c = λ page bucket. (spells-reads page bucket, spells-is page bucket)
