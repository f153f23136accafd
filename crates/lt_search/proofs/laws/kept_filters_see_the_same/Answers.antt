use Rattle.lt_search.proofs.SoundLaws.{kept-seen}
use Rattle.lt_search.proofs.laws.kept_filters_see_the_same.Goals as goal

pub returns : goal.returns
returns c = kept-seen
