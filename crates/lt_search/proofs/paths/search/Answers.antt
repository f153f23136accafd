use Rattle.lt_search.proofs.SoundLaws.{sound-answer, sound-bound}
use Rattle.lt_search.proofs.paths.search.Goals as goal

pub returns-clause-answer : goal.returns-clause-answer
returns-clause-answer g c = λ image told sound.
    sound-answer c.args.geometry.now c.args.filters.now image c.args.trie.now.nodes c.args.key.now c.walk.result c.args.out.now c.walk.new.out sound (c.walk.ensures.searched image told).seen

pub returns-clause-bound : goal.returns-clause-bound
returns-clause-bound g c = λ image told sound.
    sound-bound c.args.geometry.now c.args.filters.now image c.args.trie.now.nodes c.args.key.now _ _ sound (c.walk.ensures.searched image told).reads

pub returns-clause-seen : goal.returns-clause-seen
returns-clause-seen g c = λ image told. (c.walk.ensures.searched image told).seen

pub returns-clause-reads : goal.returns-clause-reads
returns-clause-reads g c = λ image told. (c.walk.ensures.searched image told).reads
