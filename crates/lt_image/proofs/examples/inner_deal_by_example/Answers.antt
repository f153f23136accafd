use Rattle.lt_image.proofs.ExampleLaws.{inner-shares, inner-needs, inner-trie}
use Rattle.lt_image.proofs.examples.inner_deal_by_example.Goals as goal

pub returns-clause-shares : goal.returns-clause-shares
returns-clause-shares c = inner-shares

pub returns-clause-needs : goal.returns-clause-needs
returns-clause-needs c = inner-needs

pub returns-clause-trie : goal.returns-clause-trie
returns-clause-trie c = inner-trie
