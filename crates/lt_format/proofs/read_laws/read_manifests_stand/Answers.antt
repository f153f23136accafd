use Rattle.lt_format.proofs.ReadLaws.{manifest_of-named}
use Rattle.lt_format.proofs.read_laws.read_manifests_stand.Goals as goal

pub returns-clause-geometry : goal.returns-clause-geometry
returns-clause-geometry c = λ image n h. (manifest_of-named image n h).geometry

pub returns-clause-area : goal.returns-clause-area
returns-clause-area c = λ image n h. (manifest_of-named image n h).read.area

pub returns-clause-extents : goal.returns-clause-extents
returns-clause-extents c = λ image n h. (manifest_of-named image n h).read.extents

pub returns-clause-trie : goal.returns-clause-trie
returns-clause-trie c = λ image n h. (manifest_of-named image n h).read.trie
