use Rattle.std.proofs.Common.{ap}
use Rattle.lt_format.specs.declared.header.Header.{Header}
use Rattle.lt_store.proofs.AnswerLaws.{named-within}
use Rattle.lt_store.proofs.StopLaws.{named-below}
use Rattle.lt_store.proofs.opening.inner_filters.Goals as goal

pub load-requires-clause-below : goal.load-requires-clause-below
load-requires-clause-below g c = rw (c.trie.ensures.nodes, ap (λ (h : Header). h.extents) c.header-extents.ensures.header) (named-below c.args.manifest.now c.trie.ensures.kept)

pub load-requires-clause-within : goal.load-requires-clause-within
load-requires-clause-within g c = rw (c.trie.ensures.nodes, c.geometry.ensures.geometry) (named-within c.args.manifest.now _ c.trie.ensures.kept c.requires.room)
