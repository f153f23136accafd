-- A deal with what it works on.
use Rattle.std.specs.Prelude.{◌≡◌, Bool, List, length}
use Rattle.lt_node.specs.View.{TrieView}
use Rattle.lt_compact.specs.Extents.{GoesWith}
use Rattle.lt_compact.specs.Jobs.{JobView}

-- a job of a trie of two levels may go on, where 32 extents may be taken
pub record MayStep (trie : TrieView) (taken : List Bool) (job : JobView) : Type 0 where
  pub levels : trie.levels ≡ 2
  pub goes : GoesWith 2 trie.nodes taken job
  pub extents : length taken ≡ 32
