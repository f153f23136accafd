-- A job with what it works on.
use Rattle.std.specs.Prelude.{◌≡◌, ◌≤◌, Bool, List, length}
use Rattle.lt_terms.specs.Bytes.{Image}
use Rattle.lt_format.specs.Layout.{blocks_needed}
use Rattle.lt_node.specs.View.{TrieView}
use Rattle.lt_compact.specs.Extents.{GoesWith}
use Rattle.lt_compact.specs.Jobs.{JobView}

-- a job of a trie of two levels may go on, and all extents that may be taken lie on the device
pub record MayStep (trie : TrieView) (taken : List Bool) (shown : Image) (job : JobView) : Type 0 where
  pub levels : trie.levels ≡ 2
  pub goes : GoesWith 2 trie.nodes taken job
  pub within : blocks_needed (record { levels = 2; slots = 1 }) (length taken) ≤ length shown
