-- What contracts see of the trie in memory.
use Rattle.std.specs.Prelude.{◌≡◌, ℕ, ◌≤◌}
use Rattle.lt_format.specs.Trie.{Trie, IsTrie, table_total}

-- how many levels the trie has, and its nodes
pub record TrieView : Type 0 where
  pub levels : ℕ
  pub nodes : Trie

-- the trie of a store that may have 65,536 extents
pub record IsView (view : TrieView) : Type 0 where
  pub least : 2 ≤ view.levels
  pub most : view.levels ≤ 5
  pub trie : IsTrie view.levels 65536 view.nodes

-- the count that is kept is that of all tables
pub record IsKept (trie : TrieView) (count : ℕ) : Type 0 where
  pub shape : IsView trie
  pub tables : count ≡ table_total trie.nodes
