-- Piles and versions of the worked examples. The keys are of one byte each; their digits, columns and suffixes are
-- those of their hashes.
use Rattle.std.specs.Prelude.{ℕ, List, [], ◌∷◌, codes, replicate}
use Rattle.std.specs.List.{range_with_len}
use Rattle.lt_terms.specs.Items.{Item, delete_of, put_of}
use Rattle.lt_format.specs.declared.geometry.Geometry.{Geometry}
use Rattle.lt_format.specs.Changes.{Change, deal}
use Rattle.lt_format.specs.Trie.{Node, Trie, child, root}

-- a node whose tables are so many extents from a number on, with these groups
abbrev pub pile : ℕ → ℕ → List ℕ → Node
pile first tables groups = record { base = 0; tables = range_with_len first tables; groups = groups }

-- a full root over one child, at inner levels
abbrev pub inner_trie : Trie
inner_trie = (root, pile 0 8 []) ∷ (child root 4, pile 8 2 []) ∷ []

-- the versions of three keys, the oldest first: "a" and "c" lead to child 4, and "d" to child 1
abbrev pub three_keys : List Item
three_keys =
    put_of (codes "a") (1 ∷ []) ∷ put_of (codes "d") (2 ∷ []) ∷ put_of (codes "c") (3 ∷ [])
    ∷ put_of (codes "a") (4 ∷ []) ∷ delete_of (codes "d") ∷ []

-- the change of the deal of the three keys, where extent 20 becomes the table of child 1 and extent 21 that of child 4
abbrev pub inner_deal : Change
inner_deal =
    deal root 8 (record { node = child root 1; tables = 20 ∷ []; kept_groups = 0; groups = [] }
    ∷ record { node = child root 4; tables = 21 ∷ []; kept_groups = 0; groups = [] } ∷ [])

-- a full root over last-level children: one with a group that is not full, one whose group is full, and one with a
-- last group that is not full
abbrev pub last_trie : Trie
last_trie =
    (root, pile 0 8 []) ∷ (child root 0, pile 8 3 (11 ∷ [])) ∷ (child root 1, pile 12 64 (76 ∷ []))
    ∷ (child root 4, pile 77 63 (140 ∷ [])) ∷ []

-- a put of 3,000 bytes
abbrev pub long_put : ℕ → Item
long_put byte = put_of (byte ∷ []) (replicate 3000 0)

-- three long items of one column, which lead to child 4, and a short one, which leads to child 1
abbrev pub long_keys : List Item
long_keys = long_put 3 ∷ long_put 156 ∷ put_of (codes "d") [] ∷ long_put 198 ∷ []

-- versions of three keys that lead to child 4, one of which was deleted and one put twice
abbrev pub old_versions : List Item
old_versions =
    put_of (codes "a") (1 ∷ []) ∷ put_of (codes "c") (2 ∷ []) ∷ delete_of (codes "a")
    ∷ put_of (codes "c") (3 ∷ []) ∷ put_of (codes "t") (4 ∷ []) ∷ []

-- two levels
abbrev pub two_levels : Geometry
two_levels = record { levels = 2; slots = 1 }

-- a root with one table over a last-level child with 66 tables in two groups
abbrev pub grouped_trie : Trie
grouped_trie = (root, pile 100 1 []) ∷ (child root 4, pile 0 66 (101 ∷ 102 ∷ [])) ∷ []
