-- How much work a trie has left: a number that dealing and rewriting lower, so that they come to an end.
use Rattle.std.specs.Prelude.{ℕ, ◌+◌, ◌-◌, ◌*◌, ◌&&◌, List, [], ◌∷◌, ◌++◌, map, length, count_by, fold, sum_by}
use Rattle.std.specs.List.{range_with_len}
use Rattle.lt_format.specs.declared.node_id.NodeId.{NodeId}
use Rattle.lt_format.specs.Trie.{Node, Trie, is_last_level}
use Rattle.lt_image.specs.Needs.{is_full}
use Rattle.lt_image.specs.Versions.{level_nodes}

-- how many tables the piles of a level have
abbrev pub level_tables : Trie → ℕ → ℕ
level_tables trie level = sum_by (λ (e : NodeId × Node). length e.1.tables) (level_nodes trie level)

-- how many last-level piles are due
abbrev pub due_piles : ℕ → Trie → ℕ
due_piles levels trie = count_by (λ (e : NodeId × Node). is_last_level levels e.0 && is_full levels e) trie

-- the tables of each inner level, from the root down, and behind them the last-level piles that are due
abbrev pub trie_digits : ℕ → Trie → List ℕ
trie_digits levels trie = map (level_tables trie) (range_with_len 0 (levels - 1)) ++ due_piles levels trie ∷ []

-- greater than each digit of a trie in a store of at most 65,536 extents
abbrev pub digit_base : ℕ
digit_base = 262144

-- the number that digits make in this base, the greatest digit first
abbrev pub number_of_digits : List ℕ → ℕ
number_of_digits digits = fold (λ n d. n * digit_base + d) 0 digits
