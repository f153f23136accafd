-- Which filter is asked for a table, and how many tables are asked.
use Rattle.std.specs.Prelude.{ℕ, ◌+◌, ◌-◌, ◌*◌, ◌%◌, Bool, true, List, Option, length, count_by}
use Rattle.std.specs.Prelude.{if◌then◌else◌}
use Rattle.std.specs.List.{range_with_len, sum_by}
use Rattle.lt_terms.specs.Bytes.{Image}
use Rattle.lt_tables.specs.Filter.{covers}
use Rattle.lt_format.specs.declared.geometry.Geometry.{Geometry}
use Rattle.lt_format.specs.Trie.{Trie, groups_for, is_last_level, node_at, path}
use Rattle.lt_image.specs.Versions.{Stop}
use Rattle.lt_search.specs.declared.tables.Filters.{Filters}
use Rattle.lt_search.specs.declared.tables.Filters.TheVariants.{Kept, Column}
use Rattle.lt_search.specs.Kept.{may_hold}
use Rattle.lt_search.specs.Seen.{asks_group}

-- the filters answer that the table at this place of its pile, and in this extent, may hold the key
abbrev pub is_answered : Filters → List ℕ → ℕ → ℕ → Bool
is_answered (Kept filters) key place x = may_hold filters.now key x
is_answered (Column page) key place x = covers page.now (place % 64) key

-- the filters answer that a table, as a stop, may hold the key
abbrev pub asks_of : Filters → List ℕ → Stop → Bool
asks_of filters key s = is_answered filters key s.index s.extent

-- the table in an extent may be asked, as far as memory tells
abbrev pub may_ask : Filters → List ℕ → ℕ → Bool
may_ask (Kept filters) key x = may_hold filters.now key x
may_ask (Column page) key x = true

-- the kept filter of a table covers the key, or none is kept
abbrev pub asks_kept : List (Option (List ℕ)) → List ℕ → Stop → Bool
asks_kept kept key s = may_hold kept key s.extent

-- a search asks a table above the last level where its kept filter covers the key, and one of the last level where
-- its filter in the group's block does
abbrev pub is_asked : Geometry → List (Option (List ℕ)) → Image → Trie → List ℕ → Stop → Bool
is_asked g kept image trie key s =
    if is_last_level g.levels s.node then asks_group g (node_at trie s.node).groups image key s
    else asks_kept kept key s

-- how many tables of so many levels from the root down a search asks at most: those on the key's path whose kept
-- filter covers the key
abbrev pub inner_asked : List (Option (List ℕ)) → Trie → List ℕ → ℕ → ℕ
inner_asked kept trie key levels =
    sum_by (λ level. count_by (may_hold kept key) (node_at trie (path key level)).tables) (range_with_len 0 levels)

-- how many blocks a search reads at most, whatever the device tells: two of each table that it may ask, of the last
-- pile all, and one of each group of that pile
abbrev pub most_reads : ℕ → List (Option (List ℕ)) → Trie → List ℕ → ℕ
most_reads levels kept trie key =
    let last = length (node_at trie (path key (levels - 1))).tables in
    2 * inner_asked kept trie key (levels - 1) + (2 * last + groups_for last)
