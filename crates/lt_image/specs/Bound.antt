-- How many blocks a get may read.
use Rattle.std.specs.Prelude.{ℕ, suc, ◌+◌, ◌/◌, Bool, false, ◌&&◌, List, [], ◌∷◌, ◌++◌, map, count_by, nat_le}
use Rattle.std.specs.Prelude.{if◌then◌else◌}
use Rattle.std.specs.Option.{option_map_or}
use Rattle.std.specs.List.{filter, list_any}
use Rattle.lt_terms.specs.Bytes.{Image, same_bytes, is_in}
use Rattle.lt_terms.specs.Items.{Item}
use Rattle.lt_terms.specs.Hashes.{home_column, key_suffix}
use Rattle.lt_tables.specs.Bucket.{sends_on}
use Rattle.lt_tables.specs.declared.Sends.{Sends}
use Rattle.lt_format.specs.declared.geometry.Geometry.{Geometry}
use Rattle.lt_format.specs.Trie.{Trie, is_last_level}
use Rattle.lt_image.specs.Versions.{Opened, log_items, Stop, stops, extent_in, is_covered, items_at}

-- up to and with the first that passes the test, or all
abbrev pub up_to_first : {A : Type 0} → (A → Bool) → List A → List A
up_to_first test [] = []
up_to_first test (x ∷ xs) = x ∷ (if test x then [] else up_to_first test xs)

-- some version of the key stands among the items
abbrev pub holds_key : List ℕ → List Item → Bool
holds_key key items = list_any (λ (v : Item). same_bytes v.key key) items

-- the tables that a get of the key meets: up to the first on its path that holds it
abbrev pub met : Geometry → Image → Trie → List ℕ → List Stop
met g image trie key = up_to_first (λ (s : Stop). holds_key key (items_at g image s.extent)) (stops g.levels trie key)

-- the table's home bucket sends items of the key's suffix
abbrev pub is_sent : Geometry → Image → List ℕ → Stop → Bool
is_sent g image key s =
    option_map_or (λ (t : Sends). nat_le t.mark (key_suffix key))
    (sends_on (extent_in g image s.extent (home_column key))) false

-- how many different numbers are in the list
abbrev pub distinct_count : List ℕ → ℕ
distinct_count [] = 0
distinct_count (x ∷ xs) = if is_in x xs then distinct_count xs else suc (distinct_count xs)

-- how many groups of the last-level pile the tables belong to, 64 tables to a group
abbrev pub groups_met : ℕ → List Stop → ℕ
groups_met levels ss =
    distinct_count (map (λ (s : Stop). s.index / 64) (filter (λ (s : Stop). is_last_level levels s.node) ss))

-- what a get reads of the tables that it meets: a bucket of each that covers the key, a second one of those whose home
-- bucket sends the key's suffix, and a block of each group
unfoldable pub reads_of : Geometry → Image → List ℕ → List Stop → ℕ
reads_of g image key ss =
    count_by (is_covered g image key) ss
    + count_by (λ s. is_covered g image key s && is_sent g image key s) ss
    + groups_met g.levels ss

-- how many blocks a get of the key may read, on an image and with pending items
unfoldable pub read_bound : Opened → Image → List Item → List ℕ → ℕ
read_bound o image pending key =
    if holds_key key (log_items o ++ pending) then 0
    else reads_of o.named.geometry image key (met o.named.geometry image o.named.manifest.trie key)
