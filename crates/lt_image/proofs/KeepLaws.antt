-- A flush keeps what each key has.
use Rattle.std.proofs.Common.{◌≡◌, ℕ, zero, suc, sym, ap, ◌∙◌, List, ◌++◌, false, cond, arith}
use Rattle.std.specs.List.{flat_map, AllByRecursion}
use Rattle.std.specs.Option.{option_or}
use Rattle.std.proofs.lemmas.List.Concat.{flat_map-append}
use Rattle.lt_terms.specs.Items.{Item}
use Rattle.lt_tables.specs.Table.{newest_of}
use Rattle.lt_tables.specs.Alike.{SameNewest}
use Rattle.lt_tables.proofs.NewestLaws.{newest_of-append, SameNewest-each}
use Rattle.lt_format.specs.declared.node_id.NodeId.{NodeId}
use Rattle.lt_format.specs.Trie.{Trie, root, path, same_node, node_at}
use Rattle.lt_format.specs.Changes.{flush, after_change}
use Rattle.lt_image.proofs.ChangeLaws.{tables-flush, path-root}
use Rattle.lt_format.proofs.TrieLaws.{same_node-itself}
use Rattle.lt_image.proofs.Words.{on_level, on_path}
use Rattle.lt_image.proofs.PathLaws.{newest_or-is, option_or-assoc}
use Rattle.lt_format.proofs.ChildLaws.{not_same}

-- the tables that a trie names hold under `new` what they held under `old`
pub record KeepsTables (old new : ℕ → List Item) (trie : Trie) : Type 0 where
  pub each : (id : NodeId) → AllByRecursion (λ x. SameNewest (new x) (old x)) (node_at trie id).tables

pub kept_pile : (old new : ℕ → List Item) (trie : Trie) (id : NodeId) (key : List ℕ) → KeepsTables old new trie → newest_of key (flat_map new (node_at trie id).tables) ≡ newest_of key (flat_map old (node_at trie id).tables)
kept_pile old new trie id key k = (SameNewest-each new old (node_at trie id).tables (k.each id)).each key

pub other_level : (a b : NodeId) → (a.level ≡ b.level → ⊥) → same_node a b ≡ false
other_level a b apart = not_same a b (λ e. apart (ap (λ (id : NodeId). id.level) e))

-- ---- a flush

flush_level_0 : (old new : ℕ → List Item) (trie : Trie) (tables : List ℕ) (key : List ℕ) → KeepsTables old new trie
    → on_level new (after_change trie (flush tables)) key 0 ≡ option_or (newest_of key (flat_map new tables)) (on_level old trie key 0)
flush_level_0 old new trie tables key k =
    let is_root : path key 0 ≡ root = path-root key in
    ap (λ xs. newest_of key (flat_map new xs)) (tables-flush trie tables (path key 0) ∙ ap (λ b. cond b ((node_at trie root).tables ++ tables) (node_at trie (path key 0)).tables) (ap (λ id. same_node id root) is_root ∙ same_node-itself root))
    ∙ ap (newest_of key) (flat_map-append new (node_at trie root).tables tables)
    ∙ newest_of-append key (flat_map new (node_at trie root).tables) (flat_map new tables)
    ∙ newest_or-is (newest_of key (flat_map new (node_at trie root).tables)) (newest_of key (flat_map new tables))
    ∙ ap (option_or (newest_of key (flat_map new tables))) (kept_pile old new trie root key k ∙ ap (λ id. newest_of key (flat_map old (node_at trie id).tables)) (sym is_root))

flush_level : (old new : ℕ → List Item) (trie : Trie) (tables : List ℕ) (key : List ℕ) (level : ℕ) → KeepsTables old new trie
    → on_level new (after_change trie (flush tables)) key (suc level) ≡ on_level old trie key (suc level)
flush_level old new trie tables key level k =
    ap (λ xs. newest_of key (flat_map new xs)) (tables-flush trie tables (path key (suc level)) ∙ ap (λ b. cond b ((node_at trie root).tables ++ tables) (node_at trie (path key (suc level))).tables) (other_level (path key (suc level)) root (λ e. absurd (omega arith))))
    ∙ kept_pile old new trie (path key (suc level)) key k

-- the new tables come before all others
pub flush-on_path : (old new : ℕ → List Item) (trie : Trie) (tables : List ℕ) (key : List ℕ) (n : ℕ) → KeepsTables old new trie
    → on_path (on_level new (after_change trie (flush tables)) key) (suc n) ≡ option_or (newest_of key (flat_map new tables)) (on_path (on_level old trie key) (suc n))
flush-on_path old new trie tables key zero k = flush_level_0 old new trie tables key k
flush-on_path old new trie tables key (suc n) k =
    ap (λ o. option_or o (on_level new (after_change trie (flush tables)) key (suc n))) (flush-on_path old new trie tables key n k)
    ∙ ap (option_or (option_or (newest_of key (flat_map new tables)) (on_path (on_level old trie key) (suc n)))) (flush_level old new trie tables key n k)
    ∙ option_or-assoc (newest_of key (flat_map new tables)) (on_path (on_level old trie key) (suc n)) (on_level old trie key (suc n))

-- A FLUSH: the tables hold the log's newest items, and the log is empty then
pub flush-found : (old new : ℕ → List Item) (trie : Trie) (tables : List ℕ) (log : List Item) (key : List ℕ) (n : ℕ) → KeepsTables old new trie → SameNewest (flat_map new tables) log
    → on_path (on_level new (after_change trie (flush tables)) key) (suc n) ≡ option_or (newest_of key log) (on_path (on_level old trie key) (suc n))
flush-found old new trie tables log key n k s = flush-on_path old new trie tables key n k ∙ ap (λ o. option_or o (on_path (on_level old trie key) (suc n))) (s.each key)
