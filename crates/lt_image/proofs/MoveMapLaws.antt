-- The map of an image after a deal and a rewriting is the map before.
use Rattle.std.proofs.Common.{◌≡◌, ℕ, suc, ◌<◌, sym, ap, ◌∙◌, List}
use Rattle.std.specs.List.{flat_map}
use Rattle.std.specs.Option.{option_or}
use Rattle.lt_terms.specs.Bytes.{Image}
use Rattle.lt_tables.specs.Table.{newest_of, newest, value_of, without_deletes}
use Rattle.lt_tables.specs.Alike.{SameNewest}
use Rattle.lt_format.specs.declared.node_id.NodeId.{NodeId}
use Rattle.lt_format.specs.Trie.{node_at}
use Rattle.lt_format.specs.Changes.{ChildChange, deal, rewrite, after_change}
use Rattle.lt_image.specs.Versions.{Opened, log_items, items_at, map_of}
use Rattle.lt_image.specs.After.{Follows}
use Rattle.lt_image.proofs.MapLaws.{maps_same, read_by, read_versions, read_after, kept-tables}
use Rattle.lt_image.proofs.MoveLaws.{DealsOut, deal-found, rewrite-value}
use Rattle.lt_image.proofs.Words.{IsSorted, on_level, on_path}

-- A DEAL KEEPS THE MAP
pub deal-map : (o p : Opened) (old new : Image) (id : NodeId) (dropped : ℕ) (children : List ChildChange) → Follows o p old new (deal id dropped children) → suc id.level < o.named.geometry.levels
    → IsSorted (items_at o.named.geometry old) o.named.manifest.trie → IsSorted (items_at p.named.geometry new) p.named.manifest.trie
    → log_items p ≡ log_items o → DealsOut (items_at o.named.geometry old) (items_at o.named.geometry new) o.named.manifest.trie id dropped children
    → map_of p new ≡ map_of o old
unfolding read_by
deal-map o p old new id dropped children f deep s t log deals = maps_same (map_of p new) (map_of o old) (λ key.
    read_after o p old new (deal id dropped children) (log_items o) key f log t
    ∙ ap (λ x. value_of (option_or (newest_of key (log_items o)) x))
    (deal-found (items_at o.named.geometry old) (items_at o.named.geometry new) o.named.manifest.trie id dropped children key o.named.geometry.levels (kept-tables o.named.geometry old new o.named.manifest.trie f.kept) deals deep)
    ∙ sym (read_versions o old key s))

-- A REWRITING KEEPS THE MAP: the new tables hold the newest of the pile's items without deletes
pub rewrite-map : (o p : Opened) (old new : Image) (id : NodeId) (tables groups : List ℕ) → Follows o p old new (rewrite id tables groups) → o.named.geometry.levels ≡ suc id.level
    → IsSorted (items_at o.named.geometry old) o.named.manifest.trie → IsSorted (items_at p.named.geometry new) p.named.manifest.trie
    → log_items p ≡ log_items o
    → SameNewest (flat_map (items_at o.named.geometry new) tables) (without_deletes (newest (flat_map (items_at o.named.geometry old) (node_at o.named.manifest.trie id).tables)))
    → map_of p new ≡ map_of o old
unfolding read_by
rewrite-map o p old new id tables groups f levels s t log holds = maps_same (map_of p new) (map_of o old) (λ key.
    read_after o p old new (rewrite id tables groups) (log_items o) key f log t
    ∙ ap (λ l. value_of (option_or (newest_of key (log_items o)) (on_path (on_level (items_at o.named.geometry new) (after_change o.named.manifest.trie (rewrite id tables groups)) key) l))) levels
    ∙ rewrite-value (items_at o.named.geometry old) (items_at o.named.geometry new) o.named.manifest.trie id tables groups (newest_of key (log_items o)) key (kept-tables o.named.geometry old new o.named.manifest.trie f.kept) holds
    ∙ ap (λ l. value_of (option_or (newest_of key (log_items o)) (on_path (on_level (items_at o.named.geometry old) o.named.manifest.trie key) l))) (sym levels)
    ∙ sym (read_versions o old key s))
