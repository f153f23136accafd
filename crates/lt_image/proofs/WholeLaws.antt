-- A flush of a sound image gives a sound image with the same map.
use Rattle.std.proofs.Common.{◌≡◌, ℕ, suc, sym, ap, subst, ◌∙◌, List, [], ◌∷◌}
use Rattle.std.specs.Prelude.{IsTrue, T}
use Rattle.std.specs.FinMap.{is_sorted}
use Rattle.std.specs.List.{flat_map, AllByRecursion, AllZip}
use Rattle.std.proofs.lemmas.Cmp.{eq_by_cmp_equiv}
use Rattle.lt_terms.specs.Bytes.{Image}
use Rattle.lt_terms.specs.Items.{Item}
use Rattle.lt_tables.specs.Table.{newest, IsPlaced}
use Rattle.lt_tables.specs.Cut.{cut, IsTable}
use Rattle.lt_tables.specs.Alike.{SameNewest}
use Rattle.lt_tables.proofs.NewestLaws.{SameNewest-flat_map, SameNewest-newest, SameNewest-trans}
use Rattle.lt_tables.proofs.CutLaws.{cut-joined, cut-tables}
use Rattle.lt_tables.proofs.RankedLaws.{is_ranked, ranked-newest, newest-ranked, ranked-take, ranked-drop, pieces_all, each_newest}
use Rattle.lt_tables.proofs.ValidLaws.{AllValid}
use Rattle.lt_tables.proofs.TableLaws.{SameNewest-placed}
use Rattle.lt_tables.proofs.PlanLaws.{placement-within}
use Rattle.lt_format.specs.declared.node_id.NodeId.{NodeId}
use Rattle.lt_format.specs.declared.geometry.Geometry.{Geometry}
use Rattle.lt_format.specs.Trie.{root, node_cmp, same_node, node_at}
use Rattle.lt_format.specs.Changes.{Change, flush, after_change}
use Rattle.lt_image.proofs.ChangeLaws.{path-root}
use Rattle.lt_format.proofs.TrieLaws.{node_total}
use Rattle.lt_format.proofs.NamedLaws.{after_change-rising}
use Rattle.lt_image.specs.Versions.{Opened, log_items, extent_in, items_at, map_of}
use Rattle.lt_image.specs.Standing.{bad_blocks}
use Rattle.lt_image.proofs.Words.{Belongs}
use Rattle.lt_image.specs.After.{Follows, PlacedIn, Flushes}
use Rattle.lt_image.proofs.SoundLaws.{sound-sorted}
use Rattle.lt_image.proofs.MapLaws.{flush-map}
use Rattle.lt_image.proofs.AfterLaws.{NewTable, SoundNodes, flush-nodes, sound_by_nodes, sound_nodes}
use Rattle.lt_tables.proofs.ListLaws.{all_take, all_drop}

-- ---- tables of a cut

-- what each part of a cut is
record IsPart (id : NodeId) (items : List Item) : Type 0 where
  ranked : T (is_ranked items)
  valid : AllValid items
  belong : Belongs id items
  piece : IsTable items

parts : (id : NodeId) (xs : List (List Item)) → AllByRecursion (λ p. T (is_ranked p)) xs → AllByRecursion AllValid xs → AllByRecursion (Belongs id) xs → AllByRecursion IsTable xs → AllByRecursion (IsPart id) xs
parts id [] a b c d = tt
parts id (x ∷ xs) a b c d = (record { ranked = a.0; valid = b.0; belong = c.0; piece = d.0 }, parts id xs a.1 b.1 c.1 d.1)

cut_parts : (id : NodeId) (items : List Item) → T (is_ranked items) → AllValid items → Belongs id items → AllByRecursion (IsPart id) (cut items)
cut_parts id items ranked valid belong = parts id (cut items)
    (pieces_all (λ p. T (is_ranked p)) ranked-take ranked-drop _ items ranked)
    (pieces_all AllValid (λ n xs. all_take _ n xs) (λ n xs. all_drop _ n xs) _ items valid)
    (pieces_all (Belongs id) (λ n xs. all_take _ n xs) (λ n xs. all_drop _ n xs) _ items belong)
    (cut-tables items valid)

new_table : (g : Geometry) (image : Image) (id : NodeId) (x : ℕ) (items : List Item) → IsPart id items → IsPlaced items (extent_in g image x) → NewTable id (extent_in g image x)
new_table g image id x items p placed = record {
  items = items;
  placed = placed;
  may = record { ranked = ranked-newest items p.ranked; any = p.piece.any; belong = p.belong };
}

new_tables : (g : Geometry) (image : Image) (id : NodeId) (tables : List ℕ) (xs : List (List Item)) → AllByRecursion (IsPart id) xs → PlacedIn g image tables xs → AllByRecursion (λ x. NewTable id (extent_in g image x)) tables
new_tables g image id [] [] all zip = tt
new_tables g image id [] (y ∷ xs) all zip = tt
new_tables g image id (x ∷ tables) [] all zip = absurd zip
new_tables g image id (x ∷ tables) (y ∷ xs) all zip = (new_table g image id x y all.0 zip.0, new_tables g image id tables xs all.1 zip.1)

new_items : (g : Geometry) (image : Image) (id : NodeId) (tables : List ℕ) (xs : List (List Item)) → AllByRecursion (IsPart id) xs → PlacedIn g image tables xs → AllZip (λ x items. SameNewest (items_at g image x) items) tables xs
new_items g image id [] [] all zip = tt
new_items g image id [] (y ∷ xs) all zip = absurd zip
new_items g image id (x ∷ tables) [] all zip = absurd zip
new_items g image id (x ∷ tables) (y ∷ xs) all zip =
    (SameNewest-placed zip.0.plans y (extent_in g image x) (placement-within y zip.0.plans zip.0.placement) zip.0.buckets, new_items g image id tables xs all.1 zip.1)

-- THE TABLES OF A CUT are new tables of the node
pub cut-new : (g : Geometry) (image : Image) (id : NodeId) (items : List Item) (tables : List ℕ) → T (is_ranked items) → AllValid items → Belongs id items → PlacedIn g image tables (cut items) → AllByRecursion (λ x. NewTable id (extent_in g image x)) tables
cut-new g image id items tables ranked valid belong placed = new_tables g image id tables (cut items) (cut_parts id items ranked valid belong) placed

-- and hold the items
pub cut-held : (g : Geometry) (image : Image) (id : NodeId) (items : List Item) (tables : List ℕ) → T (is_ranked items) → AllValid items → Belongs id items → PlacedIn g image tables (cut items) → SameNewest (flat_map (items_at g image) tables) items
cut-held g image id items tables ranked valid belong placed =
    subst (SameNewest (flat_map (items_at g image) tables)) (cut-joined items)
    (SameNewest-flat_map (items_at g image) (λ piece. piece) tables (cut items) (new_items g image id tables (cut items) (cut_parts id items ranked valid belong) placed))

-- ---- the trie after a change

pub follows-sorted : (o p : Opened) (old new : Image) (change : Change) → Follows o p old new change → IsTrue (is_sorted node_cmp o.named.manifest.trie) → IsTrue (is_sorted node_cmp p.named.manifest.trie)
follows-sorted o p old new change f s = subst (λ trie. IsTrue (is_sorted node_cmp trie)) (sym f.trie) (after_change-rising o.named.manifest.trie change s)

pub follows-sound : (o p : Opened) (old new : Image) (change : Change) → Follows o p old new change → SoundNodes o.named.geometry new (after_change o.named.manifest.trie change) → SoundNodes p.named.geometry new p.named.manifest.trie
follows-sound o p old new change f s = subst (λ g. SoundNodes g new p.named.manifest.trie) (sym f.geometry) (subst (λ trie. SoundNodes o.named.geometry new trie) (sym f.trie) s)

-- ---- a flush

at_root : (items : List Item) → Belongs root items
at_root [] = tt
at_root (v ∷ items) = (ap (λ id. same_node id root) (path-root v.key) ∙ (eq_by_cmp_equiv node_total).refl root, at_root items)

pub flush-sound : (o p : Opened) (old new : Image) (tables : List ℕ) → Flushes o p old new tables → (node_at o.named.manifest.trie root).groups ≡ [] → AllValid (log_items o) → bad_blocks o old ≡ [] → bad_blocks p new ≡ []
flush-sound o p old new tables f bare valid sound =
    sound_by_nodes p new (follows-sound o p old new (flush tables) f.follows
    (flush-nodes o.named.geometry old new o.named.manifest.trie tables f.follows.kept (sound_nodes o old sound) bare
    (cut-new o.named.geometry new root (newest (log_items o)) tables (newest-ranked (log_items o)) (each_newest _ (log_items o) valid) (at_root (newest (log_items o))) f.placed)))
    f.few

-- A FLUSH of a sound image: sound, and the map is the same
pub flush-keeps : (o p : Opened) (old new : Image) (tables : List ℕ) (n : ℕ) → Flushes o p old new tables → o.named.geometry.levels ≡ suc n → IsTrue (is_sorted node_cmp o.named.manifest.trie)
    → (node_at o.named.manifest.trie root).groups ≡ [] → AllValid (log_items o) → bad_blocks o old ≡ [] → map_of p new ≡ map_of o old
flush-keeps o p old new tables n f levels rising bare valid sound =
    flush-map o p old new tables n f.follows levels (sound-sorted o old rising sound)
    (sound-sorted p new (follows-sorted o p old new (flush tables) f.follows rising) (flush-sound o p old new tables f bare valid sound)) f.emptied
    (SameNewest-trans (flat_map (items_at o.named.geometry new) tables) (newest (log_items o)) (log_items o)
    (cut-held o.named.geometry new root (newest (log_items o)) tables (newest-ranked (log_items o)) (each_newest _ (log_items o) valid) (at_root (newest (log_items o))) f.placed)
    (SameNewest-newest (log_items o)))
