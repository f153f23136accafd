-- What an image stands for while its manifest and the extents that this names are as before.
use Rattle.std.proofs.Common.{◌≡◌, ℕ, zero, suc, ◌+◌, ◌≤◌, refl, sym, ap, subst, ◌∙◌, List, [], ◌∷◌, ◌++◌, length, Bool, true, false, cond, Ok, arith, append_assoc, append-nil}
use Rattle.std.specs.Prelude.{◌==◌, nat_lt}
use Rattle.std.specs.List.{flat_map}
use Rattle.std.proofs.lemmas.List.{length-append}
use Rattle.std.proofs.lemmas.List.Concat.{flat_map-append}
use Rattle.std.proofs.lemmas.List.Sums.{fold-append}
use Rattle.std.proofs.lemmas.Bool.{ltb-false}
use Rattle.lt_terms.specs.Bytes.{Image}
use Rattle.lt_terms.specs.Items.{Item, empty_map, applied, after_items}
use Rattle.lt_language.specs.Machine.{State, nothing_yet, after_write}
use Rattle.lt_tables.proofs.ListLaws.{all_left, all_right}
use Rattle.lt_format.specs.declared.node_id.NodeId.{NodeId}
use Rattle.lt_format.specs.declared.geometry.Geometry.{Geometry}
use Rattle.lt_format.specs.Layout.{area_block}
use Rattle.lt_format.specs.Trie.{Node, Trie, named, node_extents}
use Rattle.lt_format.specs.Log.{items_in}
use Rattle.lt_image.specs.Versions.{Opened, open_image, log_items, extent_in, pile_items, level_nodes, level_items, items_above, stored_items, versions, map_of}
use Rattle.lt_image.specs.Standing.{bad_node_blocks, bad_blocks, Stands, after_writes}
use Rattle.lt_image.specs.After.{SameExtent, SameExtents, Keeps}
use Rattle.lt_image.proofs.SoundLaws.{nil_append, nil_block_if}
use Rattle.lt_image.proofs.MapLaws.{same_items}
use Rattle.lt_image.proofs.AfterLaws.{SoundNodes, kept-nodes, sound_by_nodes, sound_nodes}
use Rattle.lt_image.proofs.StandLaws.{StandsAs, stands-as, as-stands}

-- ---- the stored items

pub pile_same : (g : Geometry) (old new : Image) (tables : List ℕ) → SameExtents g old new tables → pile_items g new tables ≡ pile_items g old tables
pile_same g old new [] same = refl
pile_same g old new (x ∷ tables) same = λ i. same_items (extent_in g old x) (extent_in g new x) same.0 i ++ pile_same g old new tables same.1 i

level_same : (g : Geometry) (old new : Image) (trie : Trie) (level : ℕ) → SameExtents g old new (named trie) → level_items g new trie level ≡ level_items g old trie level
level_same g old new [] level same = refl
level_same g old new (e ∷ es) level same = by_level (e.0.level == level) (level_same g old new es level (all_right (SameExtent g old new) (node_extents e.1) (named es) same))
  where
    here : pile_items g new e.1.tables ≡ pile_items g old e.1.tables
    here = pile_same g old new e.1.tables (all_left (SameExtent g old new) e.1.tables e.1.groups (all_left (SameExtent g old new) (node_extents e.1) (named es) same))

    by_level : (b : Bool) → level_items g new es level ≡ level_items g old es level
        → flat_map (λ (e : NodeId × Node). pile_items g new e.1.tables) (cond b (e ∷ level_nodes es level) (level_nodes es level)) ≡ flat_map (λ (e : NodeId × Node). pile_items g old e.1.tables) (cond b (e ∷ level_nodes es level) (level_nodes es level))
    by_level true rest = λ i. here i ++ rest i
    by_level false rest = rest

pub items_above-same : (g : Geometry) (old new : Image) (trie : Trie) (levels : ℕ) → SameExtents g old new (named trie) → items_above g new trie levels ≡ items_above g old trie levels
unfolding items_above
items_above-same g old new trie zero same = refl
items_above-same g old new trie (suc level) same = λ i. level_same g old new trie level same i ++ items_above-same g old new trie level same i

pub stored-same : (o p : Opened) (old new : Image) → Keeps o p old new → stored_items p new ≡ stored_items o old
stored-same o p old new k =
    (λ i. items_above (k.geometry i) new (k.manifest i).trie (k.geometry i).levels)
    ∙ items_above-same o.named.geometry old new o.named.manifest.trie o.named.geometry.levels k.kept

-- THE STORED ITEMS of a sound image are at most the manifest's writes
pub stored-few : (o : Opened) (image : Image) → bad_blocks o image ≡ [] → length (stored_items o image) ≤ o.named.manifest.header.writes
unfolding bad_blocks
stored-few o image sound = ltb-false o.named.manifest.header.writes (length (stored_items o image)) (nil_block_if (nat_lt o.named.manifest.header.writes (length (stored_items o image))) (area_block o.named.area) (nil_append (flat_map (bad_node_blocks o.named.geometry image) o.named.manifest.trie) _ sound).1)

pub kept-sound : (o p : Opened) (old new : Image) → Keeps o p old new → bad_blocks o old ≡ [] → bad_blocks p new ≡ []
kept-sound o p old new k sound =
    let nodes : SoundNodes o.named.geometry new o.named.manifest.trie = kept-nodes o.named.geometry old new o.named.manifest.trie k.kept (sound_nodes o old sound) in
    let there : SoundNodes p.named.geometry new p.named.manifest.trie = subst (λ m. SoundNodes p.named.geometry new m.trie) (sym k.manifest) (subst (λ g. SoundNodes g new o.named.manifest.trie) (sym k.geometry) nodes) in
    let few : length (stored_items o old) ≤ o.named.manifest.header.writes = stored-few o old sound in
    sound_by_nodes p new there (subst (λ m. length (stored_items p new) ≤ m.header.writes) (sym k.manifest) (subst (λ xs. length xs ≤ o.named.manifest.header.writes) (sym (stored-same o p old new k)) few))

-- ---- a log that grew

grown_map : (o p : Opened) (old new : Image) (items : List Item) → Keeps o p old new → log_items p ≡ log_items o ++ items → map_of p new ≡ after_items (map_of o old) items
unfolding versions
grown_map o p old new items k log =
    (λ i. after_items empty_map (stored-same o p old new k i ++ log i))
    ∙ ap (after_items empty_map) (sym (append_assoc (stored_items o old) (log_items o) items))
    ∙ fold-append applied empty_map (stored_items o old ++ log_items o) items

pub log-grows : (old new : Image) (o p : Opened) (items : List Item) (s : State) → open_image old ≡ Ok o → open_image new ≡ Ok p → Keeps o p old new → log_items p ≡ log_items o ++ items → Stands old s → Stands new (after_writes s items)
log-grows old new o p items s opens_old opens_new k log st =
    let before : StandsAs old o s = stands-as old o s opens_old st in
    let writes : p.named.manifest.header.writes ≡ o.named.manifest.header.writes = ap (λ m. m.header.writes) k.manifest in
    let long : length (log_items p) ≡ length (log_items o) + length items = ap length log ∙ length-append (log_items o) items in
    let count : o.named.manifest.header.writes + length (log_items o) ≡ s.writes = before.writes in
    as-stands new p (after_writes s items) opens_new (record {
      sound = kept-sound o p old new k before.sound;
      map = grown_map o p old new items k log ∙ ap (λ m. after_items m items) before.map;
      writes = omega arith;
    })

pub group-added : (old new : Image) (o p : Opened) (group : List Item) (s : State) → open_image old ≡ Ok o → open_image new ≡ Ok p → Keeps o p old new → p.groups ≡ o.groups ++ group ∷ [] → Stands old s → Stands new (after_writes s group)
group-added old new o p group s opens_old opens_new k groups st =
    log-grows old new o p group s opens_old opens_new k
    (ap items_in groups ∙ flat_map-append (λ (xs : List Item). xs) o.groups (group ∷ []) ∙ ap (λ xs. items_in o.groups ++ xs) (append-nil group)) st

pub log-same : (old new : Image) (o p : Opened) (s : State) → open_image old ≡ Ok o → open_image new ≡ Ok p → Keeps o p old new → log_items p ≡ log_items o → Stands old s → Stands new s
log-same old new o p s opens_old opens_new k log st =
    let more : Stands new (after_writes s []) = log-grows old new o p [] s opens_old opens_new k (log ∙ sym (append-nil (log_items o))) st in
    let same : s.writes + 0 ≡ s.writes = omega arith in
    subst (λ n. Stands new (record { map = s.map; writes = n })) same more

-- ---- a fresh image

none_stored : (g : Geometry) (image : Image) (levels : ℕ) → items_above g image [] levels ≡ []
unfolding items_above
none_stored g image zero = refl
none_stored g image (suc level) = none_stored g image level

pub fresh-stands : (image : Image) (o : Opened) → open_image image ≡ Ok o → o.named.manifest.trie ≡ [] → o.named.manifest.header.writes ≡ 0 → o.groups ≡ [] → Stands image nothing_yet
unfolding versions
fresh-stands image o opens bare none empty =
    let stored : stored_items o image ≡ [] = ap (λ trie. items_above o.named.geometry image trie o.named.geometry.levels) bare ∙ none_stored o.named.geometry image o.named.geometry.levels in
    as-stands image o nothing_yet opens (record {
      sound = sound_by_nodes o image (subst (λ trie. SoundNodes o.named.geometry image trie) (sym bare) tt) (let long : length (stored_items o image) ≡ 0 = ap length stored in omega arith);
      map = (λ i. after_items empty_map (stored i ++ items_in (empty i)));
      writes = (λ i. none i + length (items_in (empty i)));
    })

-- ---- writes one after another

pub no_writes : (s : State) → after_writes s [] ≡ s
no_writes s = let same : s.writes + 0 ≡ s.writes = omega arith in λ i. record { map = s.map; writes = same i }

pub writes-joined : (s : State) (first rest : List Item) → after_writes (after_writes s first) rest ≡ after_writes s (first ++ rest)
writes-joined s first rest =
    let maps : after_items (after_items s.map first) rest ≡ after_items s.map (first ++ rest) = sym (fold-append applied s.map first rest) in
    let long : length (first ++ rest) ≡ length first + length rest = length-append first rest in
    let counts : s.writes + length first + length rest ≡ s.writes + length (first ++ rest) = omega arith in
    λ i. record { map = maps i; writes = counts i }

pub one_write : (s : State) (item : Item) → after_writes s (item ∷ []) ≡ after_write s item
one_write s item = refl
