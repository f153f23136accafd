-- Soundness is kept by a deal and a rewriting.
use Rattle.std.proofs.Common.{◌≡◌, ℕ, zero, suc, ◌+◌, ◌-◌, ◌*◌, ◌≤◌, refl, sym, ap, subst, ◌∙◌, List, [], ◌∷◌, ◌++◌, map, length, take, drop, false, not, cond, arith, append-nil}
use Rattle.std.specs.Prelude.{slice_range}
use Rattle.std.specs.List.{flat_map, filter, AllByRecursion, enumerate_from, fold}
use Rattle.std.proofs.lemmas.List.Concat.{flat_map-append}
use Rattle.std.proofs.lemmas.List.{drop-append-le, take-append-le, length-drop}
use Rattle.lt_terms.specs.Bytes.{Image, same_bytes}
use Rattle.lt_tables.specs.Placement.{columns}
use Rattle.lt_tables.specs.Filter.{group_block, IsGroup}
use Rattle.lt_tables.proofs.ListLaws.{all_weaker}
use Rattle.lt_format.specs.declared.node_id.NodeId.{NodeId}
use Rattle.lt_format.specs.declared.geometry.Geometry.{Geometry}
use Rattle.lt_format.specs.Layout.{extent_block}
use Rattle.lt_format.specs.Trie.{Node, Trie, same_node, node_at, named}
use Rattle.lt_format.specs.Changes.{ChildChange, deal, rewrite, child_after, after_child, without_oldest, after_change}
use Rattle.lt_format.proofs.TrieLaws.{node_at-with_node, if_any}
use Rattle.lt_image.specs.After.{SameExtents, IsGroupAt}
use Rattle.lt_image.specs.Standing.{bad_table_blocks, bad_group_blocks, bad_node_blocks, filter_blocks}
use Rattle.lt_image.specs.Versions.{extent_in}
use Rattle.lt_image.proofs.AfterLaws.{NewTable, SoundNodes, kept-nodes, node_at-holds, sound_tables, no_groups, node_tables_sound}
use Rattle.lt_image.proofs.ChangeLaws.{with_node-all}
use Rattle.lt_image.proofs.SoundLaws.{flat_map_nil, nil_append}
use Rattle.lt_image.proofs.TableSoundLaws.{none-range, same_bytes-is}

pub new_group-sound : (g : Geometry) (image : Image) (tables : List ℕ) (j x : ℕ) → IsGroup (filter_blocks g image (slice_range tables (64 * j) (64 * j + 64))) (extent_in g image x) → bad_group_blocks g image tables (j, x) ≡ []
unfolding columns
new_group-sound g image tables j x is = ap (map (λ c. extent_block g x + c)) (none-range (λ c. not (same_bytes (extent_in g image x c) (group_block (filter_blocks g image (slice_range tables (64 * j) (64 * j + 64))) c))) 0 64
    (λ c small. ap not (same_bytes-is (extent_in g image x c) (group_block (filter_blocks g image (slice_range tables (64 * j) (64 * j + 64))) c) (is.columns c (omega arith)))))

-- A REWRITING: the tables and the groups of the node are new
pub rewrite-nodes : (g : Geometry) (old new : Image) (trie : Trie) (id : NodeId) (tables groups : List ℕ) → SameExtents g old new (named trie) → SoundNodes g old trie
    → AllByRecursion (λ x. NewTable id (extent_in g new x)) tables → AllByRecursion (IsGroupAt g new tables) (enumerate_from 0 groups) → SoundNodes g new (after_change trie (rewrite id tables groups))
unfolding after_change
rewrite-nodes g old new trie id tables groups same sound fresh transposed =
    with_node-all (λ e. bad_node_blocks g new e ≡ []) trie id (record { base = length tables; tables = tables; groups = groups })
    (ap (λ xs. xs ++ flat_map (bad_group_blocks g new tables) (enumerate_from 0 groups)) (sound_tables g new id tables fresh)
    ∙ flat_map_nil (bad_group_blocks g new tables) (enumerate_from 0 groups) (all_weaker (IsGroupAt g new tables) (λ p. bad_group_blocks g new tables p ≡ []) (λ p is. new_group-sound g new tables p.0 p.1 is) (enumerate_from 0 groups) transposed))
    (kept-nodes g old new trie same sound)

-- ---- a deal

same_slice : (tables more : List ℕ) (j : ℕ) → 64 * j + 64 ≤ length tables → slice_range (tables ++ more) (64 * j) (64 * j + 64) ≡ slice_range tables (64 * j) (64 * j + 64)
same_slice tables more j full =
    ap (take (64 * j + 64 - 64 * j)) (drop-append-le (64 * j) tables more (omega arith))
    ∙ take-append-le (64 * j + 64 - 64 * j) (drop (64 * j) tables) more (let l : length (drop (64 * j) tables) ≡ length tables - 64 * j = length-drop (64 * j) tables in omega arith)

-- the full groups stay
kept_groups_sound : (g : Geometry) (image : Image) (tables more : List ℕ) (j k : ℕ) (groups : List ℕ) → 64 * (j + k) ≤ length tables → flat_map (bad_group_blocks g image tables) (enumerate_from j groups) ≡ []
    → flat_map (bad_group_blocks g image (tables ++ more)) (enumerate_from j (take k groups)) ≡ []
kept_groups_sound g image tables more j zero groups full e = refl
kept_groups_sound g image tables more j (suc k) [] full e = refl
kept_groups_sound g image tables more j (suc k) (x ∷ groups) full e =
    let h = nil_append (bad_group_blocks g image tables (j, x)) (flat_map (bad_group_blocks g image tables) (enumerate_from (j + 1) groups)) e in
    ap (λ ts. map (λ c. extent_block g x + c) (filter (λ c. not (same_bytes (extent_in g image x c) (group_block (filter_blocks g image ts) c))) columns) ++ flat_map (bad_group_blocks g image (tables ++ more)) (enumerate_from (j + 1) (take k groups))) (same_slice tables more j (omega arith))
    ∙ ap (λ xs. xs ++ flat_map (bad_group_blocks g image (tables ++ more)) (enumerate_from (j + 1) (take k groups))) h.0
    ∙ kept_groups_sound g image tables more (j + 1) k groups (omega arith) h.1

enumerate-append : (k : ℕ) (xs ys : List ℕ) → enumerate_from k (xs ++ ys) ≡ enumerate_from k xs ++ enumerate_from (k + length xs) ys
enumerate-append k [] ys = let e : k ≡ k + 0 = omega arith in ap (λ n. enumerate_from n ys) e
enumerate-append k (x ∷ xs) ys = let e : k + 1 + length xs ≡ k + suc (length xs) = omega arith in ap (λ ps. (k, x) ∷ ps) (enumerate-append (k + 1) xs ys ∙ ap (λ n. enumerate_from (k + 1) xs ++ enumerate_from n ys) e)

-- what a deal writes for a child: its new tables, and the groups behind the full ones that stay
pub record NewChild (g : Geometry) (image : Image) (n : Node) (c : ChildChange) : Type 0 where
  pub full : 64 * c.kept_groups ≤ length n.tables
  pub fresh : AllByRecursion (λ x. NewTable c.node (extent_in g image x)) c.tables
  pub transposed : AllByRecursion (IsGroupAt g image (n.tables ++ c.tables)) (enumerate_from (length (take c.kept_groups n.groups)) c.groups)

pub new_child-sound : (g : Geometry) (image : Image) (n : Node) (c : ChildChange) → bad_node_blocks g image (c.node, n) ≡ [] → NewChild g image n c → bad_node_blocks g image (c.node, child_after n c) ≡ []
new_child-sound g image n c sound new =
    let parts = nil_append (flat_map (bad_table_blocks g image c.node) n.tables) (flat_map (bad_group_blocks g image n.tables) (enumerate_from 0 n.groups)) sound in
    let zero_more : 0 + length (take c.kept_groups n.groups) ≡ length (take c.kept_groups n.groups) = omega arith in
    let tables : flat_map (bad_table_blocks g image c.node) (n.tables ++ c.tables) ≡ [] =
    flat_map-append (bad_table_blocks g image c.node) n.tables c.tables ∙ ap (λ xs. xs ++ flat_map (bad_table_blocks g image c.node) c.tables) parts.0 ∙ sound_tables g image c.node c.tables new.fresh in
    let groups : flat_map (bad_group_blocks g image (n.tables ++ c.tables)) (enumerate_from 0 (take c.kept_groups n.groups ++ c.groups)) ≡ [] =
    ap (flat_map (bad_group_blocks g image (n.tables ++ c.tables))) (enumerate-append 0 (take c.kept_groups n.groups) c.groups ∙ ap (λ k. enumerate_from 0 (take c.kept_groups n.groups) ++ enumerate_from k c.groups) zero_more)
    ∙ flat_map-append (bad_group_blocks g image (n.tables ++ c.tables)) (enumerate_from 0 (take c.kept_groups n.groups)) (enumerate_from (length (take c.kept_groups n.groups)) c.groups)
    ∙ ap (λ xs. xs ++ flat_map (bad_group_blocks g image (n.tables ++ c.tables)) (enumerate_from (length (take c.kept_groups n.groups)) c.groups)) (kept_groups_sound g image n.tables c.tables 0 c.kept_groups n.groups (let f = new.full in omega arith) parts.1)
    ∙ flat_map_nil (bad_group_blocks g image (n.tables ++ c.tables)) (enumerate_from (length (take c.kept_groups n.groups)) c.groups) (all_weaker (IsGroupAt g image (n.tables ++ c.tables)) (λ p. bad_group_blocks g image (n.tables ++ c.tables) p ≡ []) (λ p is. new_group-sound g image (n.tables ++ c.tables) p.0 p.1 is) (enumerate_from (length (take c.kept_groups n.groups)) c.groups) new.transposed) in
    ap (λ xs. xs ++ flat_map (bad_group_blocks g image (n.tables ++ c.tables)) (enumerate_from 0 (take c.kept_groups n.groups ++ c.groups))) tables ∙ groups

-- no two children are one node
abbrev pub Apart : List ChildChange → Type 0
Apart [] = Unit {0}
Apart (c ∷ cs) = AllByRecursion (λ (d : ChildChange). same_node d.node c.node ≡ false) cs × Apart cs

children_sound : (g : Geometry) (image : Image) (trie : Trie) (children : List ChildChange) → SoundNodes g image trie → AllByRecursion (λ (c : ChildChange). NewChild g image (node_at trie c.node) c) children → Apart children → SoundNodes g image (fold after_child trie children)
children_sound g image trie [] sound new apart = sound
children_sound g image trie (c ∷ children) sound new apart =
    children_sound g image (after_child trie c) children
    (with_node-all (λ e. bad_node_blocks g image e ≡ []) trie c.node (child_after (node_at trie c.node) c) (new_child-sound g image (node_at trie c.node) c (node_at-holds (λ e. bad_node_blocks g image e ≡ []) c.node trie refl sound) new.0) sound)
    (still children new.1 apart.0) apart.1
  where
    still : (ds : List ChildChange) → AllByRecursion (λ (d : ChildChange). NewChild g image (node_at trie d.node) d) ds → AllByRecursion (λ (d : ChildChange). same_node d.node c.node ≡ false) ds → AllByRecursion (λ (d : ChildChange). NewChild g image (node_at (after_child trie c) d.node) d) ds
    still [] new apart = tt
    still (d ∷ ds) new apart =
        (subst (λ n. NewChild g image n d) (sym (node_at-with_node trie c.node (child_after (node_at trie c.node) c) d.node ∙ ap (λ b. cond b (if_any (child_after (node_at trie c.node) c)) (node_at trie d.node)) apart.0)) new.0, still ds new.1 apart.1)

dropped_tables : (g : Geometry) (image : Image) (id : NodeId) (k : ℕ) (xs : List ℕ) → flat_map (bad_table_blocks g image id) xs ≡ [] → flat_map (bad_table_blocks g image id) (drop k xs) ≡ []
dropped_tables g image id zero xs e = e
dropped_tables g image id (suc k) [] e = refl
dropped_tables g image id (suc k) (x ∷ xs) e = dropped_tables g image id k xs (nil_append (bad_table_blocks g image id x) (flat_map (bad_table_blocks g image id) xs) e).1

-- A DEAL: the node has no groups, and its children differ
pub deal-nodes : (g : Geometry) (old new : Image) (trie : Trie) (id : NodeId) (dropped : ℕ) (children : List ChildChange) → SameExtents g old new (named trie) → SoundNodes g old trie
    → (node_at trie id).groups ≡ [] → AllByRecursion (λ (c : ChildChange). NewChild g new (node_at trie c.node) c) children → Apart children → SoundNodes g new (after_change trie (deal id dropped children))
unfolding after_change
deal-nodes g old new trie id dropped children same sound bare new_children apart =
    let kept = kept-nodes g old new trie same sound in
    let here : bad_node_blocks g new (id, node_at trie id) ≡ [] = node_at-holds (λ e. bad_node_blocks g new e ≡ []) id trie refl kept in
    with_node-all (λ e. bad_node_blocks g new e ≡ []) (fold after_child trie children) id (without_oldest (node_at trie id) dropped)
    (ap (λ xs. flat_map (bad_table_blocks g new id) (drop dropped (node_at trie id).tables) ++ xs) (no_groups g new (drop dropped (node_at trie id).tables) (node_at trie id).groups bare)
    ∙ append-nil (flat_map (bad_table_blocks g new id) (drop dropped (node_at trie id).tables))
    ∙ dropped_tables g new id dropped (node_at trie id).tables (node_tables_sound g new id (node_at trie id) here))
    (children_sound g new trie children kept new_children apart)
