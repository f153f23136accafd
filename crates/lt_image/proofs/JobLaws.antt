-- A deal and a rewriting of a sound image give a sound image with the same map.
use Rattle.std.proofs.Common.{◌≡◌, ℕ, suc, ◌+◌, ◌-◌, ◌*◌, ◌<◌, ◌≤◌, refl, sym, ap, subst, ◌∙◌, List, [], ◌∷◌, ◌++◌, take, length, Bool, true, false, cond, arith, eqb-true}
use Rattle.std.specs.Prelude.{◌==◌}
use Rattle.std.specs.List.{AllByRecursion, enumerate_from}
use Rattle.lt_terms.specs.Bytes.{Image}
use Rattle.lt_terms.specs.Items.{Item}
use Rattle.lt_terms.specs.Hashes.{key_digit}
use Rattle.lt_tables.specs.Table.{newest, with_digit, without_deletes, is_put}
use Rattle.lt_tables.proofs.ListLaws.{all_filter, all_left, all_right, all_take}
use Rattle.lt_tables.proofs.PartLaws.{ranked-filter}
use Rattle.lt_tables.proofs.RankedLaws.{newest-ranked, each_newest}
use Rattle.lt_tables.proofs.ValidLaws.{AllValid, AllValid-flat_map, table_items-valid}
use Rattle.lt_format.specs.declared.node_id.NodeId.{NodeId}
use Rattle.lt_format.specs.declared.geometry.Geometry.{Geometry}
use Rattle.lt_format.specs.Trie.{Trie, child, path, path_number, same_node, node_at, IsTrie}
use Rattle.lt_format.specs.Changes.{ChildChange, deal, rewrite}
use Rattle.lt_format.proofs.TrieLaws.{same_node-same, same_node-itself}
use Rattle.lt_image.specs.Versions.{Opened, extent_in, items_at, pile_items, map_of, stored_items}
use Rattle.lt_image.specs.Standing.{bad_blocks}
use Rattle.lt_image.specs.After.{Deals, Rewrites, IsGroupAt}
use Rattle.lt_image.proofs.AfterLaws.{NewTable, node_at-holds, sound_by_nodes, sound_nodes}
use Rattle.lt_image.proofs.DealtLaws.{IsChild, children_fit-children, dealt_to, path_number-suc}
use Rattle.lt_image.proofs.GroupLaws.{NewChild, deal-nodes, rewrite-nodes}
use Rattle.lt_image.proofs.MoveMapLaws.{deal-map, rewrite-map}
use Rattle.lt_image.proofs.PathLaws.{Belongs-pile}
use Rattle.lt_image.proofs.ShareLaws.{KeepsFull, fits-deal, fits-rewrite, by_digit, deal-grouped, children-keep, children_fit-apart}
use Rattle.lt_image.proofs.SoundLaws.{sound-sorted}
use Rattle.lt_image.proofs.WholeLaws.{cut-new, cut-held, follows-sorted, follows-sound}
use Rattle.lt_image.proofs.Words.{Belongs, PileBelongs, IsSorted}

-- ---- the items of a node's tables

pub pile-valid : (g : Geometry) (image : Image) (tables : List ℕ) → AllValid (pile_items g image tables)
pile-valid g image tables = AllValid-flat_map (items_at g image) tables (λ x. table_items-valid (extent_in g image x))

pub oldest-belong : (g : Geometry) (image : Image) (trie : Trie) (id : NodeId) (n : ℕ) → IsSorted (items_at g image) trie → Belongs id (pile_items g image (take n (node_at trie id).tables))
oldest-belong g image trie id n s =
    let ts : List ℕ = (node_at trie id).tables in
    Belongs-pile id (items_at g image) (take n ts) (all_take (λ x. Belongs id (items_at g image x)) n ts (node_at-holds (PileBelongs (items_at g image)) id trie tt s.belong))

pub pile-belongs : (g : Geometry) (image : Image) (trie : Trie) (id : NodeId) → IsSorted (items_at g image) trie → Belongs id (pile_items g image (node_at trie id).tables)
pile-belongs g image trie id s = Belongs-pile id (items_at g image) (node_at trie id).tables (node_at-holds (PileBelongs (items_at g image)) id trie tt s.belong)

child_of : (id q : NodeId) → IsChild id q → child id (q.number - 8 * id.number) ≡ q
child_of id q c =
    let levels : id.level + 1 ≡ q.level = sym c.level in
    let low = c.low in
    let numbers : 8 * id.number + (q.number - 8 * id.number) ≡ q.number = omega arith in
    λ i. record { level = levels i; number = numbers i }

-- a key of the node with this digit leads to the child
leads : (key : List ℕ) (id : NodeId) (d : ℕ) → same_node (path key id.level) id ≡ true → (key_digit key id.level == d) ≡ true → same_node (path key (id.level + 1)) (child id d) ≡ true
leads key id d there digit =
    let up : path key id.level ≡ id = same_node-same (path key id.level) id there in
    let level : id.level + 1 ≡ suc id.level = omega arith in
    let number : path_number key (id.level + 1) ≡ 8 * id.number + d =
    ap (path_number key) level ∙ path_number-suc key id.level ∙ ap (λ (q : NodeId). 8 * q.number + key_digit key id.level) up ∙ ap (λ k. 8 * id.number + k) (eqb-true (key_digit key id.level) d digit) in
    ap (λ n. same_node (record { level = id.level + 1; number = n }) (child id d)) number ∙ same_node-itself (child id d)

digit_belongs : (id : NodeId) (d : ℕ) (items : List Item) → Belongs id items → Belongs (child id d) (with_digit id.level d items)
digit_belongs id d [] b = tt
digit_belongs id d (v ∷ items) b = step (key_digit v.key id.level == d) refl (digit_belongs id d items b.1)
  where
    step : (t : Bool) → (key_digit v.key id.level == d) ≡ t → Belongs (child id d) (with_digit id.level d items) → Belongs (child id d) (cond t (v ∷ with_digit id.level d items) (with_digit id.level d items))
    step true e rest = (leads v.key id d b.0 e, rest)
    step false e rest = rest

-- what each child gets are new tables of it
child_tables : (P : NodeId → ℕ → Type 0) (id : NodeId) (children : List ChildChange) → AllByRecursion (λ (c : ChildChange). IsChild id c.node) children → ((q : NodeId) → IsChild id q → AllByRecursion (P q) (dealt_to children q)) → AllByRecursion (λ (c : ChildChange). AllByRecursion (P c.node) c.tables) children
child_tables P id [] kids h = tt
child_tables P id (c ∷ children) kids h = (
  subst (λ b. AllByRecursion (P c.node) (cond b c.tables [])) (same_node-itself c.node) (all_left (P c.node) (cond (same_node c.node c.node) c.tables []) (dealt_to children c.node) (h c.node kids.0)),
  child_tables P id children kids.1 (λ q k. all_right (P q) (cond (same_node q c.node) c.tables []) (dealt_to children q) (h q k)),
)

join_children : (g : Geometry) (image : Image) (trie : Trie) (children : List ChildChange) → AllByRecursion (λ (c : ChildChange). AllByRecursion (λ x. NewTable c.node (extent_in g image x)) c.tables) children
    → AllByRecursion (λ (c : ChildChange). AllByRecursion (IsGroupAt g image ((node_at trie c.node).tables ++ c.tables)) (enumerate_from c.kept_groups c.groups)) children
    → AllByRecursion (λ (c : ChildChange). KeepsFull (node_at trie c.node) c) children → AllByRecursion (λ (c : ChildChange). NewChild g image (node_at trie c.node) c) children
join_children g image trie [] a b k = tt
join_children g image trie (c ∷ children) a b k = (
  record {
    full = k.0.full;
    fresh = a.0;
    transposed = subst (λ n. AllByRecursion (IsGroupAt g image ((node_at trie c.node).tables ++ c.tables)) (enumerate_from n c.groups)) (sym k.0.there) b.0;
  },
  join_children g image trie children a.1 b.1 k.1,
)

-- ---- a deal

-- the newest items of a node's oldest tables
abbrev pub dealt_items : Opened → Image → NodeId → ℕ → List Item
dealt_items o image id dropped = newest (pile_items o.named.geometry image (take dropped (node_at o.named.manifest.trie id).tables))

dealt_valid : (o : Opened) (image : Image) (id : NodeId) (dropped : ℕ) → AllValid (dealt_items o image id dropped)
dealt_valid o image id dropped = each_newest _ (pile_items o.named.geometry image (take dropped (node_at o.named.manifest.trie id).tables)) (pile-valid o.named.geometry image (take dropped (node_at o.named.manifest.trie id).tables))

pub deal-sound : (o p : Opened) (old new : Image) (id : NodeId) (dropped : ℕ) (children : List ChildChange) → Deals o p old new id dropped children → IsTrie o.named.geometry.levels o.named.manifest.header.extents o.named.manifest.trie → (node_at o.named.manifest.trie id).groups ≡ []
    → length (stored_items p new) ≤ p.named.manifest.header.writes → bad_blocks o old ≡ [] → bad_blocks p new ≡ []
deal-sound o p old new id dropped children f t bare few sound =
    let g : Geometry = o.named.geometry in
    let trie : Trie = o.named.manifest.trie in
    let items : List Item = pile_items g old (take dropped (node_at trie id).tables) in
    let is = fits-deal g.levels trie id dropped children f.fit in
    let kids = children_fit-children g.levels trie id (8 * id.number) children (omega arith) is.fit in
    let s = sound-sorted o old t.rising sound in
    sound_by_nodes p new (follows-sound o p old new (deal id dropped children) f.follows
    (deal-nodes g old new trie id dropped children f.follows.kept (sound_nodes o old sound) bare
    (join_children g new trie children
    (child_tables (λ q x. NewTable q (extent_in g new x)) id children kids (λ q k.
    subst (λ q. AllByRecursion (λ x. NewTable q (extent_in g new x)) (dealt_to children q)) (child_of id q k)
    (let low = k.low in let high = k.high in let d = q.number - 8 * id.number in
    cut-new g new (child id d) (with_digit id.level d (newest items)) (dealt_to children (child id d))
    (ranked-filter (λ (v : Item). key_digit v.key id.level == d) (newest items) (newest-ranked items)) (all_filter _ (λ (v : Item). key_digit v.key id.level == d) (newest items) (dealt_valid o old id dropped))
    (digit_belongs id d (newest items) (each_newest _ items (oldest-belong g old trie id dropped s)))
    (by_digit g new trie id (newest items) 0 8 children f.given d (omega arith) (omega arith)))))
    (deal-grouped g new trie id items children f.given)
    (children-keep g.levels o.named.manifest.header.extents trie id (8 * id.number) children t is.fit))
    (children_fit-apart g.levels trie id (8 * id.number) children is.fit)))
    few

-- A DEAL of a sound image keeps the map
pub deal-keeps : (o p : Opened) (old new : Image) (id : NodeId) (dropped : ℕ) (children : List ChildChange) → Deals o p old new id dropped children → IsTrie o.named.geometry.levels o.named.manifest.header.extents o.named.manifest.trie → (node_at o.named.manifest.trie id).groups ≡ []
    → length (stored_items p new) ≤ p.named.manifest.header.writes → suc id.level < o.named.geometry.levels → bad_blocks o old ≡ [] → map_of p new ≡ map_of o old
deal-keeps o p old new id dropped children f t bare few deep sound =
    let g : Geometry = o.named.geometry in
    let trie : Trie = o.named.manifest.trie in
    let items : List Item = pile_items g old (take dropped (node_at trie id).tables) in
    let is = fits-deal g.levels trie id dropped children f.fit in
    let s = sound-sorted o old t.rising sound in
    deal-map o p old new id dropped children f.follows deep s
    (sound-sorted p new (follows-sorted o p old new (deal id dropped children) f.follows t.rising) (deal-sound o p old new id dropped children f t bare few sound)) f.log
    (record {
      to_children = children_fit-children g.levels trie id (8 * id.number) children (omega arith) is.fit;
      parts = λ d small. cut-held g new (child id d) (with_digit id.level d (newest items)) (dealt_to children (child id d))
          (ranked-filter (λ (v : Item). key_digit v.key id.level == d) (newest items) (newest-ranked items)) (all_filter _ (λ (v : Item). key_digit v.key id.level == d) (newest items) (dealt_valid o old id dropped))
          (digit_belongs id d (newest items) (each_newest _ items (oldest-belong g old trie id dropped s)))
          (by_digit g new trie id (newest items) 0 8 children f.given d (omega arith) (omega arith));
    })

-- ---- a rewriting

rewritten_valid : (g : Geometry) (image : Image) (tables : List ℕ) → AllValid (without_deletes (newest (pile_items g image tables)))
rewritten_valid g image tables = all_filter _ is_put (newest (pile_items g image tables)) (each_newest _ (pile_items g image tables) (pile-valid g image tables))

pub rewrite-sound : (o p : Opened) (old new : Image) (id : NodeId) (tables groups : List ℕ) → Rewrites o p old new id tables groups → IsTrie o.named.geometry.levels o.named.manifest.header.extents o.named.manifest.trie
    → length (stored_items p new) ≤ p.named.manifest.header.writes → bad_blocks o old ≡ [] → bad_blocks p new ≡ []
rewrite-sound o p old new id tables groups f t few sound =
    let g : Geometry = o.named.geometry in
    let pile : List Item = pile_items g old (node_at o.named.manifest.trie id).tables in
    let s = sound-sorted o old t.rising sound in
    sound_by_nodes p new (follows-sound o p old new (rewrite id tables groups) f.follows
    (rewrite-nodes g old new o.named.manifest.trie id tables groups f.follows.kept (sound_nodes o old sound)
    (cut-new g new id (without_deletes (newest pile)) tables (ranked-filter is_put (newest pile) (newest-ranked pile)) (rewritten_valid g old (node_at o.named.manifest.trie id).tables)
    (all_filter _ is_put (newest pile) (each_newest _ pile (pile-belongs g old o.named.manifest.trie id s))) f.given.placed)
    f.given.grouped))
    few

-- A REWRITING of a sound image's last-level pile keeps the map
pub rewrite-keeps : (o p : Opened) (old new : Image) (id : NodeId) (tables groups : List ℕ) → Rewrites o p old new id tables groups → IsTrie o.named.geometry.levels o.named.manifest.header.extents o.named.manifest.trie
    → length (stored_items p new) ≤ p.named.manifest.header.writes → bad_blocks o old ≡ [] → map_of p new ≡ map_of o old
rewrite-keeps o p old new id tables groups f t few sound =
    let g : Geometry = o.named.geometry in
    let pile : List Item = pile_items g old (node_at o.named.manifest.trie id).tables in
    let s = sound-sorted o old t.rising sound in
    let last : id.level + 1 ≡ g.levels = (fits-rewrite g.levels o.named.manifest.trie id tables groups f.fit).last in
    rewrite-map o p old new id tables groups f.follows (omega arith) s
    (sound-sorted p new (follows-sorted o p old new (rewrite id tables groups) f.follows t.rising) (rewrite-sound o p old new id tables groups f t few sound)) f.log
    (cut-held g new id (without_deletes (newest pile)) tables (ranked-filter is_put (newest pile) (newest-ranked pile)) (rewritten_valid g old (node_at o.named.manifest.trie id).tables)
    (all_filter _ is_put (newest pile) (each_newest _ pile (pile-belongs g old o.named.manifest.trie id s))) f.given.placed)
