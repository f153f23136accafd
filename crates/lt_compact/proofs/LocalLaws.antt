-- A job in flight rests on its sources, the tables that its shares lie behind, and its extents; a flush leaves all of these.
use Rattle.std.proofs.Common.{◌≡◌, ℕ, zero, suc, ◌+◌, ◌-◌, ◌*◌, ◌<◌, ◌≤◌, refl, sym, ap, subst, ◌∙◌, List, [], ◌∷◌, ◌++◌, map, length, take, drop, Bool, true, false, cond, ◌&&◌, ◌||◌, arith, append-nil}
use Rattle.std.proofs.lemmas.List.{take-append-le}
use Rattle.std.specs.Cmp.Lexicographic.{bytes_decides}
use Rattle.std.specs.Prelude.{◌==◌, nat_le, nat_lt, slice_range}
use Rattle.std.specs.List.{filter, AllByRecursion, AllZip, range_with_len}
use Rattle.std.proofs.lemmas.Bool.{and_parts, and_from, eqb-true, lt-ltb}
use Rattle.std.proofs.Math.Seq.{take-length}
use Rattle.lt_terms.specs.Bytes.{Image, same_bytes}
use Rattle.lt_terms.specs.Items.{Item}
use Rattle.lt_tables.specs.Filter.{group_block}
use Rattle.lt_tables.specs.Cut.{cut}
use Rattle.lt_tables.specs.Table.{newest, without_deletes}
use Rattle.lt_tables.proofs.NewestLaws.{newest-newest}
use Rattle.lt_tables.proofs.ListLaws.{all_take, all_drop, all_join}
use Rattle.lt_format.specs.declared.geometry.Geometry.{Geometry}
use Rattle.lt_format.specs.declared.node_id.NodeId.{NodeId}
use Rattle.lt_format.specs.Changes.{flush, after_change}
use Rattle.lt_format.specs.Snapshot.{Named}
use Rattle.lt_format.specs.Trie.{Trie, root, child, node_at, named, is_last_level, same_node}
use Rattle.lt_format.proofs.TrieLaws.{same_node-same}
use Rattle.lt_image.specs.After.{SameExtent, SameExtents}
use Rattle.lt_image.specs.Shares.{needed, Share, child_share, has_tables, rewrite_share, shares_of, kept_groups, new_groups, share_extents}
use Rattle.lt_image.specs.Versions.{free_extents, pile_items}
use Rattle.lt_image.proofs.ChangeLaws.{tables-flush}
use Rattle.lt_image.proofs.KeepLaws.{other_level}
use Rattle.lt_image.proofs.KeptLaws.{pile_same}
use Rattle.lt_image.proofs.MapLaws.{named-tables}
use Rattle.lt_compact.specs.Plans.{Content, table, group, Holds, contents, all_contents, are_shared, children_shared, is_own, extents_for}
use Rattle.lt_image.specs.Needs.{is_slack, node_items, waits}
use Rattle.lt_image.proofs.AfterLaws.{same_filters}
use Rattle.lt_compact.specs.Jobs.{is_loose, JobView, Stage, scanning, planned, filling, taken_in, is_shaped_stage, IsShaped, KeepsJob, KeepsStage}
use Rattle.lt_compact.proofs.CommitLaws.{placed_same}
use Rattle.lt_compact.proofs.PlanLaws.{own-one}

-- ---- what extents hold

-- the extents that a content speaks of are as before
abbrev pub SameContent : Geometry → Image → Image → Content → Type 0
SameContent g old new (table items) = Unit {0}
SameContent g old new (group tables) = SameExtents g old new tables

holds_same : (g : Geometry) (old new : Image) (x : ℕ) (c : Content) → SameExtent g old new x → SameContent g old new c → Holds g old x c → Holds g new x c
holds_same g old new x (table items) same c h = placed_same g old new x items same h
holds_same g old new x (group tables) same c h = record { columns = λ k small. same k (omega arith) ∙ h.columns k small ∙ ap (λ fs. group_block fs k) (sym (same_filters g old new tables c)) }

pub all_hold_same : (g : Geometry) (old new : Image) (xs : List ℕ) (cs : List Content) → SameExtents g old new xs → AllByRecursion (SameContent g old new) cs → AllZip (Holds g old) xs cs → AllZip (Holds g new) xs cs
all_hold_same g old new [] [] same c zip = zip
all_hold_same g old new [] (c ∷ cs) same s zip = zip
all_hold_same g old new (x ∷ xs) [] same s zip = absurd zip
all_hold_same g old new (x ∷ xs) (c ∷ cs) same s zip = (holds_same g old new x c same.0 s.0 zip.0, all_hold_same g old new xs cs same.1 s.1 zip.1)

pub tables_same : (g : Geometry) (old new : Image) (parts : List (List Item)) → AllByRecursion (SameContent g old new) (map table parts)
tables_same g old new [] = tt
tables_same g old new (p ∷ parts) = (tt, tables_same g old new parts)

pub groups_same : (g : Geometry) (old new : Image) (pile : List ℕ) (j n : ℕ) → SameExtents g old new pile → AllByRecursion (SameContent g old new) (map (λ j. group (slice_range pile (64 * j) (64 * j + 64))) (range_with_len j n))
groups_same g old new pile j zero same = tt
groups_same g old new pile j (suc n) same = (all_take (SameExtent g old new) (64 * j + 64 - 64 * j) (drop (64 * j) pile) (all_drop (SameExtent g old new) (64 * j) pile same), groups_same g old new pile (j + 1) n same)

pub contents_same : (g : Geometry) (old new : Image) (levels : ℕ) (shares : List Share) (numbers : List ℕ) → AllByRecursion (λ (s : Share). SameExtents g old new s.behind) shares → SameExtents g old new numbers → AllByRecursion (SameContent g old new) (all_contents levels shares numbers)
contents_same g old new levels [] numbers behind same = tt
contents_same g old new levels (s ∷ shares) numbers behind same =
    let first : List ℕ = take (share_extents levels s) numbers in
    let pile : List ℕ = s.behind ++ take (length s.parts) first in
    all_join (SameContent g old new) (contents levels s first) (all_contents levels shares (drop (share_extents levels s) numbers))
    (all_join (SameContent g old new) (map table s.parts) (map (λ j. group (slice_range pile (64 * j) (64 * j + 64))) (range_with_len (kept_groups levels s) (new_groups levels s)))
    (tables_same g old new s.parts)
    (groups_same g old new pile (kept_groups levels s) (new_groups levels s) (all_join (SameExtent g old new) s.behind (take (length s.parts) first) behind.0 (all_take (SameExtent g old new) (length s.parts) first (all_take (SameExtent g old new) (share_extents levels s) numbers same)))))
    (contents_same g old new levels shares (drop (share_extents levels s) numbers) behind.1 (all_drop (SameExtent g old new) (share_extents levels s) numbers same))

-- ---- the shares

-- the children of a node have the tables that they had
abbrev pub SameChildren : Trie → Trie → NodeId → Type 0
SameChildren trie now id = (d : ℕ) → (node_at now (child id d)).tables ≡ (node_at trie (child id d)).tables

children_same : (trie now : Trie) (id : NodeId) (items : List Item) (a n : ℕ) → SameChildren trie now id → map (child_share now id items) (range_with_len a n) ≡ map (child_share trie id items) (range_with_len a n)
children_same trie now id items a zero same = refl
children_same trie now id items a (suc n) same = λ i. record { node = child id a; behind = same a i; parts = (child_share trie id items a).parts } ∷ children_same trie now id items (a + 1) n same i

pub all_shares-same : (levels : ℕ) (trie now : Trie) (id : NodeId) (items : List Item) → SameChildren trie now id → shares_of levels now id items ≡ shares_of levels trie id items
all_shares-same levels trie now id items same = ap (λ ss. cond (is_last_level levels id) (rewrite_share id items ∷ []) (filter has_tables ss)) (children_same trie now id (newest items) 0 8 same)

shared_same : (trie now : Trie) (id : NodeId) (from : ℕ) (shares : List Share) → ((q : NodeId) → q.level ≡ id.level + 1 → (node_at now q).tables ≡ (node_at trie q).tables) → children_shared trie id from shares ≡ true → children_shared now id from shares ≡ true
shared_same trie now id from [] same h = refl
shared_same trie now id from (s ∷ shares) same h =
    let f = and_parts _ (children_shared trie id (s.node.number + 1) shares) h in
    let e = and_parts _ (same_bytes s.behind (node_at trie s.node).tables) f.0 in
    let d = and_parts _ (nat_le 1 (length s.parts)) e.0 in
    let b = and_parts _ (nat_lt s.node.number (8 * id.number + 8)) d.0 in
    let a = and_parts (s.node.level == id.level + 1) (nat_le from s.node.number) b.0 in
    and_from _ _ (and_from _ _ e.0 (ap (same_bytes s.behind) (same s.node (eqb-true s.node.level (id.level + 1) a.0)) ∙ e.1)) (shared_same trie now id (s.node.number + 1) shares same f.1)

-- ---- a job where the trie has grown behind its node's pile

-- the sources are the oldest tables still, and the children have what they had
pub record GrowsBehind (levels : ℕ) (trie now : Trie) (id : NodeId) : Type 0 where
  pub more : List ℕ
  pub grown : (node_at now id).tables ≡ (node_at trie id).tables ++ more
  pub none : is_last_level levels id ≡ true → more ≡ []
  pub below : (q : NodeId) → q.level ≡ id.level + 1 → (node_at now q).tables ≡ (node_at trie q).tables

front_of : (n : ℕ) (xs ys zs : List ℕ) → take n xs ≡ ys → length ys ≡ n → take n (xs ++ zs) ≡ ys
front_of n xs ys zs is count = take-append-le n xs zs (enough n xs (ap length is ∙ count)) ∙ is
  where
    enough : (n : ℕ) (xs : List ℕ) → length (take n xs) ≡ n → n ≤ length xs
    enough zero xs h = omega arith
    enough (suc n) [] h = absurd (omega arith)
    enough (suc n) (x ∷ xs) h = let rest = enough n xs (omega arith) in omega arith

stage_same : (levels : ℕ) (trie now : Trie) (id : NodeId) (sources : List ℕ) (stage : Stage) → GrowsBehind levels trie now id → is_shaped_stage levels trie id sources stage ≡ true → is_shaped_stage levels now id sources stage ≡ true
stage_same levels trie now id sources (scanning n kept loose) g h = h
stage_same levels trie now id sources (planned shares) g h = kept (is_last_level levels id) h
  where
    kept : (b : Bool) → cond b (is_own id shares) (children_shared trie id (8 * id.number) shares) ≡ true → cond b (is_own id shares) (children_shared now id (8 * id.number) shares) ≡ true
    kept true h = h
    kept false h = shared_same trie now id (8 * id.number) shares g.below h
stage_same levels trie now id sources (filling shares numbers filled) g h =
    let a = and_parts _ (nat_le filled (length numbers)) h in
    let b = and_parts (are_shared levels trie id shares) (length numbers == extents_for levels shares) a.0 in
    and_from _ _ (and_from _ _ (kept (is_last_level levels id) b.0) b.1) a.1
  where
    kept : (b : Bool) → cond b (is_own id shares) (children_shared trie id (8 * id.number) shares) ≡ true → cond b (is_own id shares) (children_shared now id (8 * id.number) shares) ≡ true
    kept true h = h
    kept false h = shared_same trie now id (8 * id.number) shares g.below h

-- A SHAPED JOB stays so
pub job-shaped : (levels : ℕ) (trie now : Trie) (j : JobView) → GrowsBehind levels trie now j.node → IsShaped levels trie j → IsShaped levels now j
job-shaped levels trie now j g s = record {
  same = s.same;
  some = s.some;
  oldest = ap (take (length j.sources)) g.grown ∙ front_of (length j.sources) (node_at trie j.node).tables j.sources g.more s.oldest refl;
  whole = λ last. ap length (g.grown ∙ ap (λ m. (node_at trie j.node).tables ++ m) (g.none last) ∙ append-nil (node_at trie j.node).tables) ∙ s.whole last;
  stage = stage_same levels trie now j.node j.sources j.stage g s.stage;
}

-- a flush grows the root alone
pub flush-grows : (levels : ℕ) (trie : Trie) (tables : List ℕ) (id : NodeId) → 2 ≤ levels → GrowsBehind levels trie (after_change trie (flush tables)) id
flush-grows levels trie tables id deep = by_root (same_node id root) refl
  where
    below : (q : NodeId) → q.level ≡ id.level + 1 → (node_at (after_change trie (flush tables)) q).tables ≡ (node_at trie q).tables
    below q level = tables-flush trie tables q ∙ ap (λ b. cond b ((node_at trie root).tables ++ tables) (node_at trie q).tables) (other_level q root (λ e. absurd (omega arith)))

    by_root : (b : Bool) → same_node id root ≡ b → GrowsBehind levels trie (after_change trie (flush tables)) id
    by_root true is =
        let at : id ≡ root = same_node-same id root is in
        record {
          more = tables;
          grown = tables-flush trie tables id ∙ ap (λ b. cond b ((node_at trie root).tables ++ tables) (node_at trie id).tables) is ∙ ap (λ (q : NodeId). (node_at trie q).tables ++ tables) (sym at);
          none = λ last. absurd (not_last (ap (λ (q : NodeId). q.level) at) (eqb-true (id.level + 1) levels last));
          below = below;
        }
      where
        not_last : id.level ≡ 0 → id.level + 1 ≡ levels → ⊥
        not_last zero_level last = omega arith
    by_root false not_it = record {
      more = [];
      grown = tables-flush trie tables id ∙ ap (λ b. cond b ((node_at trie root).tables ++ tables) (node_at trie id).tables) not_it ∙ sym (append-nil (node_at trie id).tables);
      none = λ last. refl;
      below = below;
    }

-- ---- what is true of it on an image

pub sources_named : (P : ℕ → Type 0) (levels : ℕ) (trie : Trie) (j : JobView) → IsShaped levels trie j → AllByRecursion P (named trie) → AllByRecursion P j.sources
sources_named P levels trie j s all = subst (AllByRecursion P) s.oldest (all_take P (length j.sources) (node_at trie j.node).tables (named-tables P trie j.node all))

behind_children : (P : ℕ → Type 0) (trie : Trie) (id : NodeId) (from : ℕ) (shares : List Share) → AllByRecursion P (named trie) → children_shared trie id from shares ≡ true → AllByRecursion (λ (s : Share). AllByRecursion P s.behind) shares
behind_children P trie id from [] all h = tt
behind_children P trie id from (s ∷ shares) all h =
    let f = and_parts _ (children_shared trie id (s.node.number + 1) shares) h in
    let e = and_parts _ (same_bytes s.behind (node_at trie s.node).tables) f.0 in
    (subst (AllByRecursion P) (sym ((bytes_decides s.behind (node_at trie s.node).tables).0 e.1)) (named-tables P trie s.node all), behind_children P trie id (s.node.number + 1) shares all f.1)

behind_own : (P : ℕ → Type 0) (id : NodeId) (shares : List Share) → is_own id shares ≡ true → AllByRecursion (λ (s : Share). AllByRecursion P s.behind) shares
behind_own P id shares own =
    let o = own-one id shares own in
    subst (AllByRecursion (λ (s : Share). AllByRecursion P s.behind)) (sym o.one) (subst (AllByRecursion P) (sym o.behind) tt, tt)

-- what is true of all tables that are named is true of those that shares lie behind
pub behind_those : (P : ℕ → Type 0) (levels : ℕ) (trie : Trie) (id : NodeId) (shares : List Share) → AllByRecursion P (named trie) → are_shared levels trie id shares ≡ true → AllByRecursion (λ (s : Share). AllByRecursion P s.behind) shares
behind_those P levels trie id shares all h = by_level (is_last_level levels id) h
  where
    by_level : (b : Bool) → cond b (is_own id shares) (children_shared trie id (8 * id.number) shares) ≡ true → AllByRecursion (λ (s : Share). AllByRecursion P s.behind) shares
    by_level true h = behind_own P id shares h
    by_level false h = behind_children P trie id (8 * id.number) shares all h

pub behind_shared : (g : Geometry) (old new : Image) (levels : ℕ) (trie : Trie) (id : NodeId) (shares : List Share) → SameExtents g old new (named trie) → are_shared levels trie id shares ≡ true → AllByRecursion (λ (s : Share). SameExtents g old new s.behind) shares
behind_shared g old new levels trie id shares same h = behind_those (SameExtent g old new) levels trie id shares same h

keeps_stage : (m n : Named) (old new : Image) (id : NodeId) (sources : List ℕ) (stage : Stage) → n.geometry ≡ m.geometry → SameChildren m.manifest.trie n.manifest.trie id → SameExtents m.geometry old new (named m.manifest.trie) → SameExtents m.geometry old new sources → SameExtents m.geometry old new (taken_in stage)
    → is_shaped_stage m.geometry.levels m.manifest.trie id sources stage ≡ true → KeepsStage m old id sources stage → KeepsStage n new id sources stage
keeps_stage m n old new id sources stage geometry children same from fresh shaped keeps = subst (λ (g : Geometry). KeepsStage (record n { geometry = g }) new id sources stage) (sym geometry) (at_geometry stage fresh shaped keeps)
  where
    g : Geometry
    g = m.geometry

    plan : (shares : List Share) → shares ≡ shares_of g.levels m.manifest.trie id (pile_items g old sources) → shares ≡ shares_of g.levels n.manifest.trie id (pile_items g new sources)
    plan shares are = are ∙ sym (ap (shares_of g.levels n.manifest.trie id) (pile_same g old new sources from) ∙ all_shares-same g.levels m.manifest.trie n.manifest.trie id (pile_items g old sources) children)

    at_geometry : (stage : Stage) → SameExtents g old new (taken_in stage) → is_shaped_stage g.levels m.manifest.trie id sources stage ≡ true → KeepsStage m old id sources stage → KeepsStage (record n { geometry = g }) new id sources stage
    at_geometry (scanning n kept loose) fresh shaped keeps =
        let stays : pile_items g new (take n sources) ≡ pile_items g old (take n sources) = pile_same g old new (take n sources) (all_take (SameExtent g old new) n sources from) in
        (keeps.0 ∙ ap newest (sym stays), keeps.1 ∙ ap is_loose (sym stays))
    at_geometry (planned shares) fresh shaped keeps = plan shares keeps
    at_geometry (filling shares numbers filled) fresh shaped keeps =
        let fit = (and_parts (are_shared g.levels m.manifest.trie id shares) (length numbers == extents_for g.levels shares) (and_parts _ (nat_le filled (length numbers)) shaped).0).0 in (
          plan shares keeps.0,
          all_hold_same g old new (take filled numbers) (take filled (all_contents g.levels shares numbers)) (all_take (SameExtent g old new) filled numbers fresh)
              (all_take (SameContent g old new) filled (all_contents g.levels shares numbers) (contents_same g old new g.levels shares numbers (behind_shared g old new g.levels m.manifest.trie id shares same fit) fresh)) keeps.1,
        )

-- A JOB IN FLIGHT is what it was where the extents that were named, and its own, are as before, and its node's children have what they had
pub job-keeps : (m n : Named) (old new : Image) (j : JobView) → n.geometry ≡ m.geometry → SameChildren m.manifest.trie n.manifest.trie j.node → SameExtents m.geometry old new (named m.manifest.trie) → SameExtents m.geometry old new (taken_in j.stage)
    → IsShaped m.geometry.levels m.manifest.trie j → KeepsJob m old j → KeepsJob n new j
job-keeps m n old new j geometry children same fresh shaped keeps =
    keeps_stage m n old new j.node j.sources j.stage geometry children same (sources_named (SameExtent m.geometry old new) m.geometry.levels m.manifest.trie j shaped same) fresh shaped.stage keeps

-- the two events that leave a job in flight
pub flush-shaped : (levels : ℕ) (trie : Trie) (tables : List ℕ) (j : JobView) → 2 ≤ levels → IsShaped levels trie j → IsShaped levels (after_change trie (flush tables)) j
flush-shaped levels trie tables j deep s = job-shaped levels trie (after_change trie (flush tables)) j (flush-grows levels trie tables j.node deep) s

pub same-keeps : (m : Named) (old new : Image) (j : JobView) → SameExtents m.geometry old new (named m.manifest.trie) → SameExtents m.geometry old new (taken_in j.stage) → IsShaped m.geometry.levels m.manifest.trie j → KeepsJob m old j → KeepsJob m new j
same-keeps m old new j same fresh shaped keeps = job-keeps m m old new j refl (λ d. refl) same fresh shaped keeps

pub flush-keeps_job : (m n : Named) (old new : Image) (tables : List ℕ) (j : JobView) → 2 ≤ m.geometry.levels → n.geometry ≡ m.geometry → n.manifest.trie ≡ after_change m.manifest.trie (flush tables)
    → SameExtents m.geometry old new (named m.manifest.trie) → SameExtents m.geometry old new (taken_in j.stage) → IsShaped m.geometry.levels m.manifest.trie j → KeepsJob m old j → KeepsJob n new j
flush-keeps_job m n old new tables j deep geometry trie same fresh shaped keeps =
    let grows = flush-grows m.geometry.levels m.manifest.trie tables j.node deep in
    job-keeps m n old new j geometry (λ d. ap (λ t. (node_at t (child j.node d)).tables) trie ∙ grows.below (child j.node d) refl) same fresh shaped keeps

-- ---- what a plan tells

-- the shares of items are those of their newest
pub shares_of-newest : (levels : ℕ) (trie : Trie) (id : NodeId) (items : List Item) → shares_of levels trie id (newest items) ≡ shares_of levels trie id items
shares_of-newest levels trie id items = ap shares (newest-newest items)
  where
    shares : List Item → List Share
    shares xs = cond (is_last_level levels id) (record { node = id; behind = []; parts = cut (without_deletes xs) } ∷ []) (filter has_tables (map (child_share trie id xs) (range_with_len 0 8)))

needed-newest : (levels : ℕ) (trie : Trie) (id : NodeId) (items : List Item) → needed levels trie id (newest items) ≡ needed levels trie id items
unfolding needed
needed-newest levels trie id items = ap (extents_for levels) (shares_of-newest levels trie id items)

-- WHAT WAS SCANNED of a whole pile: it stands for the node's items
record IsScanned (levels : ℕ) (trie : Trie) (id : NodeId) (items kept : List Item) (loose : Bool) : Type 0 where
  needs : needed levels trie id kept ≡ needed levels trie id items
  loose_is : loose ≡ is_loose items

scanned-items : (m : Named) (image : Image) (j : JobView) (n : ℕ) (kept : List Item) (loose : Bool) → IsShaped m.geometry.levels m.manifest.trie j → j.stage ≡ scanning n kept loose → n ≡ length j.sources → length j.sources ≡ length (node_at m.manifest.trie j.node).tables → KeepsJob m image j
    → IsScanned m.geometry.levels m.manifest.trie j.node (node_items m image (node_at m.manifest.trie j.node)) kept loose
scanned-items m image j n kept loose shaped stage all whole keeps =
    let pile : List ℕ = (node_at m.manifest.trie j.node).tables in
    let stands : KeepsStage m image j.node j.sources (scanning n kept loose) = subst (λ (s : Stage). KeepsStage m image j.node j.sources s) stage keeps in
    let sources : j.sources ≡ pile = sym shaped.oldest ∙ ap (λ n. take n pile) whole ∙ take-length pile in
    let items : pile_items m.geometry image (take n j.sources) ≡ pile_items m.geometry image pile = ap (λ k. pile_items m.geometry image (take k j.sources)) all ∙ ap (pile_items m.geometry image) (take-length j.sources ∙ sources) in
    record {
      needs = ap (needed m.geometry.levels m.manifest.trie j.node) (stands.0 ∙ ap newest items) ∙ needed-newest m.geometry.levels m.manifest.trie j.node (pile_items m.geometry image pile);
      loose_is = stands.1 ∙ ap is_loose items;
    }

-- so a plan of it that needs more extents than are free shows that the node waits
pub plan-waits : (m : Named) (image : Image) (j : JobView) (n : ℕ) (kept : List Item) (loose : Bool) → IsShaped m.geometry.levels m.manifest.trie j → j.stage ≡ scanning n kept loose → n ≡ length j.sources → length j.sources ≡ length (node_at m.manifest.trie j.node).tables → KeepsJob m image j
    → free_extents m < needed m.geometry.levels m.manifest.trie j.node kept → waits m image (j.node, node_at m.manifest.trie j.node) ≡ true
plan-waits m image j n kept loose shaped stage all whole keeps short =
    ap (λ k. nat_lt (free_extents m) k) (sym (scanned-items m image j n kept loose shaped stage all whole keeps).needs) ∙ lt-ltb (free_extents m) (needed m.geometry.levels m.manifest.trie j.node kept) short

-- and one that tells no slack that it has none
pub plan-slack : (m : Named) (image : Image) (j : JobView) (n : ℕ) (kept : List Item) (loose : Bool) → IsShaped m.geometry.levels m.manifest.trie j → j.stage ≡ scanning n kept loose → n ≡ length j.sources → length j.sources ≡ length (node_at m.manifest.trie j.node).tables → KeepsJob m image j
    → is_slack m image (j.node, node_at m.manifest.trie j.node) ≡ (is_last_level m.geometry.levels j.node && (loose || nat_lt (needed m.geometry.levels m.manifest.trie j.node kept) (length (node_at m.manifest.trie j.node).tables + length (node_at m.manifest.trie j.node).groups)))
plan-slack m image j n kept loose shaped stage all whole keeps =
    let is = scanned-items m image j n kept loose shaped stage all whole keeps in
    let extents : ℕ = length (node_at m.manifest.trie j.node).tables + length (node_at m.manifest.trie j.node).groups in
    ap (λ b. is_last_level m.geometry.levels j.node && (b || nat_lt (needed m.geometry.levels m.manifest.trie j.node (node_items m image (node_at m.manifest.trie j.node))) extents)) (sym is.loose_is)
    ∙ ap (λ k. is_last_level m.geometry.levels j.node && (loose || nat_lt k extents)) (sym is.needs)

-- the same where the extents are to be taken
pub short-waits : (m : Named) (image : Image) (j : JobView) (shares : List Share) → IsShaped m.geometry.levels m.manifest.trie j → j.stage ≡ planned shares → length j.sources ≡ length (node_at m.manifest.trie j.node).tables → KeepsJob m image j
    → free_extents m < extents_for m.geometry.levels shares → waits m image (j.node, node_at m.manifest.trie j.node) ≡ true
unfolding needed
short-waits m image j shares shaped stage whole keeps short =
    let pile : List ℕ = (node_at m.manifest.trie j.node).tables in
    let sources : j.sources ≡ pile = sym shaped.oldest ∙ ap (λ n. take n pile) whole ∙ take-length pile in
    let are : shares ≡ shares_of m.geometry.levels m.manifest.trie j.node (pile_items m.geometry image j.sources) = subst (λ (s : Stage). KeepsStage m image j.node j.sources s) stage keeps in
    ap (λ xs. nat_lt (free_extents m) (extents_for m.geometry.levels (shares_of m.geometry.levels m.manifest.trie j.node (pile_items m.geometry image xs)))) (sym sources)
    ∙ ap (λ ss. nat_lt (free_extents m) (extents_for m.geometry.levels ss)) (sym are) ∙ lt-ltb (free_extents m) (extents_for m.geometry.levels shares) short
