-- What is read as a manifest is one: a geometry, and a trie of its levels whose extents are those of the store.
use Rattle.std.proofs.Common.{◌≡◌, ℕ, zero, suc, ◌+◌, ◌*◌, ◌^◌, ◌<◌, ◌≤◌, refl, sym, ap, subst, List, [], ◌∷◌, ◌++◌, length, take, drop, Bool, true, false, not, cond, ◌&&◌, Option, Some, None, Result, Ok, Err, arith}
use Rattle.std.specs.Prelude.{◌==◌, nat_le, nat_lt, slice_index, codes}
use Rattle.std.specs.Int.{Width, w8, w16, w32, w64, byte_len}
use Rattle.std.specs.Ordering.{is_lt}
use Rattle.std.specs.FinMap.{is_sorted}
use Rattle.std.specs.FinMap.Entries.{below_all}
use Rattle.std.specs.List.{list_all}
use Rattle.std.proofs.lemmas.Bool.{and_parts, and_from, not-true, leb-true, eqb-true, eq-eqb}
use Rattle.lt_terms.specs.Bytes.{Image, block_at, u16_at, all_zero, same_bytes, is_in}
use Rattle.lt_format.specs.declared.node_id.NodeId.{NodeId}
use Rattle.lt_format.specs.declared.geometry.Geometry.{Geometry}
use Rattle.lt_format.specs.Layout.{is_geometry, geometry_of, blocks_needed, selected, selector_block}
use Rattle.lt_format.specs.Trie.{Node, Trie, node_cmp, node_extents, named, is_node, is_shaped, groups_for, all_below, IsTrie}
use Rattle.lt_format.specs.Snapshot.{Manifest, Front, ◌>>=◌, field, number_in, extents_at, follows, node_read, nodes_read, id_of, extents_of, is_zero, extents_stand, front_read, snapshot_read, snapshot_in, area_byte, as_block, total_offset, Named, roomy, geometry_in, manifest_in, manifest_of}
use Rattle.lt_format.proofs.Numbers.{times, times-append, times-absent, distinct-times}
use Rattle.lt_format.proofs.ShapeLaws.{is_fine}
use Rattle.lt_format.proofs.SpellLaws.{AreFresh}
use Rattle.lt_format.proofs.NodeReadLaws.{all_follow}
use Rattle.lt_format.proofs.TrieLaws.{below-less, is_less}

-- ---- steps of a reading that went well

pub bind_ok : {A B : Type 0} (r : Result A ℕ) (f : A → Result B ℕ) (b : B) → (r >>= f) ≡ Ok b → (a : A) × (r ≡ Ok a) × (f a ≡ Ok b)
bind_ok (Ok a) f b h = (a, refl, h)
bind_ok (Err e) f b h = cc

ok_or : {A : Type 0} → A → Result A ℕ → A
ok_or x (Ok y) = y
ok_or x (Err e) = x

pub ok_same : {A : Type 0} (x y : A) → ◌≡◌ {A = Result A ℕ} (Ok x) (Ok y) → x ≡ y
unfolding ok_or
ok_same x y h = ap (ok_or x) h

pub field_ok : (bytes : ℕ → ℕ) (limit : ℕ) (w : Width) (stands : ℕ → Bool) (at : ℕ) (p : ℕ × ℕ) → field bytes limit w stands at ≡ Ok p → stands p.0 ≡ true
field_ok bytes limit w stands at p h = by_test (nat_le (at + byte_len w) limit && stands n) refl h
  where
    n : ℕ
    n = number_in w bytes at

    by_test : (b : Bool) → (nat_le (at + byte_len w) limit && stands n) ≡ b → cond b (Ok (n, at + byte_len w)) (Err at) ≡ Ok p → stands p.0 ≡ true
    by_test true e h = subst (λ (q : ℕ × ℕ). stands q.0 ≡ true) (ok_same (n, at + byte_len w) p h) (and_parts (nat_le (at + byte_len w) limit) (stands n) e).1
    by_test false e h = cc

-- ---- extents

more_once : (x : ℕ) (before : List ℕ) → ((y : ℕ) → times y before ≤ 1) → is_in x before ≡ false → (y : ℕ) → times y (x ∷ before) ≤ 1
more_once x before once none y = by_head (x == y) refl
  where
    by_head : (b : Bool) → (x == y) ≡ b → cond b 1 0 + times y before ≤ 1
    by_head true e = let gone : times y before ≡ 0 = subst (λ z. times z before ≡ 0) (eqb-true x y e) (times-absent x before none) in omega arith
    by_head false e = omega (arith, once y)

record Extents (extents n : ℕ) (before xs : List ℕ) : Type 0 where
  fresh : AreFresh extents xs before
  count : length xs ≡ n

extents_ok : (bytes : ℕ → ℕ) (limit extents n : ℕ) (before : List ℕ) (at : ℕ) (r : List ℕ × ℕ) → ((y : ℕ) → times y before ≤ 1) → extents_at bytes limit extents n before at ≡ Ok r → Extents extents n before r.0
unfolding extents_at
extents_ok bytes limit extents zero before at r once h =
    let is : ◌≡◌ {A = List ℕ × ℕ} ([], at) r = ok_same ([], at) r h in
    subst (λ (q : List ℕ × ℕ). Extents extents 0 before q.0) is (record { fresh = record { below = refl; once = λ y. omega (arith, once y) }; count = refl })
extents_ok bytes limit extents (suc n) before at r once h =
    let first = bind_ok (field bytes limit w32 (λ x. nat_lt x extents && not (is_in x before)) at) _ r h in
    let test = and_parts (nat_lt first.0.0 extents) (not (is_in first.0.0 before)) (field_ok bytes limit w32 (λ x. nat_lt x extents && not (is_in x before)) at first.0 first.1) in
    let rest = bind_ok (extents_at bytes limit extents n (first.0.0 ∷ before) first.0.1) _ r first.2 in
    let more = extents_ok bytes limit extents n (first.0.0 ∷ before) first.0.1 rest.0 (more_once first.0.0 before once (not-true (is_in first.0.0 before) test.1)) rest.1 in
    let is : (first.0.0 ∷ rest.0.0, rest.0.1) ≡ r = ok_same (first.0.0 ∷ rest.0.0, rest.0.1) r rest.2 in
    subst (λ (q : List ℕ × ℕ). Extents extents (suc n) before q.0) is (record {
      fresh = record { below = and_from (nat_lt first.0.0 extents) (all_below extents rest.0.0) test.0 more.fresh.below; once = λ y. omega (arith, more.fresh.once y) };
      count = ap suc more.count;
    })

-- ---- nodes

joined_once : (extents : ℕ) (xs before : List ℕ) → AreFresh extents xs before → (y : ℕ) → times y (xs ++ before) ≤ 1
joined_once extents xs before f y = omega (arith, times-append y xs before, f.once y)

joined_fresh : (extents : ℕ) (xs ys before : List ℕ) → AreFresh extents xs before → AreFresh extents ys (xs ++ before) → AreFresh extents (xs ++ ys) before
joined_fresh extents xs ys before a b = record {
  below = all_below_joined xs ys a.below b.below;
  once = λ y. omega (arith, times-append y xs ys, times-append y xs before, b.once y);
}
  where
    all_below_joined : (xs ys : List ℕ) → all_below extents xs ≡ true → all_below extents ys ≡ true → all_below extents (xs ++ ys) ≡ true
    all_below_joined [] ys p q = q
    all_below_joined (x ∷ xs) ys p q = let parts = and_parts (nat_lt x extents) (all_below extents xs) p in and_from (nat_lt x extents) (all_below extents (xs ++ ys)) parts.0 (all_below_joined xs ys parts.1 q)

record IsNext (levels extents : ℕ) (last_id : Option NodeId) (before : List ℕ) (e : NodeId × Node) : Type 0 where
  fine : is_fine levels extents e ≡ true
  comes : follows last_id e.0 ≡ true
  fresh : AreFresh extents (node_extents e.1) before

shaped : (last : Bool) (extents base tables groups : ℕ) → nat_le base (cond last extents 0) ≡ true → (groups == cond last (groups_for tables) 0) ≡ true
    → cond last (nat_le base extents && groups == groups_for tables) (base == 0 && groups == 0) ≡ true
shaped true extents base tables groups b g = and_from _ _ b g
shaped false extents base tables groups b g = and_from _ _ (eq-eqb base 0 (let small : base ≤ 0 = leb-true base 0 b in omega arith)) g

node_ok : (bytes : ℕ → ℕ) (limit levels extents : ℕ) (last_id : Option NodeId) (before : List ℕ) (at : ℕ) (r : (NodeId × Node) × ℕ) → ((y : ℕ) → times y before ≤ 1) → node_read bytes limit levels extents last_id before at ≡ Ok r → IsNext levels extents last_id before r.0
unfolding node_read
node_ok bytes limit levels extents last_id before at r once h =
    let level = bind_ok (field bytes limit w8 (λ l. nat_lt l levels) at) _ r h in
    let l : ℕ = level.0.0 in
    let number = bind_ok (field bytes limit w16 (λ n. nat_lt n (8 ^ l) && follows last_id (record { level = l; number = n })) level.0.1) _ r level.2 in
    let id : NodeId = record { level = l; number = number.0.0 } in
    let base = bind_ok (field bytes limit w32 (λ m. nat_le m (cond (l + 1 == levels) extents 0)) number.0.1) _ r number.2 in
    let tables_len = bind_ok (field bytes limit w32 (λ t. nat_le 1 t && nat_le t extents) base.0.1) _ r base.2 in
    let groups_len = bind_ok (field bytes limit w32 (λ g. g == cond (l + 1 == levels) (groups_for tables_len.0.0) 0) tables_len.0.1) _ r tables_len.2 in
    let tables = bind_ok (extents_at bytes limit extents tables_len.0.0 before groups_len.0.1) _ r groups_len.2 in
    let groups = bind_ok (extents_at bytes limit extents groups_len.0.0 (tables.0.0 ++ before) tables.0.1) _ r tables.2 in
    let new_tables = extents_ok bytes limit extents tables_len.0.0 before groups_len.0.1 tables.0 once tables.1 in
    let new_groups = extents_ok bytes limit extents groups_len.0.0 (tables.0.0 ++ before) tables.0.1 groups.0 (joined_once extents tables.0.0 before new_tables.fresh) groups.1 in
    let in_level = field_ok bytes limit w8 (λ l. nat_lt l levels) at level.0 level.1 in
    let named_next = and_parts _ (follows last_id id) (field_ok bytes limit w16 (λ n. nat_lt n (8 ^ l) && follows last_id (record { level = l; number = n })) level.0.1 number.0 number.1) in
    let small_base = field_ok bytes limit w32 (λ m. nat_le m (cond (l + 1 == levels) extents 0)) number.0.1 base.0 base.1 in
    let some = and_parts (nat_le 1 tables_len.0.0) (nat_le tables_len.0.0 extents) (field_ok bytes limit w32 (λ t. nat_le 1 t && nat_le t extents) base.0.1 tables_len.0 tables_len.1) in
    let as_many = field_ok bytes limit w32 (λ g. g == cond (l + 1 == levels) (groups_for tables_len.0.0) 0) tables_len.0.1 groups_len.0 groups_len.1 in
    let node : Node = record { base = base.0.0; tables = tables.0.0; groups = groups.0.0 } in
    let is : ((id, node), groups.0.1) ≡ r = ok_same ((id, node), groups.0.1) r groups.2 in
    subst (λ (q : (NodeId × Node) × ℕ). IsNext levels extents last_id before q.0) is (record {
      fine = and_from (is_node levels id && nat_le 1 (length tables.0.0)) (is_shaped levels extents id node)
          (and_from (is_node levels id) (nat_le 1 (length tables.0.0)) (and_from (nat_lt l levels) (nat_lt number.0.0 (8 ^ l)) in_level named_next.0) (subst (λ n. nat_le 1 n ≡ true) (sym new_tables.count) some.0))
          (shaped (l + 1 == levels) extents base.0.0 (length tables.0.0) (length groups.0.0) small_base
          (subst (λ n. (n == cond (l + 1 == levels) (groups_for (length tables.0.0)) 0) ≡ true) (sym new_groups.count) (subst (λ n. (groups_len.0.0 == cond (l + 1 == levels) (groups_for n) 0) ≡ true) (sym new_tables.count) as_many)));
      comes = named_next.1;
      fresh = joined_fresh extents tables.0.0 groups.0.0 before new_tables.fresh new_groups.fresh;
    })

record AreNext (levels extents : ℕ) (last_id : Option NodeId) (before : List ℕ) (trie : Trie) : Type 0 where
  fine : list_all (is_fine levels extents) trie ≡ true
  rising : is_sorted node_cmp trie ≡ true
  comes : all_follow last_id trie ≡ true
  fresh : AreFresh extents (named trie) before

all_after : (last_id : Option NodeId) (e : NodeId × Node) (es : Trie) → follows last_id e.0 ≡ true → below_all node_cmp e.0 es ≡ true → all_follow last_id (e ∷ es) ≡ true
all_after None e es a b = refl
all_after (Some id) e es a b = and_from (is_lt (node_cmp id e.0)) (below_all node_cmp id es) a (below-less id e.0 es (is_less (node_cmp id e.0) a) b)

no_nodes : (levels extents : ℕ) (last_id : Option NodeId) (before : List ℕ) → ((y : ℕ) → times y before ≤ 1) → AreNext levels extents last_id before []
no_nodes levels extents None before once = record { fine = refl; rising = refl; comes = refl; fresh = record { below = refl; once = λ y. omega (arith, once y) } }
no_nodes levels extents (Some id) before once = record { fine = refl; rising = refl; comes = refl; fresh = record { below = refl; once = λ y. omega (arith, once y) } }

nodes_ok : (bytes : ℕ → ℕ) (limit levels extents n : ℕ) (last_id : Option NodeId) (before : List ℕ) (at : ℕ) (r : Trie × ℕ) → ((y : ℕ) → times y before ≤ 1) → nodes_read bytes limit levels extents n last_id before at ≡ Ok r → AreNext levels extents last_id before r.0
unfolding nodes_read
nodes_ok bytes limit levels extents zero last_id before at r once h =
    let is : ◌≡◌ {A = Trie × ℕ} ([], at) r = ok_same ([], at) r h in
    subst (λ (q : Trie × ℕ). AreNext levels extents last_id before q.0) is (no_nodes levels extents last_id before once)
nodes_ok bytes limit levels extents (suc n) last_id before at r once h =
    let node = bind_ok (node_read bytes limit levels extents last_id before at) _ r h in
    let first = node_ok bytes limit levels extents last_id before at node.0 once node.1 in
    let rest = bind_ok (nodes_read bytes limit levels extents n (Some (id_of node.0.0)) (extents_of node.0.0 ++ before) node.0.1) _ r node.2 in
    let more = nodes_ok bytes limit levels extents n (Some (id_of node.0.0)) (extents_of node.0.0 ++ before) node.0.1 rest.0 (joined_once extents (extents_of node.0.0) before first.fresh) rest.1 in
    let is : (node.0.0 ∷ rest.0.0, rest.0.1) ≡ r = ok_same (node.0.0 ∷ rest.0.0, rest.0.1) r rest.2 in
    subst (λ (q : Trie × ℕ). AreNext levels extents last_id before q.0) is (record {
      fine = and_from (is_fine levels extents node.0.0) (list_all (is_fine levels extents) rest.0.0) first.fine more.fine;
      rising = and_from (below_all node_cmp (id_of node.0.0) rest.0.0) (is_sorted node_cmp rest.0.0) more.comes more.rising;
      comes = all_after last_id node.0.0 rest.0.0 first.comes more.comes;
      fresh = joined_fresh extents (extents_of node.0.0) (named rest.0.0) before first.fresh more.fresh;
    })

-- ---- the header and the whole

less_two : (n : ℕ) → n ≤ 1 → n < 2
less_two n h = omega arith

-- what a header that was read says; its length is at most that of the largest snapshot
pub record IsFrontOf (g : Geometry) (blocks : ℕ) (f : Front) : Type 0 where
  pub area : f.header.log_area < 2
  pub extents : extents_stand g blocks f.header.extents ≡ true
  pub short : f.total ≤ 1245224

pub front_ok : (g : Geometry) (blocks : ℕ) (bytes : ℕ → ℕ) (f : Front) → front_read g blocks bytes ≡ Ok f → IsFrontOf g blocks f
unfolding front_read
front_ok g blocks bytes f h =
    let format = bind_ok (field bytes 40 w8 (λ n. n == 1) 0) _ f h in
    let area = bind_ok (field bytes 40 w8 (λ n. nat_le n 1) 1) _ f format.2 in
    let gap = bind_ok (field bytes 40 w16 is_zero 2) _ f area.2 in
    let extents = bind_ok (field bytes 40 w32 (extents_stand g blocks) 4) _ f gap.2 in
    let nodes = bind_ok (field bytes 40 w32 (λ n. nat_le n extents.0.0) 16) _ f extents.2 in
    let total = bind_ok (field bytes 40 w32 (λ n. nat_le 40 n && nat_le n (40 + 19 * extents.0.0)) 20) _ f nodes.2 in
    let high = bind_ok (field bytes 40 w64 is_zero 24) _ f total.2 in
    let low = bind_ok (field bytes 40 w64 is_zero 32) _ f high.2 in
    let front : Front = record { header = record { log_area = area.0.0; extents = extents.0.0; writes = number_in w64 bytes 8 }; nodes = nodes.0.0; total = total.0.0 } in
    let small : area.0.0 ≤ 1 = leb-true area.0.0 1 (field_ok bytes 40 w8 (λ n. nat_le n 1) 1 area.0 area.1) in
    let stands = field_ok bytes 40 w32 (extents_stand g blocks) 4 extents.0 extents.1 in
    let few = leb-true _ _ (and_parts (nat_le 1 extents.0.0) (nat_le extents.0.0 65536) (and_parts _ (nat_le (blocks_needed g extents.0.0) blocks) stands).0).1 in
    let short = leb-true _ _ (and_parts (nat_le 40 total.0.0) (nat_le total.0.0 (40 + 19 * extents.0.0)) (field_ok bytes 40 w32 (λ n. nat_le 40 n && nat_le n (40 + 19 * extents.0.0)) 20 total.0 total.1)).1 in
    subst (IsFrontOf g blocks) (ok_same front f low.2) (record { area = less_two area.0.0 small; extents = stands; short = omega (arith, few, short) })

-- what reading gives of a manifest
pub record IsRead (g : Geometry) (blocks : ℕ) (m : Manifest) : Type 0 where
  pub area : m.header.log_area < 2
  pub extents : extents_stand g blocks m.header.extents ≡ true
  pub trie : IsTrie g.levels m.header.extents m.trie

snapshot_ok : (g : Geometry) (blocks : ℕ) (bytes : ℕ → ℕ) (m : Manifest) → snapshot_read g blocks bytes ≡ Ok m → IsRead g blocks m
unfolding snapshot_read
snapshot_ok g blocks bytes m h =
    let front = bind_ok (front_read g blocks bytes) _ m h in
    let nodes = bind_ok (nodes_read bytes front.0.total g.levels front.0.header.extents front.0.nodes None [] 40) _ m front.2 in
    let f = front_ok g blocks bytes front.0 front.1 in
    let n = nodes_ok bytes front.0.total g.levels front.0.header.extents front.0.nodes None [] 40 nodes.0 (λ y. omega arith) nodes.1 in
    let trie : IsTrie g.levels front.0.header.extents nodes.0.0 = record { rising = n.rising; nodes = n.fine; distinct = distinct-times (named nodes.0.0) (λ y. omega (arith, n.fresh.once y)); below = n.fresh.below } in
    by_total front.0 nodes.0 f trie (nodes.0.1 == front.0.total) nodes.2
  where
    by_total : (f : Front) (nodes : Trie × ℕ) → IsFrontOf g blocks f → IsTrie g.levels f.header.extents nodes.0 → (b : Bool) → cond b (Ok (record { header = f.header; trie = nodes.0 })) (Err total_offset) ≡ Ok m → IsRead g blocks m
    by_total f nodes i t true e = subst (IsRead g blocks) (ok_same (record { header = f.header; trie = nodes.0 }) m e) (record { area = i.area; extents = i.extents; trie = t })
    by_total f nodes i t false e = cc

as_block_ok : {A : Type 0} (a : ℕ) (r : Result A ℕ) (x : A) → as_block a r ≡ Ok x → r ≡ Ok x
as_block_ok a (Ok y) x h = h
as_block_ok a (Err e) x h = cc

-- ---- the geometry

geometry_ok : (block : List ℕ) (g : Geometry) → geometry_of block ≡ Some g → is_geometry g ≡ true
unfolding geometry_of
geometry_ok block g h = by_test (same_bytes (take 8 block) (codes "LSMTRIE1") && is_geometry read && all_zero (drop 11 block)) refl h
  where
    read : Geometry
    read = record { levels = slice_index block 8; slots = u16_at block 9 }

    by_test : (b : Bool) → (same_bytes (take 8 block) (codes "LSMTRIE1") && is_geometry read && all_zero (drop 11 block)) ≡ b → cond b (Some read) None ≡ Some g → is_geometry g ≡ true
    by_test true e h = let is : read ≡ g = cc in subst (λ q. is_geometry q ≡ true) is (and_parts (same_bytes (take 8 block) (codes "LSMTRIE1")) (is_geometry read) (and_parts _ (all_zero (drop 11 block)) e).0).1
    by_test false e h = cc

roomy_ok : (blocks : ℕ) (o : Option Geometry) (g : Geometry) → roomy blocks o ≡ Ok g → o ≡ Some g
roomy_ok blocks None g h = cc
roomy_ok blocks (Some q) g h = by_room (nat_le (blocks_needed q 0) blocks) h
  where
    by_room : (b : Bool) → cond {A = Result Geometry ℕ} b (Ok q) (Err 0) ≡ Ok g → Some q ≡ Some g
    by_room true e = ap (λ x. Some x) (ok_same q g e)
    by_room false e = cc

-- what an image names
pub record IsNamed (image : Image) (n : Named) : Type 0 where
  pub geometry : is_geometry n.geometry ≡ true
  pub read : IsRead n.geometry (length image) n.manifest
  pub area : n.area ≡ selected (block_at image selector_block)

-- A MANIFEST that an image names
pub manifest_of-named : (image : Image) (n : Named) → manifest_of image ≡ Ok n → IsNamed image n
unfolding manifest_of manifest_in geometry_in
manifest_of-named image n h =
    let area : ℕ = selected (block_at image selector_block) in
    let g = bind_ok (roomy (length image) (geometry_of (block_at image 0))) _ n h in
    let m = bind_ok (snapshot_in g.0 image area) _ n g.2 in
    let named_so : Named = record { geometry = g.0; area = area; manifest = m.0 } in
    subst (IsNamed image) (ok_same named_so n m.2) (record {
      geometry = geometry_ok (block_at image 0) g.0 (roomy_ok (length image) (geometry_of (block_at image 0)) g.0 g.1);
      read = snapshot_ok g.0 (length image) (area_byte image area) m.0 (as_block_ok area (snapshot_read g.0 (length image) (area_byte image area)) m.0 m.1);
      area = refl;
    })
