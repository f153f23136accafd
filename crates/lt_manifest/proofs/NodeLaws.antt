-- Nodes that are read one after another.
use Rattle.std.proofs.Common.{◌≡◌, ℕ, suc, ◌+◌, ◌-◌, ◌<◌, ◌≤◌, refl, sym, ap, subst, ◌∙◌, Bool, true, false, cond, ◌&&◌, List, [], ◌∷◌, ◌++◌, length, Option, Some, None, Result, Ok, Err, arith, append-nil, append_assoc}
use Rattle.std.specs.Prelude.{◌^◌, ◌==◌, if◌then◌else◌, nat_le, nat_lt}
use Rattle.std.specs.Int.{w8, w16, w32}
use Rattle.std.specs.declared.cmp.Ordering.TheVariants.{Less, Greater}
use Rattle.std.specs.Ordering.{is_lt, ordering_reverse}
use Rattle.std.specs.FinMap.{put}
use Rattle.std.specs.List.{list_all}
use Rattle.std.proofs.lemmas.Bool.{and_parts, and_from, eqb-true, leb-true, ne_eqb}
use Rattle.std.proofs.lemmas.Grind.{flat_map-append}
use Rattle.std.proofs.lemmas.List.Folds.{list_any-append, list_all-append}
use Rattle.lt_terms.specs.Bytes.{is_in}
use Rattle.lt_format.specs.declared.node_id.NodeId.{NodeId}
use Rattle.lt_format.specs.Trie.{Node, Trie, node_cmp, with_node, named, node_extents, is_node, is_shaped, is_last_level, groups_for, IsTrie}
use Rattle.lt_format.specs.Snapshot.{field, extents_at, node_read, nodes_read, follows, ◌>>=◌}
use Rattle.lt_format.proofs.ReadLaws.{bind_ok, field_ok, ok_same}
use Rattle.lt_format.proofs.TrieLaws.{node_total, is_less}
use Rattle.lt_format.proofs.KeepLaws.{set-trie}
use Rattle.lt_format.proofs.ShapeLaws.{inner-shaped, last-shaped, shaped-inner, shaped-last}
use Rattle.lt_manifest.proofs.FreshLaws.{AreNew, are_new-from, extents_at-count, extents_at-new, new-joined}
use Rattle.lt_node.specs.Marks.{AreMarks}
use Rattle.lt_format.proofs.AlikeLaws.{nodes_read-same, SameNumbers}
use Rattle.std.proofs.Math.Bool.{or_comm}

-- ---- shapes

-- what the counts of a node say of its lists
pub shaped-from : (levels extents : ℕ) (id : NodeId) (n : Node) (tables groups : ℕ) → length n.tables ≡ tables → length n.groups ≡ groups → n.base ≤ (if is_last_level levels id then extents else 0)
    → groups ≡ (if is_last_level levels id then groups_for tables else 0) → is_shaped levels extents id n ≡ true
shaped-from levels extents id n tables groups count_tables count_groups base wanted = by_level (is_last_level levels id) refl base wanted
  where
    by_level : (b : Bool) → is_last_level levels id ≡ b → n.base ≤ cond b extents 0 → groups ≡ cond b (groups_for tables) 0 → is_shaped levels extents id n ≡ true
    by_level true last base wanted = last-shaped levels extents id n last base (count_groups ∙ wanted ∙ ap groups_for (sym count_tables))
    by_level false inner base wanted = inner-shaped levels extents id n inner (omega arith) (count_groups ∙ wanted)

-- a store of more extents has room for the base
pub shaped-wider : (levels extents limit : ℕ) (id : NodeId) (n : Node) → extents ≤ limit → is_shaped levels extents id n ≡ true → is_shaped levels limit id n ≡ true
shaped-wider levels extents limit id n wider h = by_level (is_last_level levels id) refl
  where
    by_level : (b : Bool) → is_last_level levels id ≡ b → is_shaped levels limit id n ≡ true
    by_level true last =
        let parts = shaped-last levels extents id n last h in
        last-shaped levels limit id n last (omega (arith, parts.0, wider)) parts.1
    by_level false inner =
        let parts = shaped-inner levels extents id n inner h in
        inner-shaped levels limit id n inner parts.0 parts.1

-- what a node that was read is, beside the extents that were named before it
pub record IsNextNode (levels extents : ℕ) (last_id : Option NodeId) (before : List ℕ) (e : NodeId × Node) : Type 0 where
  pub comes : follows last_id e.0 ≡ true
  pub there : is_node levels e.0 ≡ true
  pub some : 1 ≤ length e.1.tables
  pub shaped : is_shaped levels extents e.0 e.1 ≡ true
  pub fresh : AreNew extents before (node_extents e.1)

pub node_read-next : (bytes : ℕ → ℕ) (limit levels extents : ℕ) (last_id : Option NodeId) (before : List ℕ) (at : ℕ) (r : (NodeId × Node) × ℕ) → node_read bytes limit levels extents last_id before at ≡ Ok r → IsNextNode levels extents last_id before r.0
unfolding node_read
node_read-next bytes limit levels extents last_id before at r h =
    let level = bind_ok (field bytes limit w8 (λ l. nat_lt l levels) at) _ r h in
    let l : ℕ = level.0.0 in
    let number = bind_ok (field bytes limit w16 (λ n. nat_lt n (8 ^ l) && follows last_id (record { level = l; number = n })) level.0.1) _ r level.2 in
    let id : NodeId = record { level = l; number = number.0.0 } in
    let base = bind_ok (field bytes limit w32 (λ m. nat_le m (cond (l + 1 == levels) extents 0)) number.0.1) _ r number.2 in
    let tables_len = bind_ok (field bytes limit w32 (λ t. nat_le 1 t && nat_le t extents) base.0.1) _ r base.2 in
    let groups_len = bind_ok (field bytes limit w32 (λ g. g == cond (l + 1 == levels) (groups_for tables_len.0.0) 0) tables_len.0.1) _ r tables_len.2 in
    let tables = bind_ok (extents_at bytes limit extents tables_len.0.0 before groups_len.0.1) _ r groups_len.2 in
    let groups = bind_ok (extents_at bytes limit extents groups_len.0.0 (tables.0.0 ++ before) tables.0.1) _ r tables.2 in
    let in_level = field_ok bytes limit w8 (λ l. nat_lt l levels) at level.0 level.1 in
    let next = and_parts _ (follows last_id id) (field_ok bytes limit w16 (λ n. nat_lt n (8 ^ l) && follows last_id (record { level = l; number = n })) level.0.1 number.0 number.1) in
    let base_fits = field_ok bytes limit w32 (λ m. nat_le m (cond (l + 1 == levels) extents 0)) number.0.1 base.0 base.1 in
    let some = and_parts (nat_le 1 tables_len.0.0) (nat_le tables_len.0.0 extents) (field_ok bytes limit w32 (λ t. nat_le 1 t && nat_le t extents) base.0.1 tables_len.0 tables_len.1) in
    let as_many = field_ok bytes limit w32 (λ g. g == cond (l + 1 == levels) (groups_for tables_len.0.0) 0) tables_len.0.1 groups_len.0 groups_len.1 in
    let count_tables = extents_at-count bytes limit extents tables_len.0.0 before groups_len.0.1 tables.0.0 tables.0.1 tables.1 in
    let count_groups = extents_at-count bytes limit extents groups_len.0.0 (tables.0.0 ++ before) tables.0.1 groups.0.0 groups.0.1 groups.1 in
    let new_tables = extents_at-new bytes limit extents tables_len.0.0 before groups_len.0.1 tables.0.0 tables.0.1 tables.1 in
    let new_groups = extents_at-new bytes limit extents groups_len.0.0 (tables.0.0 ++ before) tables.0.1 groups.0.0 groups.0.1 groups.1 in
    let node : Node = record { base = base.0.0; tables = tables.0.0; groups = groups.0.0 } in
    let is : ((id, node), groups.0.1) ≡ r = ok_same ((id, node), groups.0.1) r groups.2 in
    subst (λ (q : (NodeId × Node) × ℕ). IsNextNode levels extents last_id before q.0) is (record {
      comes = next.1;
      there = and_from (nat_lt l levels) (nat_lt number.0.0 (8 ^ l)) in_level next.0;
      some = subst (λ n. 1 ≤ n) (sym count_tables) (leb-true 1 tables_len.0.0 some.0);
      shaped = shaped-from levels extents id node tables_len.0.0 groups_len.0.0 count_tables count_groups (leb-true base.0.0 _ base_fits) (eqb-true groups_len.0.0 _ as_many);
      fresh = new-joined extents before tables.0.0 groups.0.0 new_tables new_groups;
    })

-- ---- the node behind all others

-- each node comes before this name
abbrev pub all_before : NodeId → Trie → Bool
all_before id trie = list_all (λ (e : NodeId × Node). is_lt (node_cmp e.0 id)) trie

greater : (a b : NodeId) → node_cmp a b ≡ Less → node_cmp b a ≡ Greater
greater a b less = node_total.antisymm b a ∙ ap ordering_reverse less

put-last : (id : NodeId) (node : Node) (trie : Trie) → all_before id trie ≡ true → put node_cmp id node trie ≡ trie ++ (id, node) ∷ []
put-last id node [] h = refl
put-last id node (e ∷ es) h =
    let both = and_parts (is_lt (node_cmp e.0 id)) (all_before id es) h in
    let after : node_cmp id e.0 ≡ Greater = greater e.0 id (is_less (node_cmp e.0 id) both.0) in
    rw after (ap (λ (rest : Trie). e ∷ rest) (put-last id node es both.1))

with_node-last : (id : NodeId) (node : Node) (trie : Trie) → 1 ≤ length node.tables → all_before id trie ≡ true → with_node trie id node ≡ trie ++ (id, node) ∷ []
unfolding with_node
with_node-last id node trie some h =
    let any : (length node.tables == 0) ≡ false = ne_eqb (length node.tables) 0 (λ e. omega arith) in
    rw any (put-last id node trie h)

before-further : (a b : NodeId) (trie : Trie) → node_cmp a b ≡ Less → all_before a trie ≡ true → all_before b trie ≡ true
before-further a b [] less h = refl
before-further a b (e ∷ es) less h =
    let both = and_parts (is_lt (node_cmp e.0 a)) (all_before a es) h in
    let here : node_cmp e.0 b ≡ Less = node_total.trans e.0 a b (is_less (node_cmp e.0 a) both.0) less in
    and_from (is_lt (node_cmp e.0 b)) (all_before b es) (ap is_lt here) (before-further a b es less both.1)

-- ---- all nodes

abbrev pub put_nodes : Trie → Result (Trie × ℕ) ℕ → Result (Trie × ℕ) ℕ
put_nodes es (Ok (rest, at)) = Ok (es ++ rest, at)
put_nodes es (Err e) = Err e

put_nodes-one : (es : Trie) (e : NodeId × Node) (r : Result (Trie × ℕ) ℕ) → put_nodes es (r >>= (λ (rest : Trie × ℕ). Ok (e ∷ rest.0, rest.1))) ≡ put_nodes (es ++ e ∷ []) r
put_nodes-one es e (Ok (rest, at)) = ap (λ (all : Trie). Ok (all, at)) (sym (append_assoc es (e ∷ []) rest))
put_nodes-one es e (Err at) = refl

named-push : (trie : Trie) (id : NodeId) (n : Node) → named (trie ++ (id, n) ∷ []) ≡ named trie ++ node_extents n
named-push trie id n = flat_map-append (λ (e : NodeId × Node). node_extents e.1) trie ((id, n) ∷ []) ∙ ap (λ xs. named trie ++ xs) (append-nil (node_extents n))

pub same-turned : (xs ys : List ℕ) → SameNumbers (xs ++ ys) (ys ++ xs)
same-turned xs ys z = list_any-append (λ q. q == z) xs ys ∙ or_comm (is_in z xs) (is_in z ys) ∙ sym (list_any-append (λ q. q == z) ys xs)

module _ (bytes : ℕ → ℕ) (limit levels extents count : ℕ) where
  -- what was read after so many nodes
  pub record IsTrieRead (marks : List Bool) (done : ℕ) (trie : Trie) (last : Option NodeId) (place : ℕ) : Type 0 where
    pub marks_are : AreMarks marks (named trie)
    pub goes_on : nodes_read bytes limit levels extents count None [] 40 ≡ put_nodes trie (nodes_read bytes limit levels extents (count - done) last (named trie) place)
    pub trie_is : IsTrie levels extents trie
    pub last_is : (id : NodeId) → follows last id ≡ true → all_before id trie ≡ true

  nodes-step : (n place next : ℕ) (trie : Trie) (last : Option NodeId) (id : NodeId) (node : Node) → node_read bytes limit levels extents last (named trie) place ≡ Ok ((id, node), next)
      → put_nodes trie (nodes_read bytes limit levels extents (suc n) last (named trie) place) ≡ put_nodes (trie ++ (id, node) ∷ []) (nodes_read bytes limit levels extents n (Some id) (named (trie ++ (id, node) ∷ [])) next)
  unfolding nodes_read
  nodes-step n place next trie last id node read =
      let same : SameNumbers (node_extents node ++ named trie) (named (trie ++ (id, node) ∷ [])) = subst (SameNumbers (node_extents node ++ named trie)) (sym (named-push trie id node)) (same-turned (node_extents node) (named trie)) in
      rw read (put_nodes-one trie (id, node) (nodes_read bytes limit levels extents n (Some id) (node_extents node ++ named trie) next)
      ∙ ap (put_nodes (trie ++ (id, node) ∷ [])) (nodes_read-same bytes bytes limit (λ i within. refl) levels extents n (Some id) (node_extents node ++ named trie) (named (trie ++ (id, node) ∷ [])) next same))

  pub nodes-more : (mid new : List Bool) (done place next : ℕ) (trie : Trie) (last_id : Option NodeId) (id : NodeId) (node : Node) → done < count → IsTrieRead mid done trie last_id place
      → node_read bytes limit levels extents last_id (named trie) place ≡ Ok ((id, node), next) → AreMarks new (node_extents node ++ named trie)
      → IsTrieRead new (done + 1) (with_node trie id node) (Some id) next
  nodes-more mid new done place next trie last_id id node some so_far read marks =
      let is = node_read-next bytes limit levels extents last_id (named trie) place ((id, node), next) read in
      let one : count - done ≡ suc (count - (done + 1)) = omega arith in
      let behind : all_before id trie ≡ true = so_far.last_is id is.comes in
      let same : SameNumbers (node_extents node ++ named trie) (named (trie ++ (id, node) ∷ [])) = subst (SameNumbers (node_extents node ++ named trie)) (sym (named-push trie id node)) (same-turned (node_extents node) (named trie)) in
      let set = set-trie levels extents trie id node so_far.trie_is is.there is.shaped (are_new-from extents extents trie (node_extents node) (omega arith) is.fresh) in
      let last : with_node trie id node ≡ trie ++ (id, node) ∷ [] = with_node-last id node trie is.some behind in
      subst (λ (t : Trie). IsTrieRead new (done + 1) t (Some id) next) (sym last) (record {
        marks_are = λ z within. marks z within ∙ same z;
        goes_on = so_far.goes_on ∙ ap (λ k. put_nodes trie (nodes_read bytes limit levels extents k last_id (named trie) place)) one ∙ nodes-step (count - (done + 1)) place next trie last_id id node read;
        trie_is = subst (IsTrie levels extents) last set;
        last_is = λ q less. list_all-append (λ (e : NodeId × Node). is_lt (node_cmp e.0 q)) trie ((id, node) ∷ []) ∙ and_from (all_before q trie) (all_before q ((id, node) ∷ [])) (before-further id q trie (is_less (node_cmp id q) less) behind) (and_from (is_lt (node_cmp id q)) true less refl);
      })

  nodes-bad : (n place e : ℕ) (trie : Trie) (last : Option NodeId) → node_read bytes limit levels extents last (named trie) place ≡ Err e → nodes_read bytes limit levels extents (suc n) last (named trie) place ≡ Err e
  unfolding nodes_read
  nodes-bad n place e trie last read = rw read refl

  pub nodes-fault : (mid : List Bool) (done place e : ℕ) (trie : Trie) (last : Option NodeId) → done < count → IsTrieRead mid done trie last place → node_read bytes limit levels extents last (named trie) place ≡ Err e → nodes_read bytes limit levels extents count None [] 40 ≡ Err e
  nodes-fault mid done place e trie last some so_far read =
      let one : count - done ≡ suc (count - (done + 1)) = omega arith in
      so_far.goes_on ∙ ap (λ k. put_nodes trie (nodes_read bytes limit levels extents k last (named trie) place)) one ∙ ap (put_nodes trie) (nodes-bad (count - (done + 1)) place e trie last read)

  pub nodes-all : (new : List Bool) (done place : ℕ) (trie : Trie) (last : Option NodeId) → count ≤ done → IsTrieRead new done trie last place → nodes_read bytes limit levels extents count None [] 40 ≡ Ok (trie, place)
  unfolding nodes_read
  nodes-all new done place trie last all so_far =
      let none : count - done ≡ 0 = omega arith in
      let end : nodes_read bytes limit levels extents (count - done) last (named trie) place ≡ Ok ([], place) = rw none refl in
      so_far.goes_on ∙ ap (put_nodes trie) end ∙ ap (λ (es : Trie). Ok (es, place)) (append-nil trie)
