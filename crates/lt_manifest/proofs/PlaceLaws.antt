-- The offset that reading ends at lies within the limit.
use Rattle.std.proofs.Common.{◌≡◌, ℕ, zero, suc, ◌+◌, ◌^◌, ◌≤◌, refl, Bool, true, false, not, cond, ◌&&◌, List, [], ◌∷◌, ◌++◌, Option, Some, None, Result, Ok, Err, arith}
use Rattle.std.specs.Prelude.{◌==◌, nat_le, nat_lt}
use Rattle.std.specs.Int.{Width, w8, w16, w32, byte_len}
use Rattle.std.proofs.lemmas.Bool.{and_parts, leb-true}
use Rattle.lt_terms.specs.Bytes.{is_in}
use Rattle.lt_format.specs.declared.geometry.Geometry.{Geometry}
use Rattle.lt_format.specs.declared.node_id.NodeId.{NodeId}
use Rattle.lt_format.specs.Trie.{Trie, groups_for}
use Rattle.lt_format.specs.Snapshot.{Front, Manifest, ◌>>=◌, field, number_in, extents_at, extents_of, follows, id_of, node_read, nodes_read, total_offset}
use Rattle.lt_manifest.specs.Area.{after_front}

-- what was read ends at the limit or before, and so does a field that does not stand begin
abbrev pub EndsWithin : {A : Type 0} → ℕ → Result (A × ℕ) ℕ → Type 0
EndsWithin limit (Ok x) = x.1 ≤ limit
EndsWithin limit (Err at) = at ≤ limit

bind-within : {A B : Type 0} (limit : ℕ) (r : Result (A × ℕ) ℕ) (f : A × ℕ → Result (B × ℕ) ℕ) → EndsWithin limit r → ((x : A × ℕ) → x.1 ≤ limit → EndsWithin limit (f x)) → EndsWithin limit (r >>= f)
bind-within limit (Ok x) f first rest = rest x first
bind-within limit (Err at) f first rest = first

field-within : (bytes : ℕ → ℕ) (limit : ℕ) (w : Width) (stands : ℕ → Bool) (at : ℕ) → at ≤ limit → EndsWithin limit (field bytes limit w stands at)
field-within bytes limit w stands at small = by_test (nat_le (at + byte_len w) limit && stands n) refl
  where
    n : ℕ
    n = number_in w bytes at

    by_test : (b : Bool) → (nat_le (at + byte_len w) limit && stands n) ≡ b → EndsWithin limit (cond b (Ok (n, at + byte_len w)) (Err at))
    by_test true e = leb-true (at + byte_len w) limit (and_parts (nat_le (at + byte_len w) limit) (stands n) e).0
    by_test false e = small

extents_at-within : (bytes : ℕ → ℕ) (limit extents n : ℕ) (before : List ℕ) (at : ℕ) → at ≤ limit → EndsWithin limit (extents_at bytes limit extents n before at)
unfolding extents_at
extents_at-within bytes limit extents zero before at small = small
extents_at-within bytes limit extents (suc n) before at small =
    bind-within limit (field bytes limit w32 (λ x. nat_lt x extents && not (is_in x before)) at) _ (field-within bytes limit w32 (λ x. nat_lt x extents && not (is_in x before)) at small) (λ x in_x.
    bind-within limit (extents_at bytes limit extents n (x.0 ∷ before) x.1) _ (extents_at-within bytes limit extents n (x.0 ∷ before) x.1 in_x) (λ rest in_rest. in_rest))

node_read-within : (bytes : ℕ → ℕ) (limit levels extents : ℕ) (last_id : Option NodeId) (before : List ℕ) (at : ℕ) → at ≤ limit → EndsWithin limit (node_read bytes limit levels extents last_id before at)
unfolding node_read
node_read-within bytes limit levels extents last_id before at small =
    bind-within limit (field bytes limit w8 (λ l. nat_lt l levels) at) _ (field-within bytes limit w8 (λ l. nat_lt l levels) at small) (λ level in_level.
    bind-within limit (field bytes limit w16 (λ n. nat_lt n (8 ^ level.0) && follows last_id (record { level = level.0; number = n })) level.1) _ (field-within bytes limit w16 (λ n. nat_lt n (8 ^ level.0) && follows last_id (record { level = level.0; number = n })) level.1 in_level) (λ number in_number.
    bind-within limit (field bytes limit w32 (λ m. nat_le m (cond (level.0 + 1 == levels) extents 0)) number.1) _ (field-within bytes limit w32 (λ m. nat_le m (cond (level.0 + 1 == levels) extents 0)) number.1 in_number) (λ base in_base.
    bind-within limit (field bytes limit w32 (λ t. nat_le 1 t && nat_le t extents) base.1) _ (field-within bytes limit w32 (λ t. nat_le 1 t && nat_le t extents) base.1 in_base) (λ tables_len in_tables_len.
    bind-within limit (field bytes limit w32 (λ g. g == cond (level.0 + 1 == levels) (groups_for tables_len.0) 0) tables_len.1) _ (field-within bytes limit w32 (λ g. g == cond (level.0 + 1 == levels) (groups_for tables_len.0) 0) tables_len.1 in_tables_len) (λ groups_len in_groups_len.
    bind-within limit (extents_at bytes limit extents tables_len.0 before groups_len.1) _ (extents_at-within bytes limit extents tables_len.0 before groups_len.1 in_groups_len) (λ tables in_tables.
    bind-within limit (extents_at bytes limit extents groups_len.0 (tables.0 ++ before) tables.1) _ (extents_at-within bytes limit extents groups_len.0 (tables.0 ++ before) tables.1 in_tables) (λ groups in_groups. in_groups)))))))

nodes_read-within : (bytes : ℕ → ℕ) (limit levels extents n : ℕ) (last_id : Option NodeId) (before : List ℕ) (at : ℕ) → at ≤ limit → EndsWithin limit (nodes_read bytes limit levels extents n last_id before at)
unfolding nodes_read
nodes_read-within bytes limit levels extents zero last_id before at small = small
nodes_read-within bytes limit levels extents (suc n) last_id before at small =
    bind-within limit (node_read bytes limit levels extents last_id before at) _ (node_read-within bytes limit levels extents last_id before at small) (λ node in_node.
    bind-within limit (nodes_read bytes limit levels extents n (Some (id_of node.0)) (extents_of node.0 ++ before) node.1) _ (nodes_read-within bytes limit levels extents n (Some (id_of node.0)) (extents_of node.0 ++ before) node.1 in_node) (λ rest in_rest. in_rest))

-- a field behind the header that does not stand begins within the snapshot
pub after_front-within : (g : Geometry) (bytes : ℕ → ℕ) (front : Front) (at : ℕ) → 40 ≤ front.total → after_front g bytes front ≡ Err at → at ≤ front.total
after_front-within g bytes front at least fault = by_nodes (nodes_read bytes front.total g.levels front.header.extents front.nodes None [] 40) (nodes_read-within bytes front.total g.levels front.header.extents front.nodes None [] 40 least) fault
  where
    by_nodes : (r : Result (Trie × ℕ) ℕ) → EndsWithin front.total r → (◌>>=◌ {A = Trie × ℕ} {B = Manifest} r (λ (nodes : Trie × ℕ). cond (nodes.1 == front.total) (Ok (record { header = front.header; trie = nodes.0 })) (Err total_offset))) ≡ Err at → at ≤ front.total
    by_nodes (Ok nodes) small e = by_total (nodes.1 == front.total) e
      where
        by_total : (b : Bool) → cond {A = Result Manifest ℕ} b (Ok (record { header = front.header; trie = nodes.0 })) (Err total_offset) ≡ Err at → at ≤ front.total
        by_total true e = cc
        by_total false e = let is : 20 ≡ at = cc in omega arith
    by_nodes (Err f) small e = let is : f ≡ at = cc in omega arith
