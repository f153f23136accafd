-- The nodes of a trie are read again from their spelling.
use Rattle.std.proofs.Common.{◌≡◌, ℕ, zero, suc, ◌+◌, ◌*◌, ◌^◌, ◌<◌, ◌≤◌, refl, ap, subst, List, [], ◌∷◌, ◌++◌, length, Bool, true, false, cond, ◌&&◌, Option, Some, None, Ok, arith, length-append, append_assoc}
use Rattle.std.specs.Prelude.{◌==◌, nat_le, nat_lt}
use Rattle.std.specs.Ordering.{is_lt}
use Rattle.std.specs.FinMap.{is_sorted}
use Rattle.std.specs.FinMap.Entries.{below_all}
use Rattle.std.specs.List.{list_all}
use Rattle.std.proofs.lemmas.Bool.{and_parts, and_from, leb-true, ltb-true, lt-ltb, le-leb, eq-eqb}
use Rattle.lt_terms.specs.Bytes.{u16, u32}
use Rattle.lt_format.specs.declared.node_id.NodeId.{NodeId}
use Rattle.lt_format.specs.Trie.{Node, Trie, node_cmp, node_extents, named, is_node, is_last_level, is_shaped, groups_for}
use Rattle.lt_format.specs.Snapshot.{numbers, node_bytes, nodes_bytes, node_read, nodes_read, follows}
use Rattle.lt_format.proofs.Numbers.{times-append, times-below, below-times, few-below}
use Rattle.lt_format.proofs.ShapeLaws.{is_fine, shaped-inner, shaped-last}
use Rattle.lt_format.proofs.SpellLaws.{Spells, spells-rest, u8-reads, u16-reads, u32-reads, AreFresh, extents_at-reads}

-- ---- one node

pub eight_small : (level : ℕ) → level < 5 → 8 ^ level ≤ 4096
eight_small zero h = omega arith
eight_small (suc zero) h = omega arith
eight_small (suc (suc zero)) h = omega arith
eight_small (suc (suc (suc zero))) h = omega arith
eight_small (suc (suc (suc (suc zero)))) h = omega arith
eight_small (suc (suc (suc (suc (suc level))))) h = absurd (omega arith)

fresh-front : (extents : ℕ) (xs ys before : List ℕ) → AreFresh extents (xs ++ ys) before → AreFresh extents xs before
fresh-front extents xs ys before f = record {
  below = below-times extents xs (λ x past. omega (arith, times-below extents (xs ++ ys) f.below x past, times-append x xs ys));
  once = λ x. omega (arith, f.once x, times-append x xs ys);
}

fresh-rest : (extents : ℕ) (xs ys before : List ℕ) → AreFresh extents (xs ++ ys) before → AreFresh extents ys (xs ++ before)
fresh-rest extents xs ys before f = record {
  below = below-times extents ys (λ x past. omega (arith, times-below extents (xs ++ ys) f.below x past, times-append x xs ys));
  once = λ x. omega (arith, f.once x, times-append x xs ys, times-append x xs before);
}

fresh-few : (extents : ℕ) (xs before : List ℕ) → AreFresh extents xs before → length xs ≤ extents
fresh-few extents xs before f = few-below extents xs (λ x. omega (arith, f.once x)) f.below

-- what the fields of a node say
record NodeFields (levels extents : ℕ) (id : NodeId) (n : Node) : Type 0 where
  level : id.level < levels
  number : id.number < 8 ^ id.level
  base : n.base ≤ cond (is_last_level levels id) extents 0
  tables : 1 ≤ length n.tables
  groups : length n.groups ≡ cond (is_last_level levels id) (groups_for (length n.tables)) 0

node_fields : (levels extents : ℕ) (id : NodeId) (n : Node) → is_fine levels extents (id, n) ≡ true → NodeFields levels extents id n
node_fields levels extents id n fine =
    let c = and_parts _ (is_shaped levels extents id n) fine in
    let b = and_parts (is_node levels id) (nat_le 1 (length n.tables)) c.0 in
    let a = and_parts (nat_lt id.level levels) (nat_lt id.number (8 ^ id.level)) b.0 in
    let shape = by_level (is_last_level levels id) refl c.1 in
    record { level = ltb-true _ _ a.0; number = ltb-true _ _ a.1; base = shape.0; tables = leb-true _ _ b.1; groups = shape.1 }
  where
    by_level : (b : Bool) → is_last_level levels id ≡ b → is_shaped levels extents id n ≡ true → (n.base ≤ cond b extents 0) × (length n.groups ≡ cond b (groups_for (length n.tables)) 0)
    by_level true last h = shaped-last levels extents id n last h
    by_level false inner h = let s = shaped-inner levels extents id n inner h in (omega (arith, s.0), s.1)

-- the bytes after each field
abbrev after_level : NodeId → Node → List ℕ → List ℕ
after_level id n rest = u16 id.number ++ (u32 n.base ++ (u32 (length n.tables) ++ (u32 (length n.groups) ++ (numbers n.tables ++ (numbers n.groups ++ rest)))))

regrouped : (id : NodeId) (n : Node) (rest : List ℕ) → node_bytes (id, n) ++ rest ≡ id.level ∷ after_level id n rest
regrouped id n rest = ap (λ xs. id.level ∷ (u16 id.number ++ (u32 n.base ++ (u32 (length n.tables) ++ (u32 (length n.groups) ++ xs))))) (append_assoc (numbers n.tables) (numbers n.groups) rest)

no_more : (b : Bool) (extents : ℕ) → extents ≤ 65536 → cond b extents 0 ≤ 65536
no_more true extents few = few
no_more false extents few = omega arith

pub length-numbers : (xs : List ℕ) → length (numbers xs) ≡ 4 * length xs
length-numbers [] = refl
length-numbers (x ∷ xs) = let rest : length (numbers xs) ≡ 4 * length xs = length-numbers xs in omega arith

node_read-reads : (bytes : ℕ → ℕ) (limit levels extents : ℕ) (last_id : Option NodeId) (before : List ℕ) (at next : ℕ) (id : NodeId) (n : Node) (rest : List ℕ) → levels ≤ 5 → extents ≤ 65536 → is_fine levels extents (id, n) ≡ true → follows last_id id ≡ true
    → AreFresh extents (node_extents n) before → Spells bytes at (node_bytes (id, n) ++ rest) → at + (15 + 4 * length (node_extents n)) ≡ next → next ≤ limit → node_read bytes limit levels extents last_id before at ≡ Ok ((id, n), next)
unfolding node_read
node_read-reads bytes limit levels extents last_id before at next id n rest deep few fine comes fresh s reached room =
    let f = node_fields levels extents id n fine in
    let level : id.level < levels = f.level in
    let number : id.number < 8 ^ id.level = f.number in
    let small : 8 ^ id.level ≤ 4096 = eight_small id.level (omega arith) in
    let many : length (node_extents n) ≡ length n.tables + length n.groups = length-append n.tables n.groups in
    let most : length (node_extents n) ≤ extents = fresh-few extents (node_extents n) before fresh in
    let base : n.base ≤ cond (is_last_level levels id) extents 0 = f.base in
    let top : cond (is_last_level levels id) extents 0 ≤ 65536 = no_more (is_last_level levels id) extents few in
    let x5 : List ℕ = numbers n.tables ++ (numbers n.groups ++ rest) in
    let x4 : List ℕ = u32 (length n.groups) ++ x5 in
    let x3 : List ℕ = u32 (length n.tables) ++ x4 in
    let x2 : List ℕ = u32 n.base ++ x3 in
    let s0 : Spells bytes at (id.level ∷ after_level id n rest) = subst (Spells bytes at) (regrouped id n rest) s in
    let s1 : Spells bytes (at + 1) (after_level id n rest) = spells-rest bytes at (at + 1) (id.level ∷ []) (after_level id n rest) s0 refl in
    let s2 = spells-rest bytes (at + 1) (at + 3) (u16 id.number) x2 s1 (omega arith) in
    let s3 = spells-rest bytes (at + 3) (at + 7) (u32 n.base) x3 s2 (omega arith) in
    let s4 = spells-rest bytes (at + 7) (at + 11) (u32 (length n.tables)) x4 s3 (omega arith) in
    let s5 = spells-rest bytes (at + 11) (at + 15) (u32 (length n.groups)) x5 s4 (omega arith) in
    let s6 = spells-rest bytes (at + 15) (at + 15 + 4 * length n.tables) (numbers n.tables) (numbers n.groups ++ rest) s5 (ap (λ k. at + 15 + k) (length-numbers n.tables)) in
    let r0 = u8-reads bytes limit (λ l. nat_lt l levels) at (at + 1) id.level (after_level id n rest) s0 refl (omega arith) (lt-ltb _ _ level) in
    let r1 = u16-reads bytes limit (λ k. nat_lt k (8 ^ id.level) && follows last_id (record { level = id.level; number = k })) (at + 1) (at + 3) id.number x2 s1 (omega arith) (omega arith) (omega arith) (and_from _ _ (lt-ltb _ _ number) comes) in
    let r2 = u32-reads bytes limit (λ b. nat_le b (cond (is_last_level levels id) extents 0)) (at + 3) (at + 7) n.base x3 s2 (omega arith) (omega arith) (omega arith) (le-leb _ _ base) in
    let r3 = u32-reads bytes limit (λ t. nat_le 1 t && nat_le t extents) (at + 7) (at + 11) (length n.tables) x4 s3 (omega arith) (omega arith) (omega arith) (and_from _ _ (le-leb _ _ f.tables) (le-leb _ _ (omega arith))) in
    let r4 = u32-reads bytes limit (λ k. k == cond (is_last_level levels id) (groups_for (length n.tables)) 0) (at + 11) (at + 15) (length n.groups) x5 s4 (omega arith) (omega arith) (omega arith) (eq-eqb _ _ f.groups) in
    let r5 = extents_at-reads bytes limit extents n.tables (numbers n.groups ++ rest) before (at + 15) (at + 15 + 4 * length n.tables) (omega arith) (fresh-front extents n.tables n.groups before fresh) s5 refl (omega arith) in
    let r6 = extents_at-reads bytes limit extents n.groups rest (n.tables ++ before) (at + 15 + 4 * length n.tables) next (omega arith) (fresh-rest extents n.tables n.groups before fresh) s6 (omega arith) room in
    rw (r0, r1, r2, r3, r4, r5, r6) refl

pub length-node : (id : NodeId) (n : Node) → length (node_bytes (id, n)) ≡ 15 + 4 * length (node_extents n)
length-node id n =
    omega (arith, length-append (numbers n.tables) (numbers n.groups), length-numbers n.tables, length-numbers n.groups, length-append n.tables n.groups)

-- ---- all nodes

-- all names of a trie come after this one, if there is one
abbrev pub all_follow : Option NodeId → Trie → Bool
all_follow None trie = true
all_follow (Some id) trie = below_all node_cmp id trie

first_follows : (last_id : Option NodeId) (e : NodeId × Node) (es : Trie) → all_follow last_id (e ∷ es) ≡ true → follows last_id e.0 ≡ true
first_follows None e es h = refl
first_follows (Some id) e es h = (and_parts (is_lt (node_cmp id e.0)) (below_all node_cmp id es) h).0

pub nodes_read-reads : (bytes : ℕ → ℕ) (limit levels extents : ℕ) (last_id : Option NodeId) (before : List ℕ) (at next : ℕ) (trie : Trie) (rest : List ℕ) → levels ≤ 5 → extents ≤ 65536 → list_all (is_fine levels extents) trie ≡ true → is_sorted node_cmp trie ≡ true → all_follow last_id trie ≡ true
    → AreFresh extents (named trie) before → Spells bytes at (nodes_bytes trie ++ rest) → at + length (nodes_bytes trie) ≡ next → next ≤ limit → nodes_read bytes limit levels extents (length trie) last_id before at ≡ Ok (trie, next)
unfolding nodes_read
nodes_read-reads bytes limit levels extents last_id before at next [] rest deep few fine rising comes fresh s reached room = ap (λ n. Ok ([], n)) (omega arith)
nodes_read-reads bytes limit levels extents last_id before at next (e ∷ es) rest deep few fine rising comes fresh s reached room =
    let all = and_parts (is_fine levels extents e) (list_all (is_fine levels extents) es) fine in
    let order = and_parts (below_all node_cmp e.0 es) (is_sorted node_cmp es) rising in
    let size : length (node_bytes e) ≡ 15 + 4 * length (node_extents e.1) = length-node e.0 e.1 in
    let whole : length (nodes_bytes (e ∷ es)) ≡ length (node_bytes e) + length (nodes_bytes es) = length-append (node_bytes e) (nodes_bytes es) in
    let here : Spells bytes at (node_bytes e ++ (nodes_bytes es ++ rest)) = subst (Spells bytes at) (append_assoc (node_bytes e) (nodes_bytes es) rest) s in
    let behind : ℕ = at + length (node_bytes e) in
    let later : Spells bytes behind (nodes_bytes es ++ rest) = spells-rest bytes at behind (node_bytes e) (nodes_bytes es ++ rest) here refl in
    let first = node_read-reads bytes limit levels extents last_id before at behind e.0 e.1 (nodes_bytes es ++ rest) deep few all.0 (first_follows last_id e es comes) (fresh-front extents (node_extents e.1) (named es) before fresh) here (omega arith) (omega arith) in
    let others = nodes_read-reads bytes limit levels extents (Some e.0) (node_extents e.1 ++ before) behind next es rest deep few all.1 order.1 order.0 (fresh-rest extents (node_extents e.1) (named es) before fresh) later (omega arith) room in
    rw (first, others) refl

-- ---- how long they are

pub nodes_short : (levels extents : ℕ) (trie : Trie) → list_all (is_fine levels extents) trie ≡ true → (length trie ≤ length (named trie)) × (length (nodes_bytes trie) ≤ 19 * length (named trie))
nodes_short levels extents [] fine = (omega arith, omega arith)
nodes_short levels extents (e ∷ es) fine =
    let all = and_parts (is_fine levels extents e) (list_all (is_fine levels extents) es) fine in
    let f = node_fields levels extents e.0 e.1 all.0 in
    let some : 1 ≤ length e.1.tables = f.tables in
    let rest = nodes_short levels extents es all.1 in
    let size : length (node_bytes e) ≡ 15 + 4 * length (node_extents e.1) = length-node e.0 e.1 in
    let whole : length (nodes_bytes (e ∷ es)) ≡ length (node_bytes e) + length (nodes_bytes es) = length-append (node_bytes e) (nodes_bytes es) in
    let named_here : length (named (e ∷ es)) ≡ length (node_extents e.1) + length (named es) = length-append (node_extents e.1) (named es) in
    let many : length (node_extents e.1) ≡ length e.1.tables + length e.1.groups = length-append e.1.tables e.1.groups in
    (omega (arith, rest.0), omega (arith, rest.1))
