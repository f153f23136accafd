-- What stands at a place among nodes in order, and what a change there makes of them.
use Rattle.std.proofs.Common.{◌≡◌, ◌≢◌, ℕ, zero, suc, ◌+◌, ◌<◌, ◌≤◌, refl, sym, ap, subst, ◌∙◌, Bool, true, false, not, cond, ◌&&◌, Some, Result, Ok, Err, List, [], ◌∷◌, length, get_or, set, ⊎_elim, arith}
use Rattle.std.specs.Prelude.{◌==◌}
use Rattle.std.specs.declared.cmp.Ordering.{Ordering}
use Rattle.std.specs.declared.cmp.Ordering.TheVariants.{Less, Equal, Greater}
use Rattle.std.specs.Ordering.{is_eq, is_lt, ordering_index, ordering_reverse}
use Rattle.std.specs.Cmp.{tied_itself}
use Rattle.std.specs.FinMap.{find, put, is_sorted}
use Rattle.std.specs.FinMap.Entries.{where_key, below_all, by_order}
use Rattle.std.specs.List.{insert, remove, fold}
use Rattle.std.specs.List.Sorted.{IsNonDecreasingBy, IsBinarySearchResult, IsSearchInRange}
use Rattle.std.proofs.lemmas.Bool.{and_parts, cases_eq}
use Rattle.std.proofs.lemmas.List.Sorted.{IsNonDecreasingBy-from_default}
use Rattle.lt_format.specs.declared.node_id.NodeId.{NodeId}
use Rattle.lt_format.specs.Trie.{Node, Trie, root, empty_node, node_cmp, same_node, with_node}
use Rattle.lt_format.proofs.TrieLaws.{node_total, node_exact, is_less, find-below, below-less, where_key-below, with_node-rising}
use Rattle.lt_node.specs.Changing.{with_entry}
use Rattle.lt_node.specs.Places.{StandsAt, WouldStandAt, IsPlace}

-- the entry read past the end
abbrev none : NodeId × Node
none = (root, empty_node)

turned : (a b : NodeId) (o : Ordering) → node_cmp a b ≡ o → node_cmp b a ≡ ordering_reverse o
turned a b o e = node_total.antisymm b a ∙ ap ordering_reverse e

itself : (a : NodeId) → node_cmp a a ≡ Equal
itself a = tied_itself node_total a

-- later names are greater
later : (id : NodeId) (es : Trie) (j : ℕ) → below_all node_cmp id es ≡ true → j < length es → node_cmp id (get_or es j none).0 ≡ Less
later id [] j h within = absurd (omega arith)
later id (e ∷ es) zero h within = is_less _ (and_parts (is_lt (node_cmp id e.0)) (below_all node_cmp id es) h).0
later id (e ∷ es) (suc j) h within = later id es j (and_parts (is_lt (node_cmp id e.0)) (below_all node_cmp id es) h).1 (omega arith)

rising : (es : Trie) (i j : ℕ) → is_sorted node_cmp es ≡ true → i < j → j < length es → node_cmp (get_or es i none).0 (get_or es j none).0 ≡ Less
rising [] i j h before within = absurd (omega arith)
rising (e ∷ es) i zero h before within = absurd (omega arith)
rising (e ∷ es) zero (suc j) h before within = later e.0 es j (and_parts (below_all node_cmp e.0 es) (is_sorted node_cmp es) h).0 (omega arith)
rising (e ∷ es) (suc i) (suc j) h before within = rising es i j (and_parts (below_all node_cmp e.0 es) (is_sorted node_cmp es) h).1 (omega arith) (omega arith)

-- ---- a node that stands among them

passes : (id : NodeId) (e : NodeId × Node) (es : Trie) (i : ℕ) → node_cmp id e.0 ≡ Greater → StandsAt es id i → StandsAt (e ∷ es) id (suc i)
passes id e es i after s =
    let other : same_node id e.0 ≡ false = ap is_eq after in
    let within : i < length es = s.within in
    record {
      within = omega arith;
      found = λ d. ap (λ b. cond b (Some e.1) (find node_cmp id es)) other ∙ s.found d;
      put = λ n. ap (λ o. by_order o ((id, n) ∷ e ∷ es) ((e.0, n) ∷ es) (e ∷ put node_cmp id n es)) after ∙ ap (λ r. e ∷ r) (s.put n);
      gone = ap (λ b. cond (not b) (e ∷ where_key node_cmp (λ q. not (same_node id q)) es) (where_key node_cmp (λ q. not (same_node id q)) es)) other ∙ ap (λ r. e ∷ r) s.gone;
    }

first : (id : NodeId) (e : NodeId × Node) (es : Trie) → e.0 ≡ id → below_all node_cmp e.0 es ≡ true → StandsAt (e ∷ es) id zero
first id e es same below =
    let tie : node_cmp id e.0 ≡ Equal = subst (λ q. node_cmp id q ≡ Equal) (sym same) (itself id) in
    let here : same_node id e.0 ≡ true = ap is_eq tie in
    let above : below_all node_cmp id es ≡ true = subst (λ q. below_all node_cmp q es ≡ true) same below in
    record {
      within = omega arith;
      found = λ d. ap (λ b. cond b (Some e.1) (find node_cmp id es)) here;
      put = λ n. ap (λ o. by_order o ((id, n) ∷ e ∷ es) ((e.0, n) ∷ es) (e ∷ put node_cmp id n es)) tie ∙ ap (λ q. (q, n) ∷ es) same;
      gone = ap (λ b. cond (not b) (e ∷ where_key node_cmp (λ q. not (same_node id q)) es) (where_key node_cmp (λ q. not (same_node id q)) es)) here ∙ where_key-below id es above;
    }

pub stands : (es : Trie) (id : NodeId) (i : ℕ) → is_sorted node_cmp es ≡ true → i < length es → (get_or es i none).0 ≡ id → StandsAt es id i
stands [] id i h within same = absurd (omega arith)
stands (e ∷ es) id zero h within same = first id e es same (and_parts (below_all node_cmp e.0 es) (is_sorted node_cmp es) h).0
stands (e ∷ es) id (suc i) h within same =
    let parts = and_parts (below_all node_cmp e.0 es) (is_sorted node_cmp es) h in
    let before : node_cmp e.0 id ≡ Less = subst (λ q. node_cmp e.0 q ≡ Less) same (later e.0 es i parts.0 (omega arith)) in
    passes id e es i (turned e.0 id Less before) (stands es id i parts.1 (omega arith) same)

-- ---- a node that does not

passes_gap : (id : NodeId) (e : NodeId × Node) (es : Trie) (i : ℕ) → node_cmp id e.0 ≡ Greater → WouldStandAt es id i → WouldStandAt (e ∷ es) id (suc i)
passes_gap id e es i after s =
    let other : same_node id e.0 ≡ false = ap is_eq after in
    let within : i ≤ length es = s.within in
    record {
      within = omega arith;
      missing = ap (λ b. cond b (Some e.1) (find node_cmp id es)) other ∙ s.missing;
      put = λ n. ap (λ o. by_order o ((id, n) ∷ e ∷ es) ((e.0, n) ∷ es) (e ∷ put node_cmp id n es)) after ∙ ap (λ r. e ∷ r) (s.put n);
      gone = ap (λ b. cond (not b) (e ∷ where_key node_cmp (λ q. not (same_node id q)) es) (where_key node_cmp (λ q. not (same_node id q)) es)) other ∙ ap (λ r. e ∷ r) s.gone;
    }

before_all : (id : NodeId) (e : NodeId × Node) (es : Trie) → node_cmp id e.0 ≡ Less → below_all node_cmp e.0 es ≡ true → WouldStandAt (e ∷ es) id zero
before_all id e es before below =
    let rest : below_all node_cmp id es ≡ true = below-less id e.0 es before below in
    let all : below_all node_cmp id (e ∷ es) ≡ true = ap (λ o. is_lt o && below_all node_cmp id es) before ∙ rest in
    record {
      within = omega arith;
      missing = find-below id (e ∷ es) all;
      put = λ n. ap (λ o. by_order o ((id, n) ∷ e ∷ es) ((e.0, n) ∷ es) (e ∷ put node_cmp id n es)) before;
      gone = where_key-below id (e ∷ es) all;
    }

pub would_stand : (es : Trie) (id : NodeId) (i : ℕ) → is_sorted node_cmp es ≡ true → i ≤ length es → ((k : ℕ) → k < i → node_cmp (get_or es k none).0 id ≡ Less) → ((k : ℕ) → i ≤ k → k < length es → node_cmp (get_or es k none).0 id ≡ Greater) → WouldStandAt es id i
would_stand [] id zero h within low high = record { within = omega arith; missing = refl; put = λ n. refl; gone = refl }
would_stand [] id (suc i) h within low high = absurd (omega arith)
would_stand (e ∷ es) id zero h within low high = before_all id e es (turned e.0 id Greater (high 0 (omega arith) (omega arith))) (and_parts (below_all node_cmp e.0 es) (is_sorted node_cmp es) h).0
would_stand (e ∷ es) id (suc i) h within low high =
    passes_gap id e es i (turned e.0 id Less (low 0 (omega arith)))
    (would_stand es id i (and_parts (below_all node_cmp e.0 es) (is_sorted node_cmp es) h).1 (omega arith) (λ k under. low (suc k) (omega arith)) (λ k over in_range. high (suc k) (omega arith) (omega arith)))

-- ---- what a binary search answers

abbrev pub beside : NodeId → NodeId × Node → Ordering
beside id e = node_cmp e.0 id

index_rises : (a b id : NodeId) → node_cmp a b ≡ Less → ordering_index (node_cmp a id) ≤ ordering_index (node_cmp b id)
index_rises a b id less = by_order_of (node_cmp b id) refl
  where
    by_order_of : (o : Ordering) → node_cmp b id ≡ o → ordering_index (node_cmp a id) ≤ ordering_index o
    by_order_of Less e = subst (λ o. ordering_index o ≤ 0) (sym (node_total.trans a b id less e)) (omega arith)
    by_order_of Equal e = subst (λ o. ordering_index o ≤ 1) (sym (subst (λ q. node_cmp a q ≡ Less) (node_exact b id e) less)) (omega arith)
    by_order_of Greater e = most (node_cmp a id)
      where
        most : (o : Ordering) → ordering_index o ≤ 2
        most Less = omega arith
        most Equal = omega arith
        most Greater = omega arith

comparisons_rise : (es : Trie) (id : NodeId) → is_sorted node_cmp es ≡ true → IsNonDecreasingBy (λ e. ordering_index (beside id e)) es
comparisons_rise es id h = IsNonDecreasingBy-from_default (λ e. ordering_index (beside id e)) es none (λ i j le within.
    ⊎_elim (λ (same : i ≡ j). subst (λ k. ordering_index (beside id (get_or es i none)) ≤ ordering_index (beside id (get_or es k none))) same (omega arith))
    (λ other. index_rises (get_or es i none).0 (get_or es j none).0 id (rising es i j h (let apart : i ≢ j = other in omega arith) within))
    (cases_eq i j))

pub searched : (es : Trie) (id : NodeId) (r : Result ℕ ℕ) → is_sorted node_cmp es ≡ true → IsSearchInRange r (length es) → IsBinarySearchResult (beside id) es r → IsPlace es id r
searched es id (Ok i) h within tie = stands es id i h within (node_exact _ id (tie none))
searched es id (Err i) h within parted =
    let point = parted (comparisons_rise es id h) in
    would_stand es id i h within (λ k under. point.0 k none (omega arith) under) (λ k over in_range. point.1 k none over in_range)

-- ---- a node is set at its place

pub set_gone : (es : Trie) (id : NodeId) (node : Node) → (length node.tables == 0) ≡ true → with_node es id node ≡ where_key node_cmp (λ q. not (same_node id q)) es
unfolding with_node
set_gone es id node e = ap (λ b. cond b (where_key node_cmp (λ q. not (same_node id q)) es) (put node_cmp id node es)) e

pub set_put : (es : Trie) (id : NodeId) (node : Node) → (length node.tables == 0) ≡ false → with_node es id node ≡ put node_cmp id node es
unfolding with_node
set_put es id node e = ap (λ b. cond b (where_key node_cmp (λ q. not (same_node id q)) es) (put node_cmp id node es)) e

-- the place is read of a slice and of a name that the entry shows
module _ (es shown : Trie) (e : NodeId × Node) (id : NodeId) (tables : List ℕ) (shows : shown ≡ es) (same : id ≡ e.0) (piles : tables ≡ e.1.tables) where
  there : (i : ℕ) → StandsAt shown id i → StandsAt es e.0 i
  there i s = subst (λ q. StandsAt es q i) same (subst (λ t. StandsAt t id i) shows s)

  nowhere : (i : ℕ) → WouldStandAt shown id i → WouldStandAt es e.0 i
  nowhere i s = subst (λ q. WouldStandAt es q i) same (subst (λ t. WouldStandAt t id i) shows s)

  empty : (b : Bool) → b ≡ (length tables == 0) → (length e.1.tables == 0) ≡ b
  empty b told = ap (λ (t : List ℕ). length t == 0) (sym piles) ∙ sym told

  pub taken_out : (i : ℕ) → StandsAt shown id i → true ≡ (length tables == 0) → remove es i ≡ with_entry es e
  taken_out i s told = sym (there i s).gone ∙ sym (set_gone es e.0 e.1 (empty true told))

  pub replaced : (i : ℕ) → StandsAt shown id i → false ≡ (length tables == 0) → set es i e ≡ with_entry es e
  replaced i s told = sym ((there i s).put e.1) ∙ sym (set_put es e.0 e.1 (empty false told))

  pub left_out : (i : ℕ) → WouldStandAt shown id i → true ≡ (length tables == 0) → es ≡ with_entry es e
  left_out i s told = sym (nowhere i s).gone ∙ sym (set_gone es e.0 e.1 (empty true told))

  pub put_in : (i : ℕ) → WouldStandAt shown id i → false ≡ (length tables == 0) → insert es i e ≡ with_entry es e
  put_in i s told = sym ((nowhere i s).put e.1) ∙ sym (set_put es e.0 e.1 (empty false told))

-- ---- nodes are set one after another

-- what is left to set leads to what is wanted, and there is room for it
pub record Sets (wanted es rest : Trie) (len capacity : ℕ) : Type 0 where
  pub leads : fold with_entry es rest ≡ wanted
  pub sorted : is_sorted node_cmp es ≡ true
  pub room : len + length rest ≤ capacity

pub sets_next : (wanted es rest after : Trie) (e : NodeId × Node) (now : Trie) (len capacity len' capacity' : ℕ) → Sets wanted es rest len capacity → rest ≡ e ∷ after → now ≡ with_entry es e → len' ≤ len + 1 → capacity ≤ capacity' → Sets wanted now after len' capacity'
sets_next wanted es rest after e now len capacity len' capacity' s cut is grown kept =
    let one : length rest ≡ length (e ∷ after) = ap length cut in
    let room : len + length rest ≤ capacity = s.room in
    record {
      leads = ap (λ t. fold with_entry t after) is ∙ ap (λ r. fold with_entry es r) (sym cut) ∙ s.leads;
      sorted = subst (λ t. is_sorted node_cmp t ≡ true) (sym is) (with_node-rising es e.0 e.1 s.sorted);
      room = omega arith;
    }

pub none_left : (es : Trie) → length es ≡ 0 → es ≡ []
none_left [] h = refl
none_left (e ∷ es) h = absurd (omega arith)
